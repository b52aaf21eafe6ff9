-- What unit propagation gives, as the least set of literals, and logs of genuine conflicts.
use Rattle.std.specs.Prelude.{◌≡◌, ◌≢◌, ℕ, ◌+◌, ◌<◌, List, [], ◌∷◌, ◌++◌, Contains, ◌⊎◌}
use Rattle.std.specs.List.{AllByRecursion}
use Rattle.px_chain.specs.declared.chain.LogEntry.{LogEntry}
use Rattle.px_chain.specs.Clause.{Formula, IsOver, clause_of, complement, variable_of}
use Rattle.px_chain.specs.Resolution.{Derives}

-- The literals that follow from given ones: those, and each literal of a clause whose other literals all have their complements among these.
pub data Closed (clauses : List (List ℕ)) (given : List ℕ) : ℕ → Type 0 where
  Given : (l : ℕ) → Contains given l → Closed clauses given l
  Follows : (clause : List ℕ) (l : ℕ) → Contains clauses clause → Contains clause l
      → ((m : ℕ) → Contains clause m → m ≢ l → Closed clauses given (complement m)) → Closed clauses given l

-- what follows holds a literal and its complement, or a clause is empty
pub data IsConflict (clauses : List (List ℕ)) (given : List ℕ) : Type 0 where
  Both : (l : ℕ) → Closed clauses given l → Closed clauses given (complement l) → IsConflict clauses given
  Empty : Contains clauses [] → IsConflict clauses given

abbrev pub IsFalse : List (List ℕ) → List ℕ → ℕ → Type 0
IsFalse clauses given l = Closed clauses given (complement l)

pub record IsUnassigned (clauses : List (List ℕ)) (given : List ℕ) (l : ℕ) : Type 0 where
  pub literal : Closed clauses given l → ⊥
  pub complement_too : Closed clauses given (complement l) → ⊥

-- One literal of the clause is unassigned, and every other one is false.
pub record HasOneOpen (clauses : List (List ℕ)) (given clause : List ℕ) : Type 0 where
  pub literal : ℕ
  pub within : Contains clause literal
  pub is_open : IsUnassigned clauses given literal
  pub others : (m : ℕ) → Contains clause m → m ≢ literal → IsFalse clauses given m

-- A genuine conflict over clauses: propagation from the decisions meets none and leaves the last decision open; with it, it meets one that
-- makes the learnt clause false; before it, exactly one literal of the learnt clause isn't false, and that one is open; and the chain resolves to it.
pub record IsGenuine (vars : ℕ) (clauses : List (List ℕ)) (entry : LogEntry) : Type 0 where
  pub decisions_over : IsOver vars entry.decisions
  pub last_over : variable_of entry.last < vars
  pub claim_over : IsOver vars entry.chain.claim
  pub quiet : IsConflict clauses entry.decisions → ⊥
  pub last_open : IsUnassigned clauses entry.decisions entry.last
  pub clash : IsConflict clauses (entry.last ∷ entry.decisions)
  pub learnt_false : AllByRecursion (IsFalse clauses (entry.last ∷ entry.decisions)) entry.chain.claim
  pub one_open : HasOneOpen clauses entry.decisions entry.chain.claim
  pub derives : Derives clauses entry.chain

-- each entry is genuine over the formula and the clauses learnt before it
abbrev pub GenuineFrom : ℕ → List (List ℕ) → List LogEntry → Type 0
GenuineFrom vars clauses [] = Unit {0}
GenuineFrom vars clauses (entry ∷ entries) = IsGenuine vars clauses entry × GenuineFrom vars (clauses ++ clause_of entry.chain.claim ∷ []) entries

abbrev pub IsGenuineLog : Formula → List LogEntry → Type 0
IsGenuineLog f log = GenuineFrom f.vars f.clauses log

-- the entry of this number, in a log whose first has the number k, is the first that isn't genuine
abbrev pub FirstBad : ℕ → ℕ → List (List ℕ) → List LogEntry → ℕ → Type 0
FirstBad k vars clauses [] number = ⊥
FirstBad k vars clauses (entry ∷ entries) number =
    ((number ≡ k) × (IsGenuine vars clauses entry → ⊥))
    ⊎ (IsGenuine vars clauses entry × FirstBad (k + 1) vars (clauses ++ clause_of entry.chain.claim ∷ []) entries number)
