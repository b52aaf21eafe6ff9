-- A table of marks, one for each literal, as the set of the literals that follow.
use Rattle.std.specs.Prelude.{◌≡◌, ◌≢◌, ◌↔◌, ◌⊎◌, ℕ, suc, ◌<◌, List, [], ◌∷◌, Bool, true, false, if◌then◌else◌, slice_index_or}
use Rattle.std.specs.List.{AllByRecursion}
use Rattle.px_chain.specs.declared.chain.LogEntry.{LogEntry}
use Rattle.px_chain.specs.declared.propagation.Open.{Open}
use Rattle.px_chain.specs.declared.propagation.Open.TheVariants as opens
use Rattle.px_chain.specs.Clause.{IsOver, complement, has, variable_of}
use Rattle.px_chain.specs.Propagation.{Closed, HasOneOpen, IsConflict, IsFalse, IsUnassigned}

-- the literal is in the set
abbrev pub Has : List Bool → ℕ → Type 0
Has marks l = slice_index_or marks l false ≡ true

-- the literal is false in the set
abbrev pub HasFalse : List Bool → ℕ → Type 0
HasFalse marks l = Has marks (complement l)

-- every literal in the set follows
abbrev pub IsSound : List (List ℕ) → List ℕ → List Bool → Type 0
IsSound clauses given marks = (l : ℕ) → Has marks l → Closed clauses given l

-- the set is that of the literals that follow
abbrev pub IsClosure : List (List ℕ) → List ℕ → List Bool → Type 0
IsClosure clauses given marks = (l : ℕ) → Has marks l ↔ Closed clauses given l

-- a literal of a clause whose other literals are false is in the set
abbrev pub IsClosedUnder : List Bool → List ℕ → Type 0
IsClosedUnder marks clause = (l : ℕ) → has clause l ≡ true → ((m : ℕ) → has clause m ≡ true → m ≢ l → HasFalse marks m) → Has marks l

-- the second set has what the first has
abbrev pub KeepsMarks : List Bool → List Bool → Type 0
KeepsMarks old new = (l : ℕ) → Has old l → Has new l

-- the literals that are given are those in a set, all of which follow from them, and some others
pub record Adds (clauses : List (List ℕ)) (given : List ℕ) (marks : List Bool) (literals : List ℕ) : Type 0 where
  pub sound : IsSound clauses given marks
  pub are_given : (l : ℕ) → has literals l ≡ true → has given l ≡ true
  pub all : (l : ℕ) → has given l ≡ true → Has marks l ⊎ (has literals l ≡ true)

-- how many literals are not in the set
abbrev pub unmarked : List Bool → ℕ
unmarked [] = 0
unmarked (mark ∷ marks) = if mark then unmarked marks else suc (unmarked marks)

-- which literals of a clause aren't false: none; one; or two and maybe more
abbrev pub CountsOpen : List Bool → List ℕ → Open → Type 0
CountsOpen marks clause opens.Nothing = (m : ℕ) → has clause m ≡ true → HasFalse marks m
CountsOpen marks clause (opens.Single l) = (has clause l ≡ true) × (HasFalse marks l → ⊥) × ((m : ℕ) → has clause m ≡ true → m ≢ l → HasFalse marks m)
CountsOpen marks clause opens.Several =
    (l : ℕ) × (m : ℕ) × (has clause l ≡ true) × (has clause m ≡ true) × (l ≢ m) × (HasFalse marks l → ⊥) × (HasFalse marks m → ⊥)

-- what holds of a genuine conflict before its last decision
pub record IsBeforeConflict (clauses : List (List ℕ)) (entry : LogEntry) : Type 0 where
  pub quiet : IsConflict clauses entry.decisions → ⊥
  pub last_open : IsUnassigned clauses entry.decisions entry.last
  pub one_open : HasOneOpen clauses entry.decisions entry.chain.claim

-- and with it
pub record IsClash (clauses : List (List ℕ)) (given claim : List ℕ) : Type 0 where
  pub clash : IsConflict clauses given
  pub learnt_false : AllByRecursion (IsFalse clauses given) claim

-- an entry without its chain
pub record MeetsConflict (vars : ℕ) (clauses : List (List ℕ)) (entry : LogEntry) : Type 0 where
  pub decisions_over : IsOver vars entry.decisions
  pub last_over : variable_of entry.last < vars
  pub claim_over : IsOver vars entry.chain.claim
  pub before : IsBeforeConflict clauses entry
  pub after : IsClash clauses (entry.last ∷ entry.decisions) entry.chain.claim
