-- Laws of resolution, and of logs of genuine conflicts.
use Rattle.std.specs.Prelude.{◌≡◌, ◌≢◌, ◌<◌, ◌^◌, ℕ, List, Ok, true, length, map}
use Rattle.std.specs.List.{AllByRecursion, AllPairs}
use Rattle.px_chain.specs.declared.chain.Chain.{Chain}
use Rattle.px_chain.specs.declared.chain.LogEntry.{LogEntry}
use Rattle.px_chain.specs.Clause.{Valuation, Formula, MeetsAll, clause_of, meets, variable_of}
use Rattle.px_chain.specs.Propagation.{IsGenuineLog}
use Rattle.px_chain.specs.Resolution.{Refutes, derived}

-- an assignment that meets the clauses meets what a chain resolves to over them
abbrev pub ResolutionIsSound : Type 0
ResolutionIsSound = (a : Valuation) (clauses : List (List ℕ)) (chain : Chain) (clause : List ℕ) → MeetsAll a clauses → derived clauses chain ≡ Ok clause → meets a clause ≡ true

-- no assignment meets clauses that chains refute
abbrev pub RefutedIsUnmet : Type 0
RefutedIsUnmet = (a : Valuation) (clauses : List (List ℕ)) (chains : List Chain) → Refutes clauses chains → MeetsAll a clauses → ⊥

-- the clauses that a log learns, in order
abbrev pub learnt_by : List LogEntry → List (List ℕ)
learnt_by log = map (λ (entry : LogEntry). clause_of entry.chain.claim) log

-- no two literals of the clause have one variable
abbrev pub HoldsNoVariableTwice : List ℕ → Type 0
HoldsNoVariableTwice clause = AllPairs (λ l m. variable_of l ≢ variable_of m) clause

-- no two clauses that a genuine log learns are one
abbrev pub LearntClausesDiffer : Type 0
LearntClausesDiffer = (f : Formula) (log : List LogEntry) → IsGenuineLog f log → AllPairs (λ c d. c ≢ d) (learnt_by log)

-- none of them holds a variable twice
abbrev pub LearntClausesHoldNoVariableTwice : Type 0
LearntClausesHoldNoVariableTwice = (f : Formula) (log : List LogEntry) → IsGenuineLog f log → AllByRecursion HoldsNoVariableTwice (learnt_by log)

-- a variable stands in such a clause with one sign, with the other or not at all, and none of them is empty: there are fewer of them than 3 to the
-- power of the variables
abbrev pub GenuineLogsAreShort : Type 0
GenuineLogsAreShort = (f : Formula) (log : List LogEntry) → IsGenuineLog f log → length log < 3 ^ f.vars
