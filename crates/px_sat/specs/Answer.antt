-- What a search for an assignment comes to.
use Rattle.std.specs.Prelude.{◌≡◌, ◌≤◌, ℕ, List, Bool, false, length, slice_index_or}
use Rattle.px_chain.specs.Clause.{Valuation, Formula, MeetsAll}
use Rattle.px_chain.specs.Propagation.{IsGenuineLog}
use Rattle.px_chain.specs.Resolution.{Refutes}
use Rattle.px_sat.specs.declared.answer.Answer.{Answer}
use Rattle.px_sat.specs.declared.answer.Answer.TheVariants.{Found, Refutation, Spent}

-- the assignment that a list of truth values is, the first that of variable 0
abbrev pub assignment_of : List Bool → Valuation
assignment_of values variable = slice_index_or values variable false

-- Found has a value for each variable and meets every clause. Refutation's chains refute the clauses; all chains but the last are those of the
-- conflicts that were learnt from, which were fewer than the budget. Spent has a genuine log of as many conflicts as the budget allows.
abbrev pub Settles : Formula → ℕ → Answer → Type 0
Settles f budget (Found values) = (length values ≡ f.vars) × MeetsAll (assignment_of values) f.clauses
Settles f budget (Refutation chains) = Refutes f.clauses chains × (length chains ≤ budget)
Settles f budget (Spent log) = IsGenuineLog f log × (length log ≡ budget)

-- the answer that the budget is spent
abbrev pub IsSpent : Answer → Type 0
IsSpent (Found values) = ⊥
IsSpent (Refutation chains) = ⊥
IsSpent (Spent log) = Unit {0}
