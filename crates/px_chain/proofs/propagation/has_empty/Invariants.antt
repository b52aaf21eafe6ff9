use Rattle.std.proofs.Common.{ℕ, ◌<◌, ◌≡◌, [], Some}
use Rattle.std.specs.List.{slice_get}
use Rattle.px_chain.proofs.propagation.has_empty.Given as goal

abbrev pub invariant-loop-number : goal.invariant-loop-number
invariant-loop-number l = (k : ℕ) → k < l.number → slice_get l.premises.clauses k ≡ Some [] → ⊥
