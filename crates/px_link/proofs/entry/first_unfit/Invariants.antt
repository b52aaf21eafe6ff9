use Rattle.std.proofs.Common.{◌≡◌, ◌≤◌, drop}
use Rattle.px_link.specs.Link.{unfit_from}
use Rattle.px_link.proofs.entry.first_unfit.Given as goal

-- those so far can be given
abbrev pub invariant-loop-at : goal.invariant-loop-at
invariant-loop-at l = record { few : l.at ≤ 16; same : unfit_from 0 l.params ≡ unfit_from l.at (drop l.at l.params) }
