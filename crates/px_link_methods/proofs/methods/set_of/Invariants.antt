use Rattle.std.proofs.Common.{◌≡◌, take}
use Rattle.px_link_methods.proofs.methods.set_of.Given as goal

abbrev pub invariant-loop-row : goal.invariant-loop-row
invariant-loop-row l = l.set.keys ≡ take l.row-index l.rows
