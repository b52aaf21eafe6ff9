use Rattle.std.proofs.Common.{◌≡◌, take}
use Rattle.px_link.specs.Overrides.{in_order}
use Rattle.px_link.proofs.overrides.rows_in.Given as goal

abbrev pub invariant-loop-row : goal.invariant-loop-row
invariant-loop-row l = l.kept.items ≡ in_order (take l.row-index l.rows) l.set.keys
