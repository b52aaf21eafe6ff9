use Rattle.std.proofs.Common.{◌≡◌, drop}
use Rattle.px_link.specs.Overrides.{first_of}
use Rattle.px_link.proofs.overrides.first_of.Given as goal

-- those so far are of other types
abbrev pub invariant-loop-row : goal.invariant-loop-row
invariant-loop-row l = first_of l.meta l.class l.overriders ≡ first_of l.meta l.class (drop l.row-index l.overriders)
