use Rattle.std.proofs.Common.{◌≡◌, drop}
use Rattle.px_link.specs.Overrides.{nearest}
use Rattle.px_link.proofs.overrides.nearest.Given as goal

-- the types so far have none
abbrev pub invariant-loop-class : goal.invariant-loop-class
invariant-loop-class l = nearest l.meta l.chain l.overriders ≡ nearest l.meta (drop l.class-index l.chain) l.overriders
