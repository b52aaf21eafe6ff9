use Rattle.std.proofs.Common.{◌≡◌, Some, subst}
use Rattle.px_program.specs.Formed.{entry_of}
use Rattle.px_simple.proofs.Typed.{entry_typed}
use Rattle.px_simple.proofs.accepted.Simple.entry.Goals as goal

pub returns-clause-typed : goal.returns-clause-typed
returns-clause-typed c = entry_typed c.self.inside.verified c.entry_of.result.now c.self.invariant (subst (λ program. entry_of program ≡ Some c.entry_of.result.now) c.program.ensures.same c.entry_of.ensures)
