use Rattle.std.proofs.Common.{arith}
use Rattle.px_verify.proofs.Alike.{typed_as_first}
use Rattle.px_verify.proofs.check.check_next.Goals as goal

pub returns-else-first_like-number : goal.returns-else-first_like-number
returns-else-first_like-number c =
    typed_as_first c.args.program.now c.args.number c.first_like.result c.args.method.now c.requires.below (omega (arith, c.first_like.ensures.earlier, c.if-first_like-number.false)) c.requires.at c.first_like.ensures.alike
