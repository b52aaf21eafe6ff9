use Rattle.std.proofs.Common.{arith}
use Rattle.px_verify.proofs.Tables.{places_handed}
use Rattle.px_verify.proofs.numbering.places_at.Goals as goal

pub returns-else-first-number : goal.returns-else-first-number
returns-else-first-number c =
    places_handed c.args.program.now.methods c.args.number c.first_like-first.result c.args.method.now c.args.tables.now c.index-tables-first.result c.share.result c.requires.tabled (omega (arith, c.first_like-first.ensures.earlier, c.if-first-number.false)) c.requires.at c.first_like-first.ensures.alike
    c.index-tables-first.is c.share.ensures
