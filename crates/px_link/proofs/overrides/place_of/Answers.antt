use Rattle.px_link.proofs.Overriding.{place_past, place_told}
use Rattle.px_link.proofs.overrides.place_of.Goals as goal

pub returns-in-Some : goal.returns-in-Some
returns-in-Some c = place_told c.args.numbers.now.keys c.args.row c.in-Some.number c.in-Some.ensures.index

pub returns-in-None : goal.returns-in-None
returns-in-None c = place_past c.args.numbers.now.keys c.args.row c.len.result c.in-None.ensures.index c.len.ensures.len
