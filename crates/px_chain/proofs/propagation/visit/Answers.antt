use Rattle.std.proofs.Common.{◌/◌, ◌<◌, ◌∷◌, [], length, arith}
use Rattle.px_chain.specs.Clause.{variable_of}
use Rattle.px_chain.proofs.Closures.{IsSound-marked, follow-nothing, follow-single}
use Rattle.px_chain.proofs.Members.{has_from_all}
use Rattle.px_chain.proofs.propagation.visit.Goals as goal

pub mark_each-requires-in-Single : goal.mark_each-requires-in-Single
mark_each-requires-in-Single c =
    let below = has_from_all (λ l. variable_of l < length c.args.marks.now / 2) c.args.clause.now c.requires c.in-Single.l c.in-Single.ensures.0 in (omega (arith, below), tt)

pub returns-in-Nothing-clause-sound : goal.returns-in-Nothing-clause-sound
returns-in-Nothing-clause-sound c = λ clauses given there sound.
    IsSound-marked c.args.marks.now c.mark_each.new.marks c.args.clause.now c.mark_each.ensures.marked clauses given sound
    (follow-nothing clauses given c.args.marks.now c.args.clause.now there sound c.in-Nothing.ensures)

pub returns-in-Single-clause-sound : goal.returns-in-Single-clause-sound
returns-in-Single-clause-sound c = λ clauses given there sound.
    IsSound-marked c.args.marks.now c.mark_each-in-Single.new.marks (c.in-Single.l ∷ []) c.mark_each-in-Single.ensures.marked clauses given sound
    (follow-single clauses given c.args.marks.now c.args.clause.now there sound c.in-Single.l c.in-Single.ensures)
