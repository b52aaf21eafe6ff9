use Rattle.px_meta.specs.Faults.{Bases, Outers}
use Rattle.px_meta.proofs.Blame.{at_false, at_true, chain_blamed, list_blamed, name_blamed, names_from, type_sound}
use Rattle.px_meta.proofs.types.read_type.Goals as goal
use Rattle.px_meta.proofs.types.read_type.Goals.{then-not-bases_end-via-then-not-bases_end, then-not-bases_end-via-else-not-bases_end+then-not-outers_end}

pub returns-then-not-has_lists-clause-fault : goal.returns-then-not-has_lists-clause-fault
returns-then-not-has_lists-clause-fault c = list_blamed c.args.tables.now c.args.row c.at.result c.requires.row c.at.ensures c.if-not-has_lists.ensures

pub returns-in_default-clause-fault : goal.returns-in_default-clause-fault
returns-in_default-clause-fault c = name_blamed c.args.tables.now c.args.row c.at-in_default.result c.requires.row c.at-in_default.ensures c.if-not-has_lists.ensures (rw c.in_default.is at c.in_ok-namespace.ensures.names)

pub returns-then-not-bases_end-clause-fault : goal.returns-then-not-bases_end-clause-fault
returns-then-not-bases_end-clause-fault c =
    chain_blamed c.args.tables.now c.args.row c.at-then-not-bases_end.result c.at-then-not-bases_end.ensures c.if-not-has_lists.ensures (names_from _ _ _ c.in-Some.namespace.now c.in-Some.name.now (rw c.in-Some.is at c.in_ok-namespace.ensures.names))
    (elim c.then-not-bases_end.branch [
      | then-not-bases_end-via-then-not-bases_end w ↦ Bases c.args.row c.requires.row (at_false c.args.bases_end _ _ w.if-not-bases_end.true c.requires.bases)
      | then-not-bases_end-via-else-not-bases_end+then-not-outers_end w ↦ Outers c.args.row c.requires.row (at_false c.args.outers_end _ _ w.if-not-outers_end.true c.requires.outers)
    ])

pub returns-clause-sound : goal.returns-clause-sound
returns-clause-sound c =
    type_sound c.args.tables.now c.args.row c.if-not-has_lists.ensures (names_from _ _ _ c.in-Some.namespace.now c.in-Some.name.now (rw c.in-Some.is at c.in_ok-namespace.ensures.names))
    (at_true c.args.bases_end _ _ c.if-not-bases_end.false c.requires.bases) (at_true c.args.outers_end _ _ c.if-not-outers_end.false c.requires.outers)

pub returns-clause-end : goal.returns-clause-end
returns-clause-end c = at_true c.args.bases_end _ _ c.if-not-bases_end.false c.requires.bases
