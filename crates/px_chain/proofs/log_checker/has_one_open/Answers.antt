use Rattle.std.proofs.Common.{◌∙◌, sym}
use Rattle.std.proofs.lemmas.Bool.{both_ways, false≢true}
use Rattle.px_chain.specs.Propagation.{HasOneOpen}
use Rattle.px_chain.proofs.Conflicts.{not_iff, one_open-single, one_open-marked, one_open-nothing, one_open-several}
use Rattle.px_chain.proofs.log_checker.has_one_open.Goals as goal

pub returns-in-Nothing : goal.returns-in-Nothing
returns-in-Nothing c = λ clauses given is.
    (λ e. absurd (false≢true e), λ one. absurd (one_open-nothing clauses given c.args.marks.now c.args.clause.now is c.in-Nothing.ensures one))

pub returns-in-Single : goal.returns-in-Single
returns-in-Single c = λ clauses given is.
    not_iff c.is_marked.result (HasOneOpen clauses given c.args.clause.now)
    (λ no. one_open-single clauses given c.args.marks.now c.args.clause.now is c.in-Single.l c.in-Single.ensures (λ h. both_ways c.is_marked.result no (c.is_marked.ensures ∙ h)))
    (λ yes one. one_open-marked clauses given c.args.marks.now c.args.clause.now is c.in-Single.l c.in-Single.ensures (sym c.is_marked.ensures ∙ yes) one)

pub returns-in-Several : goal.returns-in-Several
returns-in-Several c = λ clauses given is.
    (λ e. absurd (false≢true e), λ one. absurd (one_open-several clauses given c.args.marks.now c.args.clause.now is c.in-Several.ensures one))
