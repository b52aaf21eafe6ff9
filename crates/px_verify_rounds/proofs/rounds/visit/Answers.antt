use Rattle.std.proofs.lemmas.Result.{on_ok_weaker}
use Rattle.px_verify_rounds.specs.Typings.{table_of}
use Rattle.px_verify_rounds.proofs.Visits.{visits_none, visits_one}
use Rattle.px_verify_rounds.proofs.rounds.visit.Goals as goal

pub returns-in-Some-clause-visits : goal.returns-in-Some-clause-visits
returns-in-Some-clause-visits c =
    on_ok_weaker c.give_outcome.result
    (visits_one c.args.program.now c.args.method.now c.args.at c.in-Some.instr.now (table_of c.args.typing.now) (table_of c.give_outcome.new.typing) c.args.work.now c.give_outcome.new.work c.in-Some.ensures)
    c.give_outcome.ensures.gives

pub returns-in-None-clause-visits : goal.returns-in-None-clause-visits
returns-in-None-clause-visits c =
    visits_none c.args.program.now c.args.method.now c.args.at (table_of c.args.typing.now) c.args.work.now c.in-None.ensures
