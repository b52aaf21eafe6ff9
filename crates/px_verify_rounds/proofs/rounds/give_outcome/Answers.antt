use Rattle.std.proofs.Common.{◌∙◌}
use Rattle.std.proofs.lemmas.Result.{on_ok_weaker}
use Rattle.px_verify_rounds.specs.Typings.{table_of}
use Rattle.px_verify_rounds.proofs.Laws.{laws}
use Rattle.px_verify_rounds.proofs.Visits.{gives_given}
use Rattle.px_verify_rounds.proofs.rounds.give_outcome.Goals as goal

pub returns-in_ok-to-in-Stack-clause-gives : goal.returns-in_ok-to-in-Stack-clause-gives
returns-in_ok-to-in-Stack-clause-gives c =
    on_ok_weaker c.give_all.result
    (gives_given c.args.program.now c.args.method.now c.args.instr.now c.outcome.new.self.stacks c.in-Stack.given c.deref.result.now (table_of c.args.typing.now) (table_of c.outcome.new.self) (table_of c.give_all.new.typing) c.args.work.now c.give_all.new.work
    laws c.requires.types (rw c.in-Stack.is at c.in_ok-given.ensures.gives) c.outcome.ensures.same (c.deref.ensures.value ∙ c.in_ok-to-in-Stack.ensures))
    c.give_all.ensures.spreads
