use Rattle.std.proofs.lemmas.Result.{on_ok_weaker}
use Rattle.px_verify_rounds.specs.Typings.{table_of}
use Rattle.px_verify_kinds.specs.Stacks.{kinds_of}
use Rattle.px_verify_rounds.proofs.Begins.{begins_changed, begins_still}
use Rattle.px_verify_rounds.proofs.rounds.begin_one.Goals as goal

pub returns-then-branch-clause-begins : goal.returns-then-branch-clause-begins
returns-then-branch-clause-begins c =
    on_ok_weaker c.add.result
    (begins_changed c.args.program.now.types c.args.start (kinds_of c.args.typing.now.stacks c.args.given) (table_of c.args.typing.now) (table_of c.give.new.self) c.args.set.now c.add.new.set (rw c.if-branch.true at c.in_ok-give.ensures.gave))
    c.add.ensures

pub returns-else-branch-clause-begins : goal.returns-else-branch-clause-begins
returns-else-branch-clause-begins c =
    begins_still c.args.program.now.types c.args.start (kinds_of c.args.typing.now.stacks c.args.given) (table_of c.args.typing.now) (table_of c.give.new.self) c.args.set.now (rw c.if-branch.false at c.in_ok-give.ensures.gave)
