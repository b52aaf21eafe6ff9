use Rattle.std.proofs.lemmas.Result.{on_ok_weaker}
use Rattle.px_verify_kinds.specs.Stacks.{kinds_of}
use Rattle.px_verify_rounds.specs.Typings.{table_of}
use Rattle.px_verify_rounds.proofs.Begins.{begins_empty}
use Rattle.px_verify_rounds.proofs.rounds.begin_block.Goals as goal

pub returns-in-Finally-clause-begins : goal.returns-in-Finally-clause-begins
returns-in-Finally-clause-begins c =
    on_ok_weaker c.begin_one.result
    (begins_empty c.args.program.now.types c.args.clause.now (kinds_of c.args.typing.now.stacks c.empty.result) (table_of c.args.typing.now) (table_of c.begin_one.new.typing) c.args.set.now c.begin_one.new.set
    c.in-Finally.is (c.empty.ensures.kinds c.args.typing.now.stacks))
    c.begin_one.ensures.begins
