use Rattle.px_verify_rounds.specs.Typings.{table_of}
use Rattle.px_verify_rounds.proofs.Begins.{first_between}
use Rattle.px_verify_rounds.proofs.rounds.settle_from.Goals as goal

pub settle-requires-clause-between : goal.settle-requires-clause-between
settle-requires-clause-between c =
    first_between c.args.program.now c.args.method.now (table_of c.args.typing.now) (table_of c.begin.new.typing) c.new-later.result (record { now = c.new-now.result; later = c.begin.new.set }) c.requires.untyped c.in_ok-begin.ensures.begins c.new-now.ensures.len
