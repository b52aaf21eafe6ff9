use Rattle.std.proofs.lemmas.Result.{err_from_is_err_and}
use Rattle.px_verify_flow.proofs.Arguments.{takes_all, takes_none}
use Rattle.px_verify_flow.proofs.rows.calls.take_all.Goals as goal

pub returns-in_err-rest : goal.returns-in_err-rest
returns-in_err-rest c =
    let p = err_from_is_err_and c.from_residual.result c.from_residual.ensures.1 in
    rw (p.1, p.2) (takes_none c.args.program.now.types c.args.receiver c.args.params.now c.args.stacks.now c.args.stack c.in_err-rest.field-0.0 c.requires.high c.in_err-rest.ensures)

pub returns : goal.returns
returns c = takes_all c.args.program.now.types c.args.receiver c.args.params.now c.args.stacks.now c.args.stack c.in_ok-rest.rest _ c.requires.high c.in_ok-rest.ensures c.take_receiver.ensures
