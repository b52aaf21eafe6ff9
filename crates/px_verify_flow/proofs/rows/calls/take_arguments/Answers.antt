use Rattle.std.proofs.Common.{◌∙◌, sym}
use Rattle.std.proofs.lemmas.Result.{err_from_is_err_and}
use Rattle.px_verify_kinds.specs.Stacks.{kinds_of}
use Rattle.px_verify_flow.proofs.Arguments.{fit_none, fit_on, high_on, left_on}
use Rattle.px_verify_flow.proofs.rows.calls.take_arguments.Goals as goal

pub returns-in_err-rest : goal.returns-in_err-rest
returns-in_err-rest c =
    let p = err_from_is_err_and c.from_residual.result c.from_residual.ensures.1 in
    rw (p.1, p.2)
    (sym c.loop-index.invariant.fit ∙ fit_none c.args.program.now.types c.args.params.now c.loop-index.index _ (kinds_of c.args.stacks.now c.loop-index.rest) c.loop-index-test.true c.loop-index.auto.index c.loop-index.invariant.high c.in_err-rest.ensures.0, c.in_err-rest.ensures.1)

pub loop-index-preserved : goal.loop-index-preserved
loop-index-preserved c =
    let some = c.loop-index-test.true in
    let stack = kinds_of c.args.stacks.now c.loop-index.rest in
    let below = kinds_of c.args.stacks.now c.in_ok-rest.rest in
    record {
      fit = fit_on c.args.program.now.types c.args.params.now c.loop-index.index _ stack below some c.loop-index.auto.index c.loop-index.invariant.high c.in_ok-rest.ensures.0 c.in_ok-rest.ensures.1 ∙ c.loop-index.invariant.fit;
      left = left_on c.loop-index.index stack below some c.in_ok-rest.ensures.1 ∙ c.loop-index.invariant.left;
      high = high_on c.loop-index.index stack below c.loop-index.invariant.high c.in_ok-rest.ensures.1;
      there = c.in_ok-rest.ensures.2;
    }
