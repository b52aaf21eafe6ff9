use Rattle.std.proofs.Common.{sym, ◌∙◌, arith, length}
use Rattle.std.proofs.lemmas.Result.{err_from_is_err_and}
use Rattle.std.proofs.lemmas.Grind.{elements}
use Rattle.px_code.specs.Body.{instr_at, instrs_from}
use Rattle.px_code.proofs.Following.{follows, some_of}
use Rattle.px_code.proofs.Front.{one_more, refused_here, at_end, fails_on}
use Rattle.px_code.proofs.read.instrs_of.Goals as goal

pub returns-in_err-instr-clause-gives : goal.returns-in_err-instr-clause-gives
returns-in_err-instr-clause-gives c =
    let base = c.args.base in
    let code = c.args.code.now in
    let p = err_from_is_err_and c.from_residual.result c.from_residual.ensures.1 in
    rw (p.1, p.2)
    (fails_on c.in_err-instr.field-0.0 (instr_at base code c.loop-at.at) (instrs_from (length code) base code 0) c.in_err-instr.ensures.gives
    (λ f is. sym c.loop-at.invariant.front ∙ refused_here c.loop-at.instrs.items base code c.loop-at.at f c.loop-at-test.true is))

pub loop-at-preserved : goal.loop-at-preserved
loop-at-preserved c = record {
  inside = c.in_ok-instr.ensures.stands.within;
  short = grind (arith, elements);
  front = rw c.in_ok-push.ensures.items
      (sym (one_more c.loop-at.instrs.items c.args.base c.args.code.now c.loop-at.at c.in_ok-instr.instr c.loop-at-test.true c.in_ok-instr.ensures.stands.later c.in_ok-instr.ensures.gives)
      ∙ c.loop-at.invariant.front);
}

pub returns-clause-gives : goal.returns-clause-gives
returns-clause-gives c = sym c.loop-at.invariant.front ∙ at_end c.loop-at.instrs.items c.args.base c.args.code.now c.loop-at.at c.loop-at-test.false

pub returns-clause-follow : goal.returns-clause-follow
returns-clause-follow c = follows (length c.args.code.now) c.args.base c.args.code.now 0 c.loop-at.instrs.items (returns-clause-gives c)

pub returns-clause-some : goal.returns-clause-some
returns-clause-some c = λ some. some_of (length c.args.code.now) c.args.base c.args.code.now c.loop-at.instrs.items some some (returns-clause-gives c)
