use Rattle.std.proofs.Common.{◌≡◌, ◌++◌, ◌+◌, ◌-◌, length, arith, sym, ◌∙◌, ap}
use Rattle.std.proofs.lemmas.Result.{err_from_is_err_and}
use Rattle.px_domain.specs.Domain.{InDomain}
use Rattle.px_io.proofs.Putting.{puts_more, puts_none, puts_as, puts_err}
use Rattle.px_tests.specs.Text.{tests_text}
use Rattle.px_tests.proofs.Tests.{tests_more, tests_later, later, one_of}
use Rattle.px_tests.proofs.report.put_tests.Goals as goal

pub loop-number-init : goal.loop-number-init
loop-number-init g c = puts_none g.O.Sink.written g.O.Sink.faults c.args.out.now tt

pub put_test-requires : goal.put_test-requires
put_test-requires g c = one_of (λ r. InDomain c.args.domain.now r.words) c.args.records.now c.loop-number.number c.index-records-number.result (omega arith) c.index-records-number.is c.requires

pub loop-number-preserved : goal.loop-number-preserved
loop-number-preserved g c =
    puts_as g.O.Sink.written g.O.Sink.faults c.args.out.now c.put_test.new.out _ _ _
    (sym (tests_more c.args.program.now c.args.domain.now c.args.records.now c.loop-number.number c.index-records-number.result (omega arith) c.index-records-number.is))
    (puts_more g.O.Sink.written g.O.Sink.faults c.args.out.now c.loop-number.out c.put_test.new.out _ _ tt _ c.loop-number.invariant c.in_ok-put_test.ensures)

pub returns-in_err-put_test : goal.returns-in_err-put_test
returns-in_err-put_test g c =
    let p = err_from_is_err_and c.from_residual.result c.from_residual.ensures.1 in
    let rest = later c.args.program.now c.args.domain.now c.args.records.now (c.loop-number.number + 1) (length c.args.records.now - (c.loop-number.number + 1)) in
    puts_as g.O.Sink.written g.O.Sink.faults c.args.out.now c.put_test.new.out _ _ c.from_residual.result
    (ap (λ t. t ++ rest) (sym (tests_more c.args.program.now c.args.domain.now c.args.records.now c.loop-number.number c.index-records-number.result (omega arith) c.index-records-number.is))
    ∙ sym (tests_later c.args.program.now c.args.domain.now c.args.records.now (c.loop-number.number + 1) (length c.args.records.now - (c.loop-number.number + 1)) (length c.args.records.now) (omega arith)))
    (puts_err g.O.Sink.written g.O.Sink.faults c.args.out.now c.put_test.new.out _ _ c.in_err-put_test.field-0.0 p.0 c.from_residual.result p.1
    (puts_more g.O.Sink.written g.O.Sink.faults c.args.out.now c.loop-number.out c.put_test.new.out _ _ tt _ c.loop-number.invariant c.in_err-put_test.ensures))

pub returns : goal.returns
returns g c =
    let e : c.loop-number.number ≡ length c.args.records.now = omega arith in
    puts_as g.O.Sink.written g.O.Sink.faults c.args.out.now c.loop-number.out _ _ _ (ap (λ n. tests_text c.args.program.now c.args.domain.now c.args.records.now n) e) c.loop-number.invariant
