use Rattle.std.proofs.Common.{◌≡◌, ◌∙◌, ap, sym, subst, drop, true, false, List, ℕ}
use Rattle.std.specs.Prelude.{codes, nat_eq}
use Rattle.std.specs.List.{starts_with}
use Rattle.std.proofs.lemmas.Result.{err_from_is_err_and}
use Rattle.px_domain.specs.Args.{element_at}
use Rattle.px_domain.specs.Reading.{FailsAt}
use Rattle.px_domain.proofs.Arguments.{all_listed, closed, element_failed, element_read}
use Rattle.px_domain.proofs.cursor.Cursor.elements.Goals as goal

pub returns-then-is_next-clause-gathers : goal.returns-then-is_next-clause-gathers
returns-then-is_next-clause-gathers c =
    let next : starts_with nat_eq (drop c.loop.self.at c.args.self.now.text.now) (codes "]") ≡ true =
    ap (λ (bs : List ℕ). starts_with nat_eq (drop c.loop.self.at bs) (codes "]")) (sym c.loop.invariant.text) ∙ sym c.is_next.ensures ∙ c.if-is_next.true in
    closed c.args.range.now c.args.most c.loop.counter c.loop.gap.now c.args.self.now.text.now c.args.self.now.at c.loop.self.at c.loop.words c.loop-test.true next c.loop.invariant.listing

pub returns-in_err-word-clause-gathers : goal.returns-in_err-word-clause-gathers
returns-in_err-word-clause-gathers c =
    let next : starts_with nat_eq (drop c.loop.self.at c.args.self.now.text.now) (codes "]") ≡ false =
    ap (λ (bs : List ℕ). starts_with nat_eq (drop c.loop.self.at bs) (codes "]")) (sym c.loop.invariant.text) ∙ sym c.is_next.ensures ∙ c.if-is_next.false in
    let fails : FailsAt c.in_err-word.field-0.0 (element_at c.args.range.now c.loop.gap.now c.args.self.now.text.now c.loop.self.at) =
    subst (λ (bs : List ℕ). FailsAt c.in_err-word.field-0.0 (element_at c.args.range.now c.loop.gap.now bs c.loop.self.at)) c.loop.invariant.text c.in_err-word.ensures.reads in
    let exit = err_from_is_err_and c.from_residual.result c.from_residual.ensures.1 in
    rw (exit.1, exit.2) (element_failed c.args.range.now c.args.most c.loop.counter c.loop.gap.now c.args.self.now.text.now c.args.self.now.at c.loop.self.at c.loop.words c.in_err-word.field-0.0
    c.loop-test.true next fails c.loop.invariant.listing)

pub loop-preserved : goal.loop-preserved
loop-preserved c =
    let next : starts_with nat_eq (drop c.loop.self.at c.args.self.now.text.now) (codes "]") ≡ false =
    ap (λ (bs : List ℕ). starts_with nat_eq (drop c.loop.self.at bs) (codes "]")) (sym c.loop.invariant.text) ∙ sym c.is_next.ensures ∙ c.if-is_next.false in
    record {
      text = c.in_ok-word.ensures.text ∙ c.loop.invariant.text;
      listing = element_read c.args.range.now c.args.most c.loop.counter c.loop.gap.now c.args.self.now.text.now c.args.self.now.at c.loop.self.at c.element.new.self.at c.in_ok-word.word c.loop.words c.push.new.self
          c.loop-test.true next (ap (λ (bs : List ℕ). element_at c.args.range.now c.loop.gap.now bs c.loop.self.at) (sym c.loop.invariant.text) ∙ c.in_ok-word.ensures.reads) c.in_ok-push.ensures.ok c.loop.invariant.listing;
    }

pub returns-clause-gathers : goal.returns-clause-gathers
returns-clause-gathers c =
    all_listed c.args.range.now c.args.most c.loop.counter c.loop.gap.now c.args.self.now.text.now c.args.self.now.at c.loop.self.at c.loop.words c.loop-test.false c.loop.invariant.listing
