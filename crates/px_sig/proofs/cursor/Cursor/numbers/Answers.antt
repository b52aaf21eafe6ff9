use Rattle.std.proofs.Common.{◌∙◌, sym, arith}
use Rattle.px_sig.specs.Grammar.{number_at}
use Rattle.px_sig.proofs.Many.{one_more, one_of}
use Rattle.px_sig.proofs.cursor.Cursor.numbers.Goals as goal

pub loop-preserved : goal.loop-preserved
loop-preserved c =
    let left = one_of c.in_ok-count.count c.loop.counter c.loop-test.true in
    record {
      blob = c.number-in-loop.ensures.blob ∙ c.loop.invariant.blob;
      later = omega (arith, c.in_ok-number.ensures.later);
      rest = sym (one_more (number_at _) _ c.loop.self.at _ (rw c.loop.invariant.blob at c.in_ok-number.ensures.reads)) ∙ (rw left at c.loop.invariant.rest);
    }
