use Rattle.std.proofs.Common.{◌∙◌}
use Rattle.px_sig.specs.Grammar.{type_at}
use Rattle.px_sig.proofs.Many.{one_longer, one_of}
use Rattle.px_sig.proofs.cursor.Cursor.types.Goals as goal

pub loop-preserved : goal.loop-preserved
loop-preserved c =
    let blob = c.args.self.now.blob.now in
    let left = one_of c.args.count c.loop.counter c.loop-test.true in
    record {
      blob = c.sig_type.ensures.blob ∙ c.loop.invariant.blob;
      rest =
          rw c.in_ok-push.ensures.items
          ((rw left at c.loop.invariant.rest) ∙ one_longer c.loop.types.items (type_at blob) _ c.loop.self.at _ (rw c.loop.invariant.blob at c.in_ok-sig_type.ensures.makes));
    }
