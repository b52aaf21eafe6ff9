use Rattle.std.proofs.Common.{arith}
use Rattle.px_meta.proofs.Blobs.{short_found}
use Rattle.px_link_reach.proofs.body.blob_in.Goals as goal

pub returns-clause-short : goal.returns-clause-short
returns-clause-short c = short_found (λ x. x.now) c.args.heap.now c.args.at c.blob_at.result (λ k. omega (arith, c.type_inv.heap k)) c.blob_at.ensures
