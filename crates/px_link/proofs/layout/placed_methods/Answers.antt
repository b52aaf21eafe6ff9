use Rattle.std.proofs.Common.{refl, arith}
use Rattle.std.specs.Prelude.{slice_get}
use Rattle.std.proofs.lemmas.Option.{slice_get-get_or, slice_get_within}
use Rattle.px_link.proofs.Placing.{placed_all, placed_more}
use Rattle.px_link.proofs.layout.placed_methods.Goals as goal

pub loop-n-preserved : goal.loop-n-preserved
loop-n-preserved c =
    let rows = c.args.rows.now in
    placed_more (slice_get rows) c.loop-n.n c.loop-n.placed.items c.push.new.self.items _ c.loop-n.invariant (slice_get-get_or rows c.loop-n.n 0 (omega arith)) refl c.in_ok-push.ensures.items

pub returns : goal.returns
returns c =
    let rows = c.args.rows.now in
    placed_all (slice_get rows) c.loop-n.n c.loop-n.placed.items (λ n r is. let less = slice_get_within rows n r is in omega (arith, less)) c.loop-n.invariant
