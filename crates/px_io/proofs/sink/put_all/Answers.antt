use Rattle.std.proofs.Common.{rules, ap, ◌∙◌, arith, take, drop, length, ◌-◌}
use Rattle.px_io.specs.Puts.{extended}
use Rattle.px_io.proofs.Putting.{extended_more}
use Rattle.px_io.proofs.sink.put_all.Goals as goal

pub loop-at-preserved : goal.loop-at-preserved
loop-at-preserved g c = record {
  within = search (rules, c.in-Ok.ensures.within);
  taken = c.in-Ok.ensures.taken ∙ ap (λ o. extended o (take c.in-Ok.n (take (length c.args.piece.now - c.loop-at.at) (drop c.loop-at.at c.args.piece.now)))) c.loop-at.invariant.taken ∙ extended_more (g.O.Sink.written c.args.out.now) c.args.piece.now c.loop-at.at c.in-Ok.n;
  count = omega (arith, c.loop-at.invariant.count, c.write.ensures.count);
}
