use Rattle.std.proofs.Common.{arith}
use Rattle.std.proofs.lemmas.Grind.{common_steps}
use Rattle.std.proofs.lemmas.List.Elements.{All-more}
use Rattle.px_asm_bodies.specs.Parts.{IsNarrow}
use Rattle.px_asm_bodies.proofs.clause.push_clauses.Goals as goal

pub loop-clause-preserved : goal.loop-clause-preserved
loop-clause-preserved c = record {
  pushed = grind (arith, common_steps);
  narrow = All-more IsNarrow c.args.clauses.now c.loop-clause.clause-index _ c.loop-clause-test.true c.loop-clause.invariant.narrow c.push_clause.ensures.narrow;
}
