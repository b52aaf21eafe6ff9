use Rattle.px_asm_tokens.proofs.BodyFormed.{clauses_more}
use Rattle.px_asm_tokens.proofs.bodies.clauses_of.Goals as goal

pub loop-clause-preserved : goal.loop-clause-preserved
loop-clause-preserved c = clauses_more c.args.rows.now c.args.clauses.now c.loop-clause.clause-index _ c.loop-clause.raws c.push.new.self c.raw_clause.result c.loop-clause.invariant c.loop-clause-test.true c.raw_clause.ensures c.in_ok-push.ensures.ok
