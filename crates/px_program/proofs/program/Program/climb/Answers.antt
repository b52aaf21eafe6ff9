use Rattle.px_program.proofs.Leaps.{climbed_last, climbed_on, count_derived, deeper}
use Rattle.px_program.proofs.program.Program.climb.Goals as goal

pub towards-at-requires : goal.towards-at-requires
towards-at-requires c = deeper c.args.self.now.types c.loop-count.at c.args.depth c.loop-count.count c.loop-count.invariant.has c.loop-count-test.true

pub loop-count-smaller : goal.loop-count-smaller
loop-count-smaller c = count_derived c.args.self.now.types c.loop-count.at c.towards-at.result c.loop-count.count c.step-count-in-loop-count.result.depth c.loop-count.invariant.has c.towards-at.ensures.derives c.step-count-in-loop-count.ensures.depth

pub loop-count-preserved : goal.loop-count-preserved
loop-count-preserved c =
    climbed_on c.args.self.now.types c.args.type_number c.args.depth c.loop-count.at c.loop-count.count c.towards-at.result c.step-count-in-loop-count.result c.loop-count.invariant c.towards-at.ensures.derives c.towards-at.ensures.deep c.step-count-in-loop-count.ensures

pub returns-clause-depth : goal.returns-clause-depth
returns-clause-depth c = climbed_last c.args.self.now.types c.args.type_number c.args.depth c.loop-count.at c.loop-count.count c.loop-count.invariant c.loop-count-test.false
