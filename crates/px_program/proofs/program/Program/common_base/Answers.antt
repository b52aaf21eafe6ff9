use Rattle.px_program.proofs.Leaps.{derived_falls, sought_even, sought_first, sought_next, sought_none}
use Rattle.px_program.proofs.program.Program.common_base.Goals as goal

pub loop-at-init : goal.loop-at-init
loop-at-init c =
    let has = c.step.ensures.depth in
    let has_too = c.step-2.ensures.depth in (
      c.min-depth.result,
      sought_first c.args.self.now.types c.args.one c.args.other c.climb-at.result c.climb-beside.result c.step.result.depth c.step-2.result.depth c.min-depth.result has has_too c.min-depth.ensures
          c.climb-at.ensures.kind (c.climb-at.ensures.depth c.step.result.depth has) c.climb-beside.ensures.kind (c.climb-beside.ensures.depth c.step-2.result.depth has_too),
    )

pub both_on-requires-clause-even : goal.both_on-requires-clause-even
both_on-requires-clause-even c = sought_even c.args.self.now.types c.args.one c.args.other c.loop-at.at c.loop-at.beside c.loop-at.invariant

pub returns-in_default : goal.returns-in_default
returns-in_default c = sought_none c.args.self.now.types c.args.one c.args.other c.loop-at.at c.loop-at.beside c.loop-at.invariant c.in_default.ensures

pub loop-at-smaller : goal.loop-at-smaller
loop-at-smaller c =
    let derives = c.in-Some.ensures.derives in
    derived_falls c.args.self.now.types c.requires.types.bases derives.steps c.loop-at.at c.in-Some.next.0 derives.way

pub loop-at-preserved : goal.loop-at-preserved
loop-at-preserved c = sought_next c.args.self.now.types c.requires.types.bases c.args.one c.args.other c.loop-at.at c.loop-at.beside c.in-Some.next.0 c.in-Some.next.1 c.loop-at.invariant c.in-Some.ensures
