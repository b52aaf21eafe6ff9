use Rattle.std.proofs.Common.{arith, sym, subst, ◌∙◌, ap}
use Rattle.std.specs.Prelude.{slice_set}
use Rattle.px_program.specs.Bases.{IsSettled, step_on}
use Rattle.px_program.proofs.Leaps.{LeadsTo, base_within, leads_back, leads_on, settled_on, walk_falls}
use Rattle.px_program.proofs.type_table.settle.Goals as goal

pub loop-base-smaller : goal.loop-base-smaller
loop-base-smaller c = walk_falls c.args.types.now c.requires.ends c.loop-base.at c.in-Some.base c.in-Some.ensures

pub loop-base-preserved : goal.loop-base-preserved
loop-base-preserved c =
    subst (λ way. LeadsTo c.args.types.now c.args.number way c.in-Some.base) (sym c.in_ok-push.ensures.items)
    (leads_on c.args.types.now c.args.number c.loop-base.way.items c.loop-base.at c.in-Some.base c.loop-base.invariant c.in-Some.ensures)

pub index_mut-requires : goal.index_mut-requires
index_mut-requires c =
    let way = c.in-Some-pop.ensures.items in
    let back = leads_back c.args.types.now c.args.number c.pop.new.self.items c.in-Some-pop.above c.loop-above.at (subst (λ way. LeadsTo c.args.types.now c.args.number way c.loop-above.at) way c.loop-above.invariant.leads) in
    omega (arith, base_within c.args.types.now c.in-Some-pop.above c.loop-above.at back.1, c.loop-above.invariant.settled.size, c.loop-above.steps.ok)

pub loop-above-preserved : goal.loop-above-preserved
loop-above-preserved c =
    let types = c.args.types.now in
    let way = c.in-Some-pop.ensures.items in
    let back = leads_back types c.args.number c.pop.new.self.items c.in-Some-pop.above c.loop-above.at (subst (λ way. LeadsTo types c.args.number way c.loop-above.at) way c.loop-above.invariant.leads) in
    let settled = settled_on types c.args.steps.now.items c.loop-above.steps.items c.loop-above.at c.in-Some-pop.above c.loop-above.invariant.settled (base_within types c.in-Some-pop.above c.loop-above.at back.1) back.1 in
    record {
      leads = back.0;
      settled = subst (λ step. IsSettled types c.args.steps.now.items (slice_set c.loop-above.steps.items c.in-Some-pop.above step) c.in-Some-pop.above) (sym (c.in_ok-step.ensures ∙ ap (λ steps. step_on steps c.loop-above.at) c.deref-in-Some-pop.ensures.value)) settled;
    }
