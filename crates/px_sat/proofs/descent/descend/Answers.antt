use Rattle.std.proofs.Common.{◌≡◌, ◌∙◌, ap, sym, subst, arith}
use Rattle.std.specs.Prelude.{is_some}
use Rattle.px_trail.specs.declared.outcome.Outcome.{Outcome}
use Rattle.px_trail.specs.Outcome.{IsOutcome}
use Rattle.px_sat.specs.Descent.{Decides}
use Rattle.px_sat.proofs.Descents.{comes-decided, comes-start, comes-whole, down-decided, down-same, down-start}
use Rattle.px_sat.proofs.Orders.{below_at}
use Rattle.px_sat.proofs.descent.descend.Goals as goal
use Rattle.px_sat.proofs.descent.descend.Goals.{In_ok-number}

pub literal-x-requires : goal.literal-x-requires
literal-x-requires c =
    let below = below_at c.args.order.now c.variables-variable-items.result.now c.loop-variable.variable-index c.variables-variable-items.ensures.all c.loop-variable-test.true in
    omega (arith, below, c.variables-variable-items.ensures.few)

pub decide-requires-clause-over : goal.decide-requires-clause-over
decide-requires-clause-over c =
    let below = below_at c.args.order.now c.variables-variable-items.result.now c.loop-variable.variable-index c.variables-variable-items.ensures.all c.loop-variable-test.true in
    omega (arith, below, c.literal-x.ensures, c.requires.vars, c.loop-variable.invariant.vars)

decided : (c : In_ok-number) (outcome : Outcome) → c.in_ok-number.field-0 ≡ outcome → Decides c.loop-variable.trail c.literal-x.result c.decide.new.trail c.decide.new.decisions.items outcome
decided c outcome e = subst (λ (o : Outcome). Decides c.loop-variable.trail c.literal-x.result c.decide.new.trail c.decide.new.decisions.items o) e c.in_ok-number.ensures.decides

pub returns-in-Conflict-2-clause-comes_to : goal.returns-in-Conflict-2-clause-comes_to
returns-in-Conflict-2-clause-comes_to c =
    comes-decided c.loop-variable.trail c.decide.new.trail c.literal-x.result c.loop-variable.decisions.items c.decide.new.decisions.items c.variables-variable-items.result.now c.loop-variable.variable-index
    c.loop-variable.invariant.down c.decide.ensures.vars c.decide.ensures.clauses c.in-Conflict-2.number
    (decided (goal.at.returns-in-Conflict-2-clause-comes_to c).In_ok-number _ c.in-Conflict-2.is)

pub loop-variable-preserved : goal.loop-variable-preserved
loop-variable-preserved c = record {
  down = down-decided c.loop-variable.trail c.decide.new.trail c.literal-x.result c.loop-variable.decisions.items c.decide.new.decisions.items c.variables-variable-items.result.now
      c.loop-variable.variable-index c.loop-variable.invariant.down c.decide.ensures.vars c.decide.ensures.clauses c.loop-variable-test.true c.literal-x.ensures
      (decided (goal.at.loop-variable-preserved c).In_ok-number _ c.in_default-2.is);
  vars = c.decide.ensures.vars ∙ c.loop-variable.invariant.vars;
  clauses = c.decide.ensures.clauses ∙ c.loop-variable.invariant.clauses;
}

pub returns-clause-comes_to : goal.returns-clause-comes_to
returns-clause-comes_to c =
    comes-whole c.loop-variable.trail c.loop-variable.decisions.items c.variables-variable-items.result.now c.loop-variable.variable-index c.args.order.now c.loop-variable.invariant.down
    c.loop-variable-test.false c.variables-variable-items.ensures.all (c.requires.vars ∙ sym c.loop-variable.invariant.vars)

pub loop-variable-init : goal.loop-variable-init
loop-variable-init c = record {
  down = down-start c.args.trail.now c.propagate.new.self c.args.decisions.now.items c.variables-variable-items.result.now c.requires.undecided c.propagate.ensures.goes_on c.requires.empty
      (subst (IsOutcome c.propagate.new.self) c.in_default.is c.propagate.ensures.outcome);
  vars = c.propagate.ensures.goes_on.vars;
  clauses = c.propagate.ensures.goes_on.clauses;
}

pub returns-in-Conflict-clause-comes_to : goal.returns-in-Conflict-clause-comes_to
returns-in-Conflict-clause-comes_to c =
    comes-start c.args.trail.now c.propagate.new.self c.args.decisions.now.items c.in-Conflict.number c.requires.undecided c.propagate.ensures.goes_on c.requires.empty
    (subst (IsOutcome c.propagate.new.self) c.in-Conflict.is c.propagate.ensures.outcome)

pub loop-variable-preserved-then-is_some : goal.loop-variable-preserved-then-is_some
loop-variable-preserved-then-is_some c = record {
  down = down-same c.loop-variable.trail c.loop-variable.decisions.items c.variables-variable-items.result.now c.loop-variable.variable-index c.loop-variable-test.true
      c.loop-variable.invariant.down (ap is_some (sym c.value.ensures) ∙ sym c.is_some.ensures ∙ c.if-is_some.true);
  vars = c.loop-variable.invariant.vars;
  clauses = c.loop-variable.invariant.clauses;
}
