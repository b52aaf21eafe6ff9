use Rattle.px_sat.specs.Order.{HasAllBelow}
use Rattle.px_sat.proofs.order.Order.new.Given as goal

abbrev pub invariant-loop-variable : goal.invariant-loop-variable
invariant-loop-variable l = HasAllBelow l.variable l.variables.items
