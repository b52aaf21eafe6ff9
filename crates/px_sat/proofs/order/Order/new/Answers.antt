use Rattle.std.proofs.Common.{◌≡◌, subst, arith}
use Rattle.px_sat.specs.Order.{HasAllBelow}
use Rattle.px_sat.proofs.Orders.{all-none, all-push}
use Rattle.px_sat.proofs.order.Order.new.Goals as goal

pub loop-variable-init : goal.loop-variable-init
loop-variable-init c = rw c.new-variables.ensures.items all-none

pub loop-variable-preserved : goal.loop-variable-preserved
loop-variable-preserved c = rw c.in_ok-push.ensures.items (all-push c.loop-variable.variable c.loop-variable.variables.items c.loop-variable.invariant)

pub invariant_of-result : goal.invariant_of-result
invariant_of-result c =
    let end : c.loop-variable.variable ≡ c.args.vars = omega arith in
    record { few = c.requires; all = subst (λ n. HasAllBelow n c.loop-variable.variables.items) end c.loop-variable.invariant }
