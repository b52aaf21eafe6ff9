use Rattle.px_sat.proofs.Orders.{IsOrder-moved}
use Rattle.px_sat.proofs.order.Order.favour.Goals as goal

pub invariant_of-self : goal.invariant_of-self
invariant_of-self c = IsOrder-moved c.self.inside.vars c.self.inside.variables.items c.sort_by_key.new.self.items c.sort_by_key.ensures.permutation c.self.invariant
