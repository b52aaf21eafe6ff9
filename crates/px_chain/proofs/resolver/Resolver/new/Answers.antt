use Rattle.std.proofs.Common.{◌≡◌, ◌*◌, Bool, replicate, false, arith}
use Rattle.px_chain.proofs.Marking.{marked-replicate, IsMarked-none}
use Rattle.px_chain.proofs.resolver.Resolver.new.Goals as goal
use Rattle.px_chain.proofs.resolver.Resolver.new.Goals.{After-new}

all_false : (c : After-new) → c.in_ok-vec.field-0.items ≡ replicate (2 * c.args.vars) false
all_false c = c.in_ok-vec.ensures.items_if_clones_equal (λ (y : Bool) same. same)

pub invariant_of-result : goal.invariant_of-result
invariant_of-result c = rw (all_false c, c.new.ensures.items) (IsMarked-none c.args.vars (2 * c.args.vars) (omega arith))

pub returns-clause-clause : goal.returns-clause-clause
returns-clause-clause c = rw (all_false c) (marked-replicate (2 * c.args.vars))
