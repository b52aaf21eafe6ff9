use Rattle.std.proofs.Common.{◌≡◌, None, replicate, arith, rules}
use Rattle.px_trail.proofs.Tables.{IsKept-none}
use Rattle.px_trail.proofs.assignment.PartialAssignment.new.Goals as goal

pub invariant_of-result : goal.invariant_of-result
invariant_of-result c =
    let table : c.in_ok-vec.field-0.items ≡ replicate c.args.vars None = c.in_ok-vec.ensures.items_if_clones_equal (search rules) in
    rw (table, c.in_ok-with_capacity.ensures.items) (IsKept-none _ c.args.vars (omega (arith, c.in_ok-with_capacity.ensures.exact)) (omega arith))
