use Rattle.std.proofs.Common.{rules, refl, ap, ◌∙◌, arith}
use Rattle.std.proofs.lemmas.List.{take_all}
use Rattle.std.proofs.lemmas.List.Sorted.{answers_always}
use Rattle.px_link_reach.specs.Parts.{rows_named}
use Rattle.px_link_reach.proofs.Sorting.{comes_first, comes_first_weak, ordered}
use Rattle.px_link_reach.proofs.order.in_order.Goals as goal

pub returns : goal.returns
returns c =
    let sorted = c.sort_unstable_by.new.self.items in
    ordered c.args.parents.now _ c.in_ok-named.named.items sorted c.loop-method.rows.items refl c.in_ok-named.ensures c.sort_unstable_by.ensures.permutation
    (c.sort_unstable_by.ensures.sorted comes_first comes_first_weak (answers_always _ _ _ (λ f a r g h. search rules)))
    (c.loop-method.invariant ∙ ap rows_named (take_all c.loop-method.method-index c.deref-method-items.result.now (omega arith) ∙ c.deref-method-items.ensures.value))
