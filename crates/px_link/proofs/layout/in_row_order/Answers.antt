use Rattle.std.proofs.Common.{rules, ap, ◌∙◌, arith}
use Rattle.std.proofs.lemmas.List.{take_all}
use Rattle.std.proofs.lemmas.List.Sorted.{answers_always}
use Rattle.px_link.specs.Placed.{numbers_placed}
use Rattle.px_link.proofs.Placing.{comes_first, comes_first_weak, ordered}
use Rattle.px_link.proofs.layout.in_row_order.Goals as goal

pub returns : goal.returns
returns c = λ row apart are.
    let sorted = c.sort_unstable_by.new.self.items in
    ordered row c.args.placed.items sorted c.loop-one.numbers apart are c.sort_unstable_by.ensures.permutation
    (c.sort_unstable_by.ensures.sorted comes_first comes_first_weak (answers_always _ _ _ (λ f a r g h. search rules)))
    (c.loop-one.invariant ∙ ap numbers_placed (take_all c.loop-one.one-index c.deref-one-items.result.now (omega arith) ∙ c.deref-one-items.ensures.value))
