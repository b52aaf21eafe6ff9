use Rattle.std.proofs.Common.{◌+◌, refl, ap, sym, subst, ◌∙◌, arith}
use Rattle.px_meta.specs.FullNames.{IsTypeName}
use Rattle.px_meta.specs.Members.{owner_of}
use Rattle.px_meta.specs.Rows.{IsRow, methods, type_defs}
use Rattle.px_link_reach.specs.Parts.{AreNamed, IsNamed}
use Rattle.px_link_reach.proofs.Sorting.{named_more, named_none, named_skip, overrides_none, owner_there}
use Rattle.px_link_reach.proofs.order.with_owners.Goals.{then-is_some+in_ok-owner+in_ok-push, else-is_some}
use Rattle.px_link_reach.proofs.order.with_owners.Goals as goal

pub loop-n-init : goal.loop-n-init
loop-n-init c = named_none c.args.parents.now 0 c.new-named.result.items refl c.new-named.ensures.items

pub full_name-requires : goal.full_name-requires
full_name-requires c =
    let v = c.args.parents.now in
    let there = owner_there v (c.loop-n.n + 1) c.of.result c.of.ensures.overridden (sym c.is_some.ensures ∙ c.if-is_some.true) in
    subst (λ r. IsRow c.meta-meta.result.now type_defs r) (sym c.owner_of.ensures) (subst (λ v. IsRow v type_defs (owner_of v methods (c.loop-n.n + 1))) (sym c.meta-meta.ensures) there)

pub loop-n-preserved : goal.loop-n-preserved
loop-n-preserved c =
    let v = c.args.parents.now in
    let n = c.loop-n.n in
    let items = c.loop-n.named.items in
    elim c.if-is_some.branch [
      | then-is_some+in_ok-owner+in_ok-push w ↦
          let here : IsTypeName v w.owner_of.result w.in_ok-owner.owner = subst (λ v. IsTypeName v w.owner_of.result w.in_ok-owner.owner) c.meta-meta.ensures w.in_ok-owner.ensures in
          let owner = w.owner_of.ensures ∙ ap (λ v. owner_of v methods (n + 1)) c.meta-meta.ensures in
          let there : IsRow v methods (n + 1) = record { some = omega arith; few = omega arith } in
          let one : IsNamed v (record { owner = w.in_ok-owner.owner; row = n + 1 }) = record { row = there; name = subst (λ t. IsTypeName v t w.in_ok-owner.owner) owner here } in
          let news = w.in_ok-push.ensures.items in
          subst (λ xs. AreNamed v (n + 1) xs) (cc) (named_more v n items w.push.new.self.items _ c.loop-n.invariant one refl news)
      | else-is_some w ↦ subst (λ xs. AreNamed v (n + 1) xs) (cc) (named_skip v n items c.loop-n.invariant (overrides_none v (n + 1) c.of.result c.of.ensures.overridden (sym c.is_some.ensures ∙ w.if-is_some.false)))
    ]
