use Rattle.std.proofs.Common.{◌+◌, ◌<◌, length, refl, sym, ap, ◌∙◌, subst, arith}
use Rattle.std.proofs.lemmas.Option.{slice_get-get_or}
use Rattle.px_link.specs.Layout.{row_of_key, type_row}
use Rattle.px_link.proofs.Placing.{ArePlacedBelow, placed_all, placed_more, placed_skip, type_below}
use Rattle.px_link.proofs.layout.placed_types.Goals.{in-Some+in_ok-push, in_default}
use Rattle.px_link.proofs.layout.placed_types.Goals as goal

pub loop-n-preserved : goal.loop-n-preserved
loop-n-preserved c =
    let keys = c.args.keys.now in
    let n = c.loop-n.n in
    let items = c.loop-n.placed.items in
    let less : n < length keys = omega arith in
    elim c.match-row_of.branch [
      | in-Some+in_ok-push w ↦
          subst (λ xs. ArePlacedBelow (type_row keys) (n + 1) xs) (cc)
          (placed_more (type_row keys) n items w.push.new.self.items _ c.loop-n.invariant (ap row_of_key (slice_get-get_or keys n _ less) ∙ sym w.in-Some.ensures) refl w.in_ok-push.ensures.items)
      | in_default w ↦
          subst (λ xs. ArePlacedBelow (type_row keys) (n + 1) xs) (cc)
          (placed_skip (type_row keys) n items c.loop-n.invariant (ap row_of_key (slice_get-get_or keys n _ less) ∙ sym w.in_default.ensures))
    ]

pub returns : goal.returns
returns c =
    let keys = c.args.keys.now in
    placed_all (type_row keys) c.loop-n.n c.loop-n.placed.items (λ n r is. let less = type_below keys n r is in omega (arith, less)) c.loop-n.invariant
