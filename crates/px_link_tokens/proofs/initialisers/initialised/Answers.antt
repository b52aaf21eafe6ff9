use Rattle.std.proofs.Common.{◌≡◌, ◌+◌, ◌-◌, false, get_or, refl, sym, ap, ◌∙◌, subst, length, arith}
use Rattle.std.proofs.lemmas.Option.{slice_get_read}
use Rattle.px_meta.specs.Members.{IsMethod}
use Rattle.px_meta.proofs.Rows.{written}
use Rattle.px_link_tokens.proofs.Flags.{AreFlagged, all_flagged, flag_set, flags_kept}
use Rattle.px_link_tokens.proofs.initialisers.initialised.Goals as goal
use Rattle.px_link_tokens.proofs.initialisers.initialised.Goals.{then-eq, else-eq}

pub loop-method-preserved : goal.loop-method-preserved
loop-method-preserved c =
    let v = c.args.meta.now in
    let n = c.loop-method.method-index in
    let m = c.method-item.result in
    let items = c.methods-method-items.result.now in
    let are = c.methods-method-items.ensures in
    let is : IsMethod v (n + 1) m = are.each n m (slice_get_read items (length items) n m refl c.loop-method-test.true c.method-item.is) in
    elim c.if-eq.branch [
      | then-eq w ↦
          let old = c.loop-method.flags in
          let news = w.set_flag.new.flags in
          let value = w.deref_mut.ensures.value in
          let size : length news ≡ length old.items = w.set_flag.auto.flags ∙ ap length value in
          let set : AreFlagged v (n + 1) news = flag_set v n m old.items news c.loop-method.invariant is (sym c.eq.ensures ∙ w.if-eq.true) size
          (λ some few. w.set_flag.ensures.named some (omega (arith, ap length value)))
          (λ other some differs. w.set_flag.ensures.others other some differs ∙ ap (λ xs. get_or xs (other - 1) false) value) in
          subst (λ f. AreFlagged v (n + 1) f.items) (sym w.flags-is) (subst (λ xs. AreFlagged v (n + 1) xs) (sym (written news old.items old.len size (omega arith))) set)
      | else-eq w ↦ subst (λ f. AreFlagged v (n + 1) f.items) (sym w.flags-is) (flags_kept v n m c.loop-method.flags.items c.loop-method.invariant is (sym c.eq.ensures ∙ w.if-eq.false))
    ]

pub returns : goal.returns
returns c =
    let are = c.methods-method-items.ensures in
    all_flagged c.args.meta.now c.loop-method.method-index c.loop-method.flags.items c.loop-method.invariant (omega (arith, are.count, c.loop-method-test.false, c.loop-method.auto.method-index-end))
