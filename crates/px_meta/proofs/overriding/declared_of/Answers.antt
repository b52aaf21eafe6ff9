use Rattle.std.proofs.Common.{◌≡◌, ◌+◌, ◌-◌, ap, sym, subst, ◌∙◌, length, arith}
use Rattle.px_meta.proofs.Rows.{written}
use Rattle.px_meta.proofs.Saying.{AreDeclared, all_declared, put_declared, skip_declared}
use Rattle.px_meta.proofs.overriding.declared_of.Goals as goal

pub loop-n-preserved-in_default : goal.loop-n-preserved-in_default
loop-n-preserved-in_default c =
    let v = c.args.tables.now in
    let n = c.loop-n.n - 1 in
    let same : n + 1 ≡ c.loop-n.n = omega arith in
    skip_declared v n c.loop-n.declared.items (subst (λ k. AreDeclared v k c.loop-n.declared.items) (sym same) c.loop-n.invariant) c.in_default.ensures

pub loop-n-preserved : goal.loop-n-preserved
loop-n-preserved c =
    let v = c.args.tables.now in
    let n = c.loop-n.n - 1 in
    let items = c.loop-n.declared.items in
    let news = c.set_row.new.kept in
    let slice = c.deref_mut.result.now in
    let same : n + 1 ≡ c.loop-n.n = omega arith in
    let size = c.set_row.auto.kept ∙ ap length c.deref_mut.ensures.value in
    subst (λ xs. AreDeclared v n xs) (sym (written news items c.loop-n.declared.len size (omega arith)))
    (put_declared v n c.in-Some.body c.in-Some.declaration slice news
    (subst (λ xs. AreDeclared v (n + 1) xs) (sym c.deref_mut.ensures.value) (subst (λ k. AreDeclared v k items) (sym same) c.loop-n.invariant))
    c.in-Some.ensures c.set_row.auto.kept c.set_row.ensures.named c.set_row.ensures.others)

pub returns : goal.returns
returns c = all_declared c.args.tables.now c.loop-n.n c.loop-n.declared.items (omega arith) c.loop-n.invariant
