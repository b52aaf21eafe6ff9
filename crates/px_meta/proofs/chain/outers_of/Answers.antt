use Rattle.std.proofs.Common.{◌≡◌, ◌+◌, ◌-◌, ap, sym, subst, ◌∙◌, length, arith}
use Rattle.px_meta.proofs.Behind.{AreNested, all_nested, more_nested}
use Rattle.px_meta.proofs.Rows.{written}
use Rattle.px_meta.specs.Rows.{some_row, type_defs}
use Rattle.px_meta.proofs.chain.outers_of.Goals as goal

pub loop-n-preserved : goal.loop-n-preserved
loop-n-preserved c =
    let v = c.args.tables.now in
    let n = c.loop-n.n - 1 in
    let outers = c.loop-n.outers.items in
    let news = c.set_row.new.kept in
    let slice = c.deref_mut.result.now in
    let same : n + 1 ≡ c.loop-n.n = omega arith in
    let size = c.set_row.auto.kept ∙ ap length c.deref_mut.ensures.value in
    subst (λ xs. AreNested v n xs) (sym (written news outers c.loop-n.outers.len size (omega arith)))
    (more_nested v n c.cell_of-nested.result c.some_row-outer.result slice news (omega arith)
    (subst (λ xs. AreNested v (n + 1) xs) (sym c.deref_mut.ensures.value) (subst (λ k. AreNested v k outers) (sym same) c.loop-n.invariant))
    c.set_row.auto.kept c.cell_of-nested.ensures (let e = c.some_row-outer.ensures in let f = c.cell_of.ensures in e ∙ ap (λ k. some_row v type_defs k) f)
    c.set_row.ensures.named c.set_row.ensures.others)

pub returns : goal.returns
returns c = all_nested c.args.tables.now c.loop-n.n c.loop-n.outers.items (omega arith) c.loop-n.invariant
