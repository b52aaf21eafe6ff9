use Rattle.std.proofs.Common.{◌≡◌, ◌+◌, ◌-◌, ap, sym, subst, ◌∙◌, length, arith}
use Rattle.px_meta.proofs.Behind.{AreSet, all_set, more_set}
use Rattle.px_meta.proofs.Rows.{written}
use Rattle.px_meta.proofs.owner.owners_of.Goals as goal

pub loop-n-preserved : goal.loop-n-preserved
loop-n-preserved c =
    let v = c.args.tables.now in
    let table = c.args.table in
    let n = c.loop-n.n - 1 in
    let owners = c.loop-n.owners.items in
    let news = c.set_owner.new.owners in
    let slice = c.deref_mut.result.now in
    let same : n + 1 ≡ c.loop-n.n = omega arith in
    let size = c.set_owner.auto.owners ∙ ap length c.deref_mut.ensures.value in
    subst (λ xs. AreSet v table n xs) (sym (written news owners c.loop-n.owners.len size (omega arith)))
    (more_set v table n slice news (omega arith)
    (subst (λ xs. AreSet v table (n + 1) xs) (sym c.deref_mut.ensures.value) (subst (λ k. AreSet v table k owners) (sym same) c.loop-n.invariant))
    c.set_owner.auto.owners
    (λ row some few from below. c.set_owner.ensures.listed row some few (omega (arith, c.list_start-start.ensures)) (omega (arith, c.list_end-end.ensures)))
    (λ row some few outside. c.set_owner.ensures.others row some few (let s = c.list_start-start.ensures in let e = c.list_end-end.ensures in grind arith)))

pub returns : goal.returns
returns c = all_set c.args.tables.now c.args.table c.loop-n.n c.loop-n.owners.items (omega arith) c.loop-n.invariant
