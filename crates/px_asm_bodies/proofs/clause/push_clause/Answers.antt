use Rattle.px_asm_bodies.proofs.Pushed.{clause_pushed, follows}
use Rattle.px_asm_bodies.proofs.clause.push_clause.Goals as goal

pub returns-clause-pushed : goal.returns-clause-pushed
returns-clause-pushed c =
    follows _ _ c.push_number-6.result
    (λ last. clause_pushed c.args.clause c.from.result c.from-2.result c.from-3.result c.from-4.result c.from-5.result c.from-6.result c.args.out.now.items
    c.push_number.new.out.items c.push_number-2.new.out.items c.push_number-3.new.out.items c.push_number-4.new.out.items c.push_number-5.new.out.items _
    c.from.ensures c.from-2.ensures c.from-3.ensures c.from-4.ensures c.from-5.ensures c.from-6.ensures
    c.in_ok-push_number.ensures c.in_ok-push_number-2.ensures c.in_ok-push_number-3.ensures c.in_ok-push_number-4.ensures c.in_ok-push_number-5.ensures last)
    c.push_number-6.ensures
