use Rattle.px_chain.proofs.Conflicts.{added-all, added-sound}
use Rattle.px_chain.proofs.log_checker.close.Goals as goal

pub returns : goal.returns
returns c = λ given adds.
    let clauses = c.args.premises.now.clauses in let old = c.args.marks.now in let new = c.mark_each.new.marks in
    c.saturate.ensures given
    (added-all clauses given old new c.args.literals.now c.mark_each.ensures.marked adds)
    (added-sound clauses given old new c.args.literals.now c.mark_each.ensures.marked adds)
