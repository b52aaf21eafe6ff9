use Rattle.std.proofs.Common.{refl}
use Rattle.std.proofs.lemmas.Bool.{both_ways}
use Rattle.px_chain.proofs.Conflicts.{all_false-from, from-all_false}
use Rattle.px_chain.proofs.log_checker.is_clash.Goals as goal

pub returns-then-is_conflict : goal.returns-then-is_conflict
returns-then-is_conflict c = λ given is.
    let clauses = c.args.premises.now.clauses in let marks = c.args.marks.now in let claim = c.args.claim.now in (
      λ all. record { clash = (c.if-is_conflict.ensures given is).0 refl; learnt_false = all_false-from clauses given marks claim is claim (c.are_false.ensures.0 all) },
      λ clash. c.are_false.ensures.1 (from-all_false clauses given marks claim is claim clash.learnt_false),
    )

pub returns-else-is_conflict : goal.returns-else-is_conflict
returns-else-is_conflict c = λ given is.
    (λ e. absurd (both_ways c.is_conflict.result c.if-is_conflict.false e), λ clash. (c.is_conflict.ensures given is).1 clash.clash)
