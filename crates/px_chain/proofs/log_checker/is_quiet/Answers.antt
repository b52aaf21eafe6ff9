use Rattle.std.proofs.Common.{[], refl}
use Rattle.std.proofs.lemmas.Bool.{both_ways, false≢true}
use Rattle.px_chain.proofs.Conflicts.{is_open-from}
use Rattle.px_chain.proofs.log_checker.is_quiet.Goals as goal

pub returns-then-is_conflict : goal.returns-then-is_conflict
returns-then-is_conflict c = λ is.
    (λ e. absurd (false≢true e), λ quiet. absurd (quiet.quiet ((c.if-is_conflict.ensures c.args.entry.now.decisions is).0 refl)))

pub returns : goal.returns
returns c = λ is.
    let clauses = c.args.premises.now.clauses in let decisions = c.args.entry.now.decisions in
    let one = (rw c.as_slice.ensures at c.has_one_open.ensures) clauses decisions is in (
      λ yes. record {
        quiet = λ conflict. both_ways c.is_conflict.result c.if-is_conflict.false ((c.is_conflict.ensures decisions is).1 conflict);
        last_open = is_open-from clauses decisions c.args.marks.now [] is c.args.entry.now.last (c.is_open.ensures.0 c.if-not-is_open.false);
        one_open = one.0 yes;
      },
      λ quiet. one.1 quiet.one_open,
    )
