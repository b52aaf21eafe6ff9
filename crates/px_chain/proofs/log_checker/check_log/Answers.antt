use Rattle.std.proofs.Common.{◌∙◌, sym, arith}
use Rattle.std.proofs.lemmas.Bool.{both_ways}
use Rattle.px_chain.proofs.Logs.{AreGenuine-more, AreGenuine-bad}
use Rattle.px_chain.proofs.log_checker.check_log.Goals as goal

pub returns-then-not-branch-clause-bad_entry : goal.returns-then-not-branch-clause-bad_entry
returns-then-not-branch-clause-bad_entry c =
    rw (← c.as_slice-entries.ensures)
    (AreGenuine-bad c.args.cnf.now c.as_slice-entries.result.now c.loop-number.number c.loop-number.premises c.index-entries-number.result (omega arith) c.index-entries-number.is c.loop-number.invariant.0
    (λ is. both_ways c.in_ok-is_genuine.field-0 c.if-not-branch.true (c.in_ok-is_genuine.ensures.genuine.1 is)))

pub loop-number-preserved : goal.loop-number-preserved
loop-number-preserved c =
    let told = c.in_ok-is_genuine.ensures in let yes = c.if-not-branch.false in (
      AreGenuine-more c.args.cnf.now c.as_slice-entries.result.now c.loop-number.number c.loop-number.premises c.is_genuine.new.premises c.index-entries-number.result
          (omega arith) c.index-entries-number.is c.loop-number.invariant.0 (told.genuine.0 yes) told.premises_vars (told.added yes),
      told.resolver_vars ∙ c.loop-number.invariant.1 ∙ sym told.premises_vars,
      told.empty yes,
    )
