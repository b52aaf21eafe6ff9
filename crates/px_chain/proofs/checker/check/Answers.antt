use Rattle.std.proofs.Common.{◌≡◌, ◌≢◌, ◌∙◌, [], Some, sym, arith, rules}
use Rattle.std.proofs.lemmas.Result.{on_ok_weaker}
use Rattle.px_chain.specs.Resolution.{Refutes}
use Rattle.px_chain.specs.Verdict.{Blames, last_claim}
use Rattle.px_chain.proofs.Refuting.{AreAccepted-none, AreAccepted-more, AreAccepted-fault, AreAccepted-refutes, AreAccepted-not_empty, blamed_by}
use Rattle.px_chain.proofs.Soundness.{Refutes-unmet}
use Rattle.px_chain.proofs.checker.check.Goals as goal
use Rattle.px_chain.proofs.checker.check.Goals.{After-conclude}

pub loop-step-init : goal.loop-step-init
loop-step-init c = (AreAccepted-none _ _ _ c.new-premises.ensures.clauses, search rules, search rules)

pub returns-in-Err-clause-bad_step : goal.returns-in-Err-clause-bad_step
returns-in-Err-clause-bad_step c =
    rw (c.blame.ensures, ← c.as_slice-chains.ensures)
    (AreAccepted-fault c.args.cnf.now.clauses c.as_slice-chains.result.now c.loop-step.step c.loop-step.premises.clauses c.index-chains-step.result c.in-Err.fault
    (omega arith) c.index-chains-step.is c.loop-step.invariant.0 c.in-Err.ensures.fault)

pub loop-step-preserved : goal.loop-step-preserved
loop-step-preserved c = (
  AreAccepted-more c.args.cnf.now.clauses c.as_slice-chains.result.now c.loop-step.step c.loop-step.premises.clauses c.accept.new.premises.clauses c.index-chains-step.result
      (omega arith) c.index-chains-step.is c.loop-step.invariant.0 c.in-Ok.ensures.derives c.in-Ok.ensures.added,
  c.accept.ensures.resolver_vars ∙ c.loop-step.invariant.1 ∙ sym c.accept.ensures.premises_vars,
  c.in-Ok.ensures.empty,
)

refutes : (c : After-conclude) → last_claim c.as_slice-chains.result.now ≡ Some [] → Refutes c.args.cnf.now.clauses c.args.chains.now
refutes c empty =
    rw (← c.as_slice-chains.ensures)
    (AreAccepted-refutes c.args.cnf.now.clauses c.as_slice-chains.result.now c.loop-step.step c.loop-step.premises.clauses c.loop-step.invariant.0 (omega arith) empty)

pub returns-clause-refutes : goal.returns-clause-refutes
returns-clause-refutes c = on_ok_weaker c.conclude.result (refutes (goal.at.returns-clause-refutes c).After-conclude) c.conclude.ensures.empty

pub returns-clause-unmet : goal.returns-clause-unmet
returns-clause-unmet c =
    on_ok_weaker c.conclude.result (λ empty a. Refutes-unmet a c.args.cnf.now.clauses c.args.chains.now (refutes (goal.at.returns-clause-unmet c).After-conclude empty)) c.conclude.ensures.empty

pub returns-clause-bad_step : goal.returns-clause-bad_step
returns-clause-bad_step c =
    rw (← c.as_slice-chains.ensures)
    (blamed_by (Blames c.args.cnf.now.clauses c.as_slice-chains.result.now) (last_claim c.as_slice-chains.result.now ≢ Some []) c.conclude.result _ c.conclude.ensures.fault c.conclude.ensures.not_empty
    (AreAccepted-not_empty c.args.cnf.now.clauses c.as_slice-chains.result.now c.loop-step.step c.loop-step.premises.clauses c.loop-step.invariant.0 (omega arith)))
