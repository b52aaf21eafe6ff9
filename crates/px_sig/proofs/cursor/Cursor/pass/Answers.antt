use Rattle.std.proofs.Common.{◌≡◌, ◌∙◌, ℕ, Result, sym, subst}
use Rattle.std.proofs.lemmas.Result.{err_from_is_err_and}
use Rattle.px_sig.specs.Reading.{Fails}
use Rattle.px_sig.specs.Parts.{behind_both, behind_owed}
use Rattle.px_sig.proofs.Pile.{all_snoc}
use Rattle.px_sig.proofs.cursor.Cursor.pass.Goals as goal

pub loop-owes-preserved : goal.loop-owes-preserved
loop-owes-preserved c =
    let blob = c.args.self.now.blob.now in
    let taken = rw c.in-Some.ensures.items at c.loop-owes.invariant.rest in
    record {
      blob = c.step.ensures.blob ∙ c.loop-owes.invariant.blob;
      rest = sym (rw c.loop-owes.invariant.blob at c.in_ok-step.ensures.goes) ∙ sym (all_snoc blob c.pop.new.self.items c.in-Some.owes c.loop-owes.self.at) ∙ taken;
    }

pub returns-in_err-step-clause-passes : goal.returns-in_err-step-clause-passes
returns-in_err-step-clause-passes c =
    let blob = c.args.self.now.blob.now in
    let taken = rw c.in-Some.ensures.items at c.loop-owes.invariant.rest in
    let same : behind_both blob c.in-Some.owes c.pop.new.self.items c.loop-owes.self.at ≡ behind_owed blob c.args.first c.args.self.now.at =
    sym (all_snoc blob c.pop.new.self.items c.in-Some.owes c.loop-owes.self.at) ∙ taken in
    let p = err_from_is_err_and c.from_residual-in_err-step.result c.from_residual-in_err-step.ensures.1 in
    rw (p.1, p.2) (subst (λ (r : Result ℕ ℕ). Fails c.in_err-step.field-0.0 r) same (rw c.loop-owes.invariant.blob at c.in_err-step.ensures.goes))
