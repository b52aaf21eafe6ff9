use Rattle.std.proofs.Common.{◌≡◌, ◌∙◌, ap, arith}
use Rattle.std.proofs.lemmas.Result.{err_from_is_err_and}
use Rattle.px_sig.specs.Grammar.{form_at, token_at, type_at}
use Rattle.px_sig.specs.Parts.{within}
use Rattle.px_sig.proofs.Inner.{by_form, is_inner, no_form, no_token, passed_at, past_array, past_modifier, past_pinned}
use Rattle.px_sig.proofs.cursor.Cursor.innermost.Goals as goal

pub returns-in_err-form-clause-leads : goal.returns-in_err-form-clause-leads
returns-in_err-form-clause-leads c =
    let blob = c.args.self.now.blob.now in
    let at = c.loop-self.self.at in
    let p = err_from_is_err_and c.from_residual.result c.from_residual.ensures.1 in
    rw (p.1, p.2)
    (passed_at c.in_err-form.field-0.0 (form_at blob at) (type_at blob c.args.self.now.at) (rw c.loop-self.invariant.blob at c.in_err-form.ensures.reads)
    (λ place is. c.loop-self.invariant.rest ∙ ap (λ r. within c.loop-self.arrays r) (no_form blob at place is)))

pub loop-self-preserved-in_ok-token-in-Modifier : goal.loop-self-preserved-in_ok-token-in-Modifier
loop-self-preserved-in_ok-token-in-Modifier c =
    let blob = c.args.self.now.blob.now in
    let same : c.form.new.self.blob.now ≡ blob = c.form.ensures.blob ∙ c.loop-self.invariant.blob in
    record {
      blob = c.token.ensures.blob ∙ same;
      few = omega (arith, c.in_ok-form.ensures.later, c.in_ok-token-in-Modifier.ensures.later);
      rest =
          c.loop-self.invariant.rest
          ∙ ap (λ r. within c.loop-self.arrays r)
          (past_modifier blob c.loop-self.self.at c.form.new.self.at _ (rw (c.loop-self.invariant.blob, c.in-Modifier.is) at c.in_ok-form.ensures.reads) (rw same at c.in_ok-token-in-Modifier.ensures.reads));
    }

pub returns-in_err-token-in-Modifier-clause-leads : goal.returns-in_err-token-in-Modifier-clause-leads
returns-in_err-token-in-Modifier-clause-leads c =
    let blob = c.args.self.now.blob.now in
    let same : c.form.new.self.blob.now ≡ blob = c.form.ensures.blob ∙ c.loop-self.invariant.blob in
    let p = err_from_is_err_and c.from_residual-in_err-token-in-Modifier.result c.from_residual-in_err-token-in-Modifier.ensures.1 in
    rw (p.1, p.2)
    (passed_at c.in_err-token-in-Modifier.field-0.0 (token_at blob c.form.new.self.at) (type_at blob c.args.self.now.at) (rw same at c.in_err-token-in-Modifier.ensures.reads)
    (λ place is. c.loop-self.invariant.rest
    ∙ ap (λ r. within c.loop-self.arrays r)
    (no_token blob c.loop-self.self.at c.form.new.self.at place (rw (c.loop-self.invariant.blob, c.in-Modifier.is) at c.in_ok-form.ensures.reads) is)))

pub loop-self-preserved-in-Pinned : goal.loop-self-preserved-in-Pinned
loop-self-preserved-in-Pinned c =
    let blob = c.args.self.now.blob.now in
    record {
      blob = c.form.ensures.blob ∙ c.loop-self.invariant.blob;
      few = omega (arith, c.in_ok-form.ensures.later);
      rest =
          c.loop-self.invariant.rest
          ∙ ap (λ r. within c.loop-self.arrays r) (past_pinned blob c.loop-self.self.at c.form.new.self.at (rw (c.loop-self.invariant.blob, c.in-Pinned.is) at c.in_ok-form.ensures.reads));
    }

pub loop-self-preserved : goal.loop-self-preserved
loop-self-preserved c =
    let blob = c.args.self.now.blob.now in
    record {
      blob = c.form.ensures.blob ∙ c.loop-self.invariant.blob;
      few = omega (arith, c.in_ok-form.ensures.later);
      rest =
          c.loop-self.invariant.rest
          ∙ past_array blob c.loop-self.arrays c.loop-self.self.at c.form.new.self.at (rw (c.loop-self.invariant.blob, c.in-Array.is) at c.in_ok-form.ensures.reads);
    }

pub returns-in_default : goal.returns-in_default
returns-in_default c =
    let blob = c.args.self.now.blob.now in
    record {
      leads = (
        is_inner c.in_ok-form.form c.in_default.not-Modifier c.in_default.not-Pinned c.in_default.not-Array,
        c.loop-self.invariant.rest
            ∙ ap (λ r. within c.loop-self.arrays r) (by_form blob c.loop-self.self.at c.in_ok-form.form c.form.new.self.at (rw c.loop-self.invariant.blob at c.in_ok-form.ensures.reads)),
      );
      blob = c.form.ensures.blob ∙ c.loop-self.invariant.blob;
    }
