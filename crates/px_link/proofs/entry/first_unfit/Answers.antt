use Rattle.std.proofs.Common.{sym, ap, ◌∙◌, eq-eqb}
use Rattle.std.specs.Prelude.{◌==◌, not}
use Rattle.std.proofs.lemmas.Bool.{or_left, or_right}
use Rattle.px_sig.specs.Grammar.{plain_type}
use Rattle.px_sig.specs.declared.sig.SigLeaf.TheVariants.{Other}
use Rattle.px_link.proofs.Making.{unfit_here}
use Rattle.px_link.proofs.entry.first_unfit.Goals as goal
use Rattle.px_link.proofs.entry.first_unfit.Goals.{then-at-eq-MOST-via-then-at-eq-MOST, then-at-eq-MOST-via-else-at-eq-MOST+then-not-is_argument}

pub returns-then-at-eq-MOST : goal.returns-then-at-eq-MOST
returns-then-at-eq-MOST c =
    let at = c.loop-at.at in
    let params = c.args.params.now in
    elim c.then-at-eq-MOST.branch [
      | then-at-eq-MOST-via-then-at-eq-MOST w ↦ sym (c.loop-at.invariant.same ∙ unfit_here at params (plain_type Other) c.loop-at-test.true (or_left (at == 16) _ (eq-eqb at 16 w.if-at-eq-MOST.true)))
      | then-at-eq-MOST-via-else-at-eq-MOST+then-not-is_argument w ↦ sym (c.loop-at.invariant.same ∙ unfit_here at params _ c.loop-at-test.true (or_right (at == 16) _ (ap not (sym w.is_argument.ensures ∙ w.if-not-is_argument.true))))
    ]
