use Rattle.std.proofs.Common.{true, false, refl, sym, ap, ◌∙◌, arith}
use Rattle.std.specs.Str.{bytes_eq}
use Rattle.px_link_types.proofs.Names.{all_named, at_end, here_or_on}
use Rattle.px_link_types.proofs.library.library_number.Goals as goal

pub loop-number-init : goal.loop-number-init
loop-number-init c = refl

pub returns-then-eq-clause-number : goal.returns-then-eq-clause-number
returns-then-eq-clause-number c =
    sym (here_or_on c.loop-number.number c.args.name.now true (omega arith) (ap (λ x. bytes_eq x c.args.name.now) (sym c.name_of.ensures) ∙ sym c.eq.ensures ∙ c.if-eq.true)) ∙ c.loop-number.invariant ∙ sym (all_named c.args.name.now)

pub loop-number-preserved : goal.loop-number-preserved
loop-number-preserved c = sym (here_or_on c.loop-number.number c.args.name.now false (omega arith) (ap (λ x. bytes_eq x c.args.name.now) (sym c.name_of.ensures) ∙ sym c.eq.ensures ∙ c.if-eq.false)) ∙ c.loop-number.invariant

pub returns-clause-number : goal.returns-clause-number
returns-clause-number c = sym (at_end c.loop-number.number c.args.name.now (omega arith)) ∙ c.loop-number.invariant ∙ sym (all_named c.args.name.now)
