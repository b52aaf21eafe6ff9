use Rattle.std.proofs.Common.{true, false, refl, sym, ◌∙◌, arith}
use Rattle.px_link_tokens.proofs.Named.{all_named, at_end, here_or_on}
use Rattle.px_link_tokens.proofs.integers.integer_named.Goals as goal

pub loop-number-init : goal.loop-number-init
loop-number-init c = refl

pub returns-then-eq : goal.returns-then-eq
returns-then-eq c =
    let name = c.args.name.now in
    let entry = c.entry-integer.result in
    sym (here_or_on c.loop-number.number name (entry.0.now, entry.1) true c.entry-integer.ensures (sym c.eq.ensures ∙ c.if-eq.true)) ∙ c.loop-number.invariant ∙ sym (all_named name)

pub loop-number-preserved : goal.loop-number-preserved
loop-number-preserved c =
    let name = c.args.name.now in
    let entry = c.entry-integer.result in
    sym (here_or_on c.loop-number.number name (entry.0.now, entry.1) false c.entry-integer.ensures (sym c.eq.ensures ∙ c.if-eq.false)) ∙ c.loop-number.invariant

pub returns : goal.returns
returns c = sym (at_end c.loop-number.number c.args.name.now (omega arith)) ∙ c.loop-number.invariant ∙ sym (all_named c.args.name.now)
