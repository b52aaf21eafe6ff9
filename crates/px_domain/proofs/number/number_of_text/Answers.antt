use Rattle.std.proofs.Common.{rules, ◌∙◌, ap}
use Rattle.std.proofs.lemmas.Str.{IsUtf8-from_ascii}
use Rattle.px_domain.specs.Grammar.{in_range}
use Rattle.px_domain.proofs.Numerals.{refused_number, not_ok, not_parsed}
use Rattle.px_domain.proofs.number.number_of_text.Goals as goal

pub returns-in_err-ok : goal.returns-in_err-ok
returns-in_err-ok c = λ range ranged.
    ap (in_range range) c.from_residual.ensures
    ∙ refused_number range c.args.text.now ranged (λ is fits. (not_ok c.from_utf8.result _ _ c.in_err-ok.ensures.value c.from_utf8.ensures.cases).1.0 (IsUtf8-from_ascii c.args.text.now is.ascii))

pub returns-in_err-number : goal.returns-in_err-number
returns-in_err-number c = λ range ranged.
    ap (in_range range) c.from_residual-in_err-number.ensures
    ∙ refused_number range c.args.text.now ranged (λ is fits. not_parsed c.parse.result c.args.text.now c.in_ok-ok.field-0.now c.in_err-number.ensures.value c.parse.ensures.value.0 (search rules) is.numeral fits)
