use Rattle.std.proofs.Common.{◌≡◌, ◌-◌, ◌+◌, length, take, drop, subst, sym, arith, length-drop}
use Rattle.std.proofs.lemmas.List.{take_all}
use Rattle.px_asm_described.specs.Writable.{IsText}
use Rattle.px_asm_rows.proofs.TableTexts.{table_text_before, table_text_behind}
use Rattle.px_asm_rows.proofs.types.split_name.Goals as goal

pub returns-in-Some-clause-namespace : goal.returns-in-Some-clause-namespace
returns-in-Some-clause-namespace c = table_text_before c.args.name.now c.in-Some.end c.in-Some.ensures.1 c.in-Some.ensures.2 c.requires

pub returns-in-Some-clause-name : goal.returns-in-Some-clause-name
returns-in-Some-clause-name c =
    let text = c.args.name.now in
    let from = c.in-Some.end + 1 in
    let whole : take (length text - from) (drop from text) ≡ drop from text = take_all (length text - from) (drop from text) (omega (arith, length-drop from text)) in
    subst IsText (sym whole) (table_text_behind text c.in-Some.end c.in-Some.ensures.1 c.in-Some.ensures.2 c.requires)
