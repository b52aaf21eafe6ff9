use Rattle.std.proofs.Common.{◌∙◌, refl, arith, length, [], ap}
use Rattle.std.proofs.lemmas.List.{get_or_default}
use Rattle.px_tables.proofs.Counting.{zeros_all}
use Rattle.px_asm_image.proofs.Pushed.{counts_all}
use Rattle.px_asm_image.proofs.rows.counts_of.Goals as goal

pub loop-table-init : goal.loop-table-init
loop-table-init c = record { all = refl; before = λ k less. absurd (omega arith); behind = λ k more. zeros_all 64 k }

pub overflow_cast-rows : goal.overflow_cast-rows
overflow_cast-rows c =
    let table = c.loop-table.table in
    let rows = c.index-tables-table in
    let same = c.len.ensures ∙ ap length (rows.is ∙ get_or_default c.args.tables.now table rows.result [] c.loop-table-test.true) in
    omega (arith, same, c.requires.rows table)

pub returns : goal.returns
returns c =
    let l = c.loop-table in
    let i = l.invariant in
    let all = counts_all c.args.tables.now l.rows l.table i.all c.requires.tables (omega arith) i.before i.behind in
    ap (λ rows. record { heap_sizes = 7; rows = rows }) all
