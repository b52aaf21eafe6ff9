use Rattle.std.proofs.Common.{◌<◌, length, get_or, ap, ◌∙◌, arith}
use Rattle.px_link_methods.proofs.Pieces.{each_item}
use Rattle.px_asm_rows.proofs.TableFacts.{read_again, table_impls_more, table_impls_none, table_none}
use Rattle.px_asm_rows.proofs.overriding.impl_rows.Goals.{in-Some+in_ok-push, in_default}
use Rattle.px_asm_rows.proofs.overriding.impl_rows.Goals as goal

pub loop-number-preserved : goal.loop-number-preserved
loop-number-preserved c =
    let p = c.args.rows.now in
    let numbers = c.args.numbers.now in
    let slots = c.as_slice-slots.result.now in
    let i = c.loop-number.number-index in
    let number = get_or numbers i 0 in
    let less = c.loop-number-test.true in
    let same = c.as_slice-slots.ensures ∙ ap (λ q. q.layout.slots) c.program.ensures.same in
    let known : number < length p.methods = each_item (λ number. number < length p.methods) numbers i 0 c.requires less in
    let there : number < length slots = omega (arith, known, ap length same, c.program.ensures.room.writable.slots_count) in
    let before = c.loop-number.made.items in
    let after = c.match-slots-number.made.items in
    elim c.match-slots-number.branch [
      | in-Some+in_ok-push w ↦ table_impls_more p slots numbers i number w.in-Some.over _ before after w.impl_row.result same there w.in-Some.is less (read_again numbers i 0 number less) c.loop-number.invariant w.impl_row.ensures (ap (λ v. v.items) w.made-is ∙ w.in_ok-push.ensures.items)
      | in_default w ↦ table_impls_none p slots numbers i number _ before after same there (table_none _ w.in_default.not-Some) less (read_again numbers i 0 number less) c.loop-number.invariant (ap (λ v. v.items) w.made-is)
    ]
