use Rattle.std.proofs.Common.{◌≡◌, ◌≤◌, ◌^◌, length}
use Rattle.px_asm_law_written.specs.Tokens.{first_field}
use Rattle.px_asm_store.proofs.RowSetting.{AreSet}
use Rattle.px_asm_store.proofs.rows.first_fields.Given as goal

abbrev pub invariant-loop-number : goal.invariant-loop-number
invariant-loop-number l = record {
  row : l.row ≡ first_field l.program l.number-index;
  few : l.row ≤ 2 ^ 23;
  count : length l.rows.items ≡ length l.program.types;
  set : AreSet (first_field l.program) l.program.layout.types l.number-index l.rows.items;
}
