use Rattle.std.proofs.Common.{◌≡◌, ◌+◌, length}
use Rattle.px_asm_store.proofs.RowSetting.{AreSet}
use Rattle.px_asm_store.proofs.rows.rows_of.Given as goal

abbrev pub invariant-loop-number : goal.invariant-loop-number
invariant-loop-number l = record {
  row : l.row ≡ l.number-index + l.first;
  count : length l.rows.items ≡ l.count;
  set : AreSet (λ place. place + l.first) l.numbers l.number-index l.rows.items;
}
