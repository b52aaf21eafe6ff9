use Rattle.px_asm_store.proofs.StoreStays.{store_grows_on}
use Rattle.px_asm_law_written.specs.Holds.{IsFieldDef}
use Rattle.px_asm_rows.proofs.TableFacts.{zipped_at}
use Rattle.px_asm_rows.proofs.TableStays.{heaps, table_stays_field}
use Rattle.px_asm_rows.proofs.fields.field_rows.Goals as goal

pub loop-number-preserved : goal.loop-number-preserved
loop-number-preserved c =
    let rows = c.args.rows.now in
    let old = c.loop-number.store in
    let new = c.field_row.new.store in
    let made = c.in_ok-field_row.ensures in
    let pushed = c.in_ok-push.ensures in
    (zipped_at (IsFieldDef rows old) (IsFieldDef rows new) (table_stays_field rows old new (heaps old new made.grows)) c.args.fields.now c.loop-number.number _ c.loop-number.made.items c.push.new.self.items c.in_ok-field_row.field-0 c.loop-number.invariant.0 c.loop-number-test.true made.row pushed.items, store_grows_on c.args.store.now old new c.loop-number.invariant.1 made.grows)
