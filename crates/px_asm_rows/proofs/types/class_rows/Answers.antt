use Rattle.px_asm_store.proofs.StoreStays.{store_grows_on}
use Rattle.px_asm_rows.specs.Tables.{IsTypeDefOf}
use Rattle.px_asm_rows.proofs.TableFacts.{zipped_at}
use Rattle.px_asm_rows.proofs.TableStays.{heaps, table_stays_type_def_of}
use Rattle.px_asm_rows.proofs.types.class_rows.Goals as goal

pub loop-number-preserved : goal.loop-number-preserved
loop-number-preserved c =
    let rows = c.args.rows.now in
    let old = c.loop-number.store in
    let new = c.type_def.new.store in
    let made = c.in_ok-type_def.ensures in
    let pushed = c.in_ok-push.ensures in
    (zipped_at (IsTypeDefOf rows old) (IsTypeDefOf rows new) (table_stays_type_def_of rows old new (heaps old new made.grows)) c.args.numbers.now c.loop-number.number-index _ c.loop-number.made.items c.push.new.self.items c.in_ok-type_def.field-0 c.loop-number.invariant.0 c.loop-number-test.true made.row pushed.items, store_grows_on c.args.store.now old new c.loop-number.invariant.1 made.grows)
