use Rattle.px_asm_store.proofs.StoreStays.{store_grows_on}
use Rattle.px_asm_law_written.specs.Holds.{IsSpecRow}
use Rattle.px_asm_rows.proofs.TableFacts.{zipped_at}
use Rattle.px_asm_rows.proofs.TableStays.{heaps, table_stays_spec}
use Rattle.px_asm_rows.proofs.spelled.rows_of.Goals as goal

pub loop-place-preserved : goal.loop-place-preserved
loop-place-preserved c =
    let rows = c.args.rows.now in
    let old = c.loop-place.store in
    let new = c.spec_row.new.store in
    let made = c.in_ok-spec_row.ensures in
    let pushed = c.in_ok-push.ensures in
    (zipped_at (IsSpecRow rows old) (IsSpecRow rows new) (table_stays_spec rows old new (heaps old new made.grows)) c.args.places.now c.loop-place.place-index _ c.loop-place.made.items c.push.new.self.items c.in_ok-spec_row.field-0 c.loop-place.invariant.0 c.loop-place-test.true made.row pushed.items, store_grows_on c.args.store.now old new c.loop-place.invariant.1 made.grows)
