use Rattle.px_asm_store.proofs.StoreStays.{store_grows_on}
use Rattle.px_asm_law_written.specs.Holds.{IsLocals}
use Rattle.px_asm_rows.proofs.TableFacts.{zipped_at}
use Rattle.px_asm_rows.proofs.TableStays.{heaps, table_stays_locals}
use Rattle.px_asm.proofs.methods.locals_rows.Goals as goal

pub loop-number-preserved : goal.loop-number-preserved
loop-number-preserved c =
    let rows = c.args.rows.now in
    let old = c.loop-number.store in
    let new = c.locals_row.new.store in
    let made = c.in_ok-locals_row.ensures in
    let pushed = c.in_ok-push.ensures in
    (zipped_at (IsLocals rows old) (IsLocals rows new) (table_stays_locals rows old new (heaps old new made.grows)) c.args.numbers.now c.loop-number.number-index _ c.loop-number.made.items c.push.new.self.items c.in_ok-locals_row.field-0 c.loop-number.invariant.0 c.loop-number-test.true made.row pushed.items, store_grows_on c.args.store.now old new c.loop-number.invariant.1 made.grows)
