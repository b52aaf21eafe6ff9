use Rattle.px_asm_store.proofs.StoreStays.{store_grows_on}
use Rattle.px_asm_rows.specs.Tables.{HasAddress}
use Rattle.px_asm_law_written.specs.Holds.{IsMethodDef}
use Rattle.px_asm_rows.proofs.TableFacts.{zipped_at, zip_read}
use Rattle.px_asm_rows.proofs.TableStays.{heaps, heaps_grow_twice}
use Rattle.px_asm.proofs.methods.method_rows.Goals as goal

pub loop-at-preserved : goal.loop-at-preserved
loop-at-preserved c =
    let rows = c.args.rows.now in
    let old = c.loop-at.store in
    let new = c.method_row.new.store in
    let made = c.in_ok-method_row.ensures in
    let pushed = c.in_ok-push.ensures in (
      λ s bodies are more. (let has = zip_read (HasAddress rows s bodies) c.args.numbers.now c.args.addresses.now c.loop-at.at 0 0 are c.loop-at-test.true in
          zipped_at (IsMethodDef rows s bodies) (IsMethodDef rows s bodies) (λ number row is. is) c.args.numbers.now c.loop-at.at 0 c.loop-at.made.items c.push.new.self.items c.in_ok-method_row.field-0 (c.loop-at.invariant.0 s bodies are (heaps_grow_twice old new s (heaps old new made.grows) more)) c.loop-at-test.true (made.row.is s bodies has more) pushed.items),
      store_grows_on c.args.store.now old new c.loop-at.invariant.1 made.grows,
    )
