use Rattle.px_asm_rows.specs.Tables.{HasAddress}
use Rattle.px_asm_rows.proofs.TableFacts.{zipped_at}
use Rattle.px_asm_rows.proofs.TableStays.{table_stays_address}
use Rattle.px_asm.proofs.methods.addresses_of.Goals as goal

pub loop-number-preserved : goal.loop-number-preserved
loop-number-preserved c =
    let rows = c.args.rows.now in
    let old = c.loop-number.store in
    let new = c.push_body.new.store in
    let before = c.loop-number.bodies.items in
    let after = c.push_body.new.bodies.items in
    let made = c.in_ok-push_body.ensures in
    let pushed = c.in_ok-push.ensures in
    (zipped_at (HasAddress rows old before) (HasAddress rows new after) (table_stays_address rows old new made.grows before after made.behind) c.args.numbers.now c.loop-number.number-index 0 c.loop-number.addresses.items c.push.new.self.items c.in_ok-push_body.field-0 c.loop-number.invariant.0 c.loop-number-test.true (record { is = made.address }) pushed.items, made.kept)
