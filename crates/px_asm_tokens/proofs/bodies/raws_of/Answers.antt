use Rattle.std.proofs.Common.{◌<◌, ◌^◌, rules}
use Rattle.px_link_methods.proofs.Pieces.{zipped_more}
use Rattle.px_asm_store.proofs.StoreStays.{store_grows_on}
use Rattle.px_asm_law_written.specs.Holds.{IsInstrIn}
use Rattle.px_asm_tokens.proofs.BodyStays.{instrs_stay}
use Rattle.px_asm_tokens.proofs.bodies.raws_of.Goals as goal

pub loop-instr-preserved : goal.loop-instr-preserved
loop-instr-preserved c =
    let p = c.args.rows.now in
    let old = c.loop-instr.store in
    let new = c.token_of.new.store in
    let grows = c.in_ok-token.ensures.grows in
    let less : c.in_ok-token.token < 2 ^ 32 = search rules in
    record {
      are = zipped_more (IsInstrIn p new) c.args.code.now c.loop-instr.instr-index c.instr-item.result c.loop-instr.raws c.push.new.self c.in_ok-raw.raw
          (instrs_stay p old new grows _ _ c.loop-instr.invariant.are) c.loop-instr-test.true c.instr-item.is (record { token = c.in_ok-token.token; fits = less; is = c.in_ok-raw.ensures; has = c.in_ok-token.ensures.token }) c.in_ok-push.ensures.ok;
      grows = store_grows_on c.args.store.now old new c.loop-instr.invariant.grows grows;
      kept = c.in_ok-token.ensures.kept;
    }
