use Rattle.std.proofs.Common.{arith}
use Rattle.px_verify.proofs.Tables.{count_within, item_at, offset_within, placed_next}
use Rattle.px_verify.proofs.numbering.places_of.Goals as goal

pub overflow_cast-number : goal.overflow_cast-number
overflow_cast-number c = omega (arith, c.loop-number-test.true, count_within c.args.code.now c.requires, c.end_of.ensures, c.end_of.type_inv)

pub index_mut-requires : goal.index_mut-requires
index_mut-requires c =
    let at = item_at c.args.code.now c.loop-number.number c.index-code-number.result c.loop-number-test.true c.index-code-number.is in
    omega (arith, offset_within c.args.code.now 0 c.loop-number.number c.index-code-number.result c.requires at, c.loop-number.invariant.size, c.loop-number.places.ok)

pub loop-number-preserved : goal.loop-number-preserved
loop-number-preserved c =
    let at = item_at c.args.code.now c.loop-number.number c.index-code-number.result c.loop-number-test.true c.index-code-number.is in
    placed_next c.args.code.now c.loop-number.number c.index-code-number.result c.loop-number.places.items c.requires (omega (arith, c.loop-number-test.true, count_within c.args.code.now c.requires, c.end_of.ensures, c.end_of.type_inv)) at c.loop-number.invariant
