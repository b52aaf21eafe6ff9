use Rattle.std.proofs.Common.{arith}
use Rattle.px_tables.proofs.Sound.{sound_by}
use Rattle.px_tables.proofs.tables.read_tables.Goals as goal

pub invariant_of-result : goal.invariant_of-result
invariant_of-result c =
    let a = c.bytes.ensures in let b = c.bytes-2.ensures in let d = c.bytes-3.ensures in let e = c.bytes-4.ensures in
    sound_by _ c.in_ok-rows.ensures.whole c.in_ok-rows.ensures.short (rw a.bytes (omega (arith, a.short))) (rw b.bytes (omega (arith, b.short))) (rw d.bytes (omega (arith, d.short))) (rw e.bytes (omega (arith, e.short))) c.in_ok-rows.ensures.good

pub returns-clause-sound : goal.returns-clause-sound
returns-clause-sound c = invariant_of-result c
