use Rattle.std.proofs.Common.{◌≤◌, ◌^◌, lit<, arith}
use Rattle.std.proofs.Math.Nat.{pow-le-pow_right}
use Rattle.byteorder.specs.Numbers.{little_from-lt}
use Rattle.px_tables.proofs.rows.number.Goals as goal

pub overflow_cast-result : goal.overflow_cast-result
overflow_cast-result c =
    let most : 256 ^ c.args.size ≤ 256 ^ 4 = pow-le-pow_right (lit< tt) {i = c.args.size} {j = 4} c.requires.few in
    rw c.read_uint.ensures (omega (arith, most, little_from-lt 0 c.args.size c.args.bytes.now (λ k. omega (arith, c.type_inv.bytes k))))
