use Rattle.std.proofs.Common.{◌≤◌, ◌^◌, lit<, arith}
use Rattle.std.proofs.Math.Nat.{pow-le-pow_right}
use Rattle.px_asm_image.proofs.fits.fits_in.Goals as goal

pub pow-requires : goal.pow-requires
pow-requires c =
    let most : 256 ^ c.args.size ≤ 256 ^ 4 = pow-le-pow_right (lit< tt) {i = c.args.size} {j = 4} c.requires in
    omega (arith, most)
