use Rattle.std.proofs.Common.{◌≤◌, ◌*◌, arith, refl, lit≤}
use Rattle.std.proofs.Math.Nat.{mul-le-mul_left}
use Rattle.px_tables.specs.Rows.{start_of}
use Rattle.px_tables.proofs.Places.{next_is}
use Rattle.px_asm_image.proofs.fits.rows_size.Goals as goal

pub loop-table-init : goal.loop-table-init
unfolding start_of
loop-table-init c = record { size = refl; small = lit≤ tt }

pub loop-table-preserved : goal.loop-table-preserved
loop-table-preserved c =
    let l = c.loop-table in
    let rows = c.rows.result in
    let most : rows * c.row_size.result ≤ rows * 36 = mul-le-mul_left rows c.row_size.ensures.few in
    record {
      size = next_is c.args.counts.now l.table l.size rows c.row_size.result l.invariant.size c.rows.ensures c.row_size.ensures.size;
      small = omega (arith, most, l.invariant.small, c.rows.type_inv);
    }
