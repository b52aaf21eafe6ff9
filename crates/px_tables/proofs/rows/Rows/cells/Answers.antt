use Rattle.std.proofs.Common.{◌-◌, refl, arith, ap, ◌∙◌, length-set, length, get_or}
use Rattle.px_tables.specs.declared.column.Column.TheVariants.{U8}
use Rattle.px_tables.specs.Counts.{column_size}
use Rattle.px_tables.specs.Rows.{Rows, cells_at}
use Rattle.px_tables.proofs.Cells.{cells_all, cells_more, inside_more, zeros_more}
use Rattle.px_tables.proofs.Places.{columns_end, is_known, laid_by, place_is, row_ends}
use Rattle.px_tables.proofs.rows.Rows.cells.Goals as goal

pub overflow_add-at : goal.overflow_add-at
overflow_add-at c =
    let rows = c.args.self.now in
    let laid = laid_by _ _ _ c.self.view_is c.self.invariant in
    let known = is_known rows.counts.rows c.args.table c.args.n laid.counted c.requires.from_one c.requires.there in
    let place = place_is _ _ _ _ c.args.table (c.args.n - 1) _ c.self.view_is c.self.invariant known c.from.ensures c.row_size.ensures.size in
    let ends = row_ends rows.counts c.args.table (c.args.n - 1) (length rows.bytes) laid.whole known (omega (arith, c.requires.there)) in
    omega (arith, place, ends, laid.short)

pub loop-k-init : goal.loop-k-init
loop-k-init c =
    let rows = c.args.self.now in
    let laid = laid_by _ _ _ c.self.view_is c.self.invariant in
    let known = is_known rows.counts.rows c.args.table c.args.n laid.counted c.requires.from_one c.requires.there in
    let place = place_is _ _ _ _ c.args.table (c.args.n - 1) _ c.self.view_is c.self.invariant known c.from.ensures c.row_size.ensures.size in
    record {
      front = ap (λ at. cells_at rows.counts rows.bytes at c.columns-columns.result.now) place;
      len = refl;
      zeros = refl;
      inside = columns_end rows.counts c.args.table (c.args.n - 1) _ _ _ c.columns-columns.ensures.columns place laid.whole known (omega (arith, c.requires.there));
    }

pub loop-k-preserved : goal.loop-k-preserved
loop-k-preserved c =
    let rows = c.args.self.now in
    let i = c.loop-k.invariant in
    let size = c.column_size-at.ensures.size ∙ ap (λ (r : Rows). column_size r.counts (get_or c.columns-columns.result.now c.loop-k.k U8)) c.self-in-loop-k.view_is in
    record {
      front = cells_more rows.counts rows.bytes c.loop-k.cells _ _ _ c.loop-k.k _ _ i.len c.loop-k-test.true c.columns-columns.ensures.few c.cell.ensures size i.front;
      len = length-set c.loop-k.cells c.loop-k.k c.cell.result ∙ i.len;
      zeros = zeros_more c.loop-k.cells c.loop-k.k c.cell.result i.zeros;
      inside = inside_more rows.counts _ _ c.loop-k.k _ _ c.loop-k-test.true size i.inside;
    }

pub returns : goal.returns
returns c =
    let i = c.loop-k.invariant in
    cells_all _ _ c.loop-k.cells _ c.loop-k.at c.loop-k.k c.args.table c.args.n c.columns-columns.ensures.columns i.len c.loop-k-test.false
    (omega (arith, c.columns-columns.ensures.few, c.loop-k.auto.k-end)) i.front i.zeros
