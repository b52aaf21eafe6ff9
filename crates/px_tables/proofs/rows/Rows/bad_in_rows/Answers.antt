use Rattle.std.proofs.Common.{sym, arith, ap, ◌∙◌, length}
use Rattle.px_tables.specs.Counts.{row_size}
use Rattle.px_tables.specs.Rows.{Rows, bad_in_columns}
use Rattle.px_tables.proofs.Bad.{bad_here, bad_later}
use Rattle.px_tables.proofs.Places.{columns_end, laid_by, row_ends}
use Rattle.px_tables.proofs.rows.Rows.bad_in_rows.Goals as goal

pub bad_in_columns-bad-requires : goal.bad_in_columns-bad-requires
bad_in_columns-bad-requires c =
    let rows = c.args.self.now in
    let laid = laid_by _ _ _ c.self.view_is c.self.invariant in
    columns_end rows.counts c.args.table c.loop-row._row _ _ _ c.columns-columns.ensures.columns c.loop-row.invariant.place laid.whole c.requires
    (rw (← c.count-row-end.ensures) c.loop-row-test.true)

pub returns-then-is_some-clause-bad : goal.returns-then-is_some-clause-bad
returns-then-is_some-clause-bad c =
    let rows = c.args.self.now in
    let found = c.bad_in_columns-bad.ensures.bad ∙ ap (bad_in_columns rows.counts rows.bytes c.loop-row.at) c.columns-columns.ensures.columns in
    sym (bad_here rows.counts rows.bytes c.args.table c.loop-row.at c.loop-row._row _ _ (rw (← c.count-row-end.ensures) c.loop-row-test.true) found (sym c.is_some.ensures ∙ c.if-is_some.true))
    ∙ c.loop-row.invariant.rest

pub overflow_add-at : goal.overflow_add-at
overflow_add-at c =
    let rows = c.args.self.now in
    let laid = laid_by _ _ _ c.self.view_is c.self.invariant in
    let ends = row_ends rows.counts c.args.table c.loop-row._row (length rows.bytes) laid.whole c.requires (rw (← c.count-row-end.ensures) c.loop-row-test.true) in
    omega (arith, c.loop-row.invariant.place, ends, laid.short, c.row_size-size.ensures.few)

pub loop-row-preserved : goal.loop-row-preserved
loop-row-preserved c =
    let rows = c.args.self.now in
    let found = c.bad_in_columns-bad.ensures.bad ∙ ap (bad_in_columns rows.counts rows.bytes c.loop-row.at) c.columns-columns.ensures.columns in
    let size = c.row_size-size.ensures.size ∙ ap (λ (r : Rows). row_size r.counts c.args.table) c.self.view_is in
    record {
      rest = rw size
          (sym (bad_later rows.counts rows.bytes c.args.table c.loop-row.at c.loop-row._row _ _ (rw (← c.count-row-end.ensures) c.loop-row-test.true) found (sym c.is_some.ensures ∙ c.if-is_some.false))
          ∙ c.loop-row.invariant.rest);
      place = rw size (omega (arith, c.loop-row.invariant.place));
    }
