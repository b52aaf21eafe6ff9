use Rattle.std.proofs.Common.{refl, sym, ◌∙◌, arith, length-set}
use Rattle.px_tables.specs.Rows.{start_of}
use Rattle.px_tables.proofs.Places.{all_within, cut_at, cut_nowhere, cut_past, next_is, starts_more}
use Rattle.px_tables.proofs.rows.Rows.new.Goals as goal

pub loop-table-init : goal.loop-table-init
unfolding start_of
loop-table-init c = record { end_is = refl; len = refl; inside = omega arith; starts_are = λ k h. absurd (omega arith); rest = refl }

pub returns-then-bytes-next-clause-exact : goal.returns-then-bytes-next-clause-exact
returns-then-bytes-next-clause-exact c =
    let i = c.loop-table.invariant in
    let next = next_is c.args.counts c.loop-table.table _ _ _ i.end_is c.rows.ensures c.row_size-size.ensures.size in
    rw (i.end_is, c.row_size-size.ensures.size) (cut_at c.args.counts _ _ c.loop-table-test.true i.rest (rw (← next) c.if-bytes-next.true))

pub loop-table-preserved : goal.loop-table-preserved
loop-table-preserved c =
    let i = c.loop-table.invariant in
    let next = next_is c.args.counts c.loop-table.table _ _ _ i.end_is c.rows.ensures c.row_size-size.ensures.size in
    record {
      end_is = next;
      len = rw length-set i.len;
      inside = c.if-bytes-next.false;
      starts_are = starts_more c.args.counts c.loop-table.starts _ c.loop-table.table c.loop-table.end c.from.ensures (omega (arith, i.len)) i.end_is i.starts_are;
      rest = sym (cut_past c.args.counts _ _ c.loop-table-test.true (rw (← next) c.if-bytes-next.false)) ∙ i.rest;
    }

pub returns-clause-exact : goal.returns-clause-exact
returns-clause-exact c = (cut_nowhere _ _ _ c.loop-table-test.false c.loop-table.invariant.rest, refl)

pub returns-clause-whole : goal.returns-clause-whole
returns-clause-whole c = all_within c.args.counts _ c.loop-table.table c.loop-table.end c.loop-table-test.false c.loop-table.auto.table-end c.loop-table.invariant.end_is c.loop-table.invariant.inside
