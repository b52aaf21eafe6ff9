use Rattle.std.proofs.Common.{◌∙◌, sym, refl, arith, rules, length-set, lit≤}
use Rattle.px_tables.proofs.Counting.{count_fails, count_more, count_none, counts_all, no_front, zeros_all, zeros_more}
use Rattle.px_tables.proofs.header.counts_at.Goals as goal

pub loop-table-init : goal.loop-table-init
loop-table-init c = record { front = no_front _; len = refl; zeros = λ k h. zeros_all 64 k; inside = c.requires; near = lit≤ tt }

pub loop-table-preserved-then-not-has_bit : goal.loop-table-preserved-then-not-has_bit
loop-table-preserved-then-not-has_bit c =
    let l = c.loop-table in
    let i = l.invariant in
    record {
      front = sym (count_none l.counts l.table c.args.valid c.args.part.now l.at c.loop-table-test.true i.len (i.zeros l.table (omega arith)) (sym c.has_bit.ensures ∙ c.if-not-has_bit.true)) ∙ i.front;
      len = i.len;
      zeros = λ k h. i.zeros k (omega arith);
      inside = i.inside;
      near = omega (arith, i.near);
    }

pub returns-in_err-counts-clause-exact : goal.returns-in_err-counts-clause-exact
returns-in_err-counts-clause-exact c =
    let l = c.loop-table in
    let fails = count_fails l.counts l.table c.args.valid c.args.part.now l.at c.in_err-counts.field-0.0 c.loop-table-test.true (sym c.has_bit.ensures ∙ c.if-not-has_bit.false) (sym c.in_err-counts.ensures.exact) in
    let whole = sym fails ∙ l.invariant.front in
    search rules

pub loop-table-preserved : goal.loop-table-preserved
loop-table-preserved c =
    let l = c.loop-table in
    let i = l.invariant in
    let x = c.in_ok-counts.field-0 in
    record {
      front = rw c.from.ensures
          (sym (count_more l.counts l.table c.args.valid c.args.part.now l.at x c.loop-table-test.true i.len (sym c.has_bit.ensures ∙ c.if-not-has_bit.false) (sym c.in_ok-counts.ensures.exact)) ∙ i.front);
      len = length-set l.counts _ x ∙ i.len;
      zeros = zeros_more l.counts _ l.table x c.from.ensures i.zeros;
      inside = c.in_ok-counts.ensures.inside;
      near = omega (arith, i.near);
    }

pub returns-clause-exact : goal.returns-clause-exact
returns-clause-exact c =
    let l = c.loop-table in
    sym (counts_all l.counts l.table c.args.valid c.args.part.now l.at c.loop-table-test.false l.invariant.len) ∙ l.invariant.front
