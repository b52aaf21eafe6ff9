use Rattle.std.proofs.Common.{◌≡◌, Some, None, sym}
use Rattle.px_meta.specs.Chains.{outer_of}
use Rattle.px_link.proofs.Naming.{along, gone_on, joined, no_slash, not_own, outermost_told}
use Rattle.px_link.proofs.name.is_type_name.Goals as goal

pub returns-in_default : goal.returns-in_default
returns-in_default c = λ n. not_own c.args.meta.now c.loop-front.row c.loop-front.text.now c.in_default.ensures (c.loop-front.invariant.alike.there n)

pub returns-in_default-outer_of : goal.returns-in_default-outer_of
returns-in_default-outer_of c =
    let v = c.args.meta.now in
    let none : outer_of v c.loop-front.row ≡ None = sym c.in_default-outer_of.ensures.outer in
    along v c.args.row c.args.text.now c.loop-front.row c.loop-front.text.now c.is_empty.result c.loop-front.invariant.alike
    (outermost_told v c.loop-front.row c.loop-front.text.now c.in-Some.front.now c.is_empty.result c.is_empty.ensures none c.in-Some.ensures)

pub returns-in_default-before : goal.returns-in_default-before
returns-in_default-before c =
    let v = c.args.meta.now in
    let outer = c.in-Some-outer_of.outer in
    let some : outer_of v c.loop-front.row ≡ Some outer = sym c.in-Some-outer_of.ensures.outer in
    λ n. no_slash v c.loop-front.row outer c.loop-front.text.now c.in-Some.front.now some c.in-Some.ensures c.in_default-before.ensures (c.loop-front.invariant.alike.there n)

pub loop-front-preserved : goal.loop-front-preserved
loop-front-preserved c =
    let v = c.args.meta.now in
    let outer = c.in-Some-outer_of.outer in
    let some : outer_of v c.loop-front.row ≡ Some outer = sym c.in-Some-outer_of.ensures.outer in
    record {
      row = c.in-Some-outer_of.ensures.row;
      alike = joined v c.args.row c.args.text.now c.loop-front.row c.loop-front.text.now outer c.in-Some-before.rest.now c.loop-front.invariant.alike
          (gone_on v c.loop-front.row outer c.loop-front.text.now c.in-Some.front.now c.in-Some-before.rest.now some c.in-Some.ensures c.in-Some-before.ensures);
    }
