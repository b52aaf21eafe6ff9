use Rattle.std.proofs.Common.{arith}
use Rattle.px_asm_store.proofs.PlaceEnds.{around_leaf, around_more, around_none, element_fits, few_arrays, fewer_arrays}
use Rattle.px_asm_store.proofs.places.innermost.Goals as goal

pub loop-element-init : goal.loop-element-init
loop-element-init c = record { fits = c.requires.fits; count = omega (arith, few_arrays c.args.program.now c.args.place c.requires.types); around = around_none c.args.program.now c.args.place }

pub loop-element-smaller : goal.loop-element-smaller
loop-element-smaller c = fewer_arrays c.args.program.now c.loop-element.inner c.in-Some.element c.requires.types c.in-Some.ensures.array

pub loop-element-preserved : goal.loop-element-preserved
loop-element-preserved c =
    let p = c.args.program.now in
    let inner = c.loop-element.inner in
    let holds = c.in-Some.ensures.array in
    record {
      fits = element_fits p inner c.in-Some.element c.requires.types holds;
      count = omega (arith, c.loop-element.invariant.count, fewer_arrays p inner c.in-Some.element c.requires.types holds);
      around = around_more p c.args.place inner c.in-Some.element c.loop-element.arrays c.loop-element.invariant.around holds;
    }

pub returns : goal.returns
returns c =
    let inner = c.loop-element.inner in
    record {
      leaf = c.in_default.ensures.leaf;
      fits = c.loop-element.invariant.fits;
      around = around_leaf c.args.program.now c.args.place inner c.loop-element.arrays c.loop-element.invariant.around;
    }
