use Rattle.std.proofs.Common.{◌≡◌, ◌+◌, ◌≤◌, ◌^◌, length, Some, None, arith, rules}
use Rattle.std.specs.Prelude.{slice_get}
use Rattle.std.proofs.lemmas.Grind.{common_steps}
use Rattle.px_program.specs.Fields.{own_fields}
use Rattle.px_program.specs.Formed.{base_of}
use Rattle.px_program.proofs.Fitting.{base_step}
use Rattle.px_program.proofs.Slots.{adds_up_last, adds_up_least, adds_up_more, no_slot, slot_stays}
use Rattle.px_program.proofs.program.Program.slot_of.Goals as goal

pub loop-base-smaller : goal.loop-base-smaller
loop-base-smaller c =
    let goes : base_of c.args.self.now.types c.loop-base.at ≡ Some c.in-Some.base = cc in
    base_step c.args.self.now.types c.requires.types c.loop-base.at c.in-Some.base goes

pub loop-base-preserved : goal.loop-base-preserved
loop-base-preserved c =
    let types = c.args.self.now.types in
    let goes : base_of types c.loop-base.at ≡ Some c.in-Some.base = cc in
    let counted : c.in_ok-count.count ≡ length (own_fields (slice_get types c.in-Some.base)) = search rules in
    adds_up_more types c.args.field c.loop-base.slot c.loop-base.at c.in-Some.base c.in_ok-count.count c.in_ok-slot.slot c.loop-base.invariant goes counted c.in_ok-slot.ensures.1

pub returns-in_err-count-clause-slot : goal.returns-in_err-count-clause-slot
returns-in_err-count-clause-slot c =
    let types = c.args.self.now.types in
    let goes : base_of types c.loop-base.at ≡ Some c.in-Some.base = cc in
    let large : 2 ^ 32 ≤ length (own_fields (slice_get types c.in-Some.base)) = grind (arith, common_steps) in
    no_slot types c.args.field c.from_residual.result c.from_residual.ensures
    (adds_up_least types c.args.field c.loop-base.slot c.loop-base.at c.in-Some.base (2 ^ 32) c.loop-base.invariant goes
    (c.requires.types.bases c.in-Some.base).behind (c.requires.types.bases c.in-Some.base).chain (omega arith))

pub returns-in_err-slot-clause-slot : goal.returns-in_err-slot-clause-slot
returns-in_err-slot-clause-slot c =
    let types = c.args.self.now.types in
    let goes : base_of types c.loop-base.at ≡ Some c.in-Some.base = cc in
    let counted : c.in_ok-count.count ≡ length (own_fields (slice_get types c.in-Some.base)) = search rules in
    let large : 2 ^ 32 ≤ c.loop-base.slot + c.in_ok-count.count = omega (arith, c.in_err-slot.ensures) in
    no_slot types c.args.field c.from_residual-in_err-slot.result c.from_residual-in_err-slot.ensures
    (adds_up_least types c.args.field c.loop-base.slot c.loop-base.at c.in-Some.base (2 ^ 32) c.loop-base.invariant goes
    (c.requires.types.bases c.in-Some.base).behind (c.requires.types.bases c.in-Some.base).chain (omega arith))

pub returns-clause-slot : goal.returns-clause-slot
returns-clause-slot c =
    let types = c.args.self.now.types in
    let ends : base_of types c.loop-base.at ≡ None = cc in
    adds_up_last types c.args.field c.loop-base.slot c.loop-base.at c.loop-base.invariant ends

pub returns-clause-has : goal.returns-clause-has
returns-clause-has c = λ class fields place kind are at.
    let types = c.args.self.now.types in
    let ends : base_of types c.loop-base.at ≡ None = cc in
    slot_stays types c.args.field c.loop-base.slot class fields place
    (adds_up_last types c.args.field c.loop-base.slot c.loop-base.at c.loop-base.invariant ends) kind are at
