use Rattle.std.proofs.Common.{◌≡◌, ◌++◌, subst, Some, None, arith}
use Rattle.px_program.specs.Fields.{AreFields}
use Rattle.px_program.specs.Formed.{base_of}
use Rattle.px_program.proofs.Fitting.{base_steps}
use Rattle.px_program.proofs.Slots.{IsFrom, are_fields, fields_begin, fields_all, fields_left, no_items}
use Rattle.px_program.proofs.program.Program.all_fields.Goals as goal

pub loop-at-smaller : goal.loop-at-smaller
loop-at-smaller c =
    let types = c.args.self.now.types in
    let at : c.loop-at.at ≡ Some c.in-Some.type_number = c.in-Some.is in
    rw (at, c.base_of-at.ensures) (base_steps types c.requires.types c.in-Some.type_number)

pub loop-type_number-preserved : goal.loop-type_number-preserved
loop-type_number-preserved c =
    fields_left c.args.self.now.types c.loop-type_number.fields.items c.extend_from_slice.new.self.items c.own_fields.result.now c.loop-type_number.chain.items c.pop.new.self.items c.in-Some-pop.type_number _
    c.in-Some-pop.ensures.items c.own_fields.ensures c.in_ok-extend_from_slice.ensures.items c.loop-type_number.invariant

pub returns-clause-fields : goal.returns-clause-fields
returns-clause-fields c =
    let types = c.args.self.now.types in
    let none : c.loop-at.at ≡ None = cc in
    are_fields types c.args.class c.loop-at.chain.items c.loop-type_number.fields.items
    (subst (λ at. (rest : _) → IsFrom (base_of types) at rest → IsFrom (base_of types) (Some c.args.class) (c.loop-at.chain.items ++ rest)) none c.loop-at.invariant)
    (fields_all types c.loop-type_number.fields.items c.loop-type_number.chain.items _ (no_items c.loop-type_number.chain.items (omega (arith, c.loop-type_number.chain.ok, c.in_default-pop.ensures.cases.0))) c.loop-type_number.invariant)

pub returns-clause-of_base : goal.returns-clause-of_base
returns-clause-of_base c = λ base those kind of_base.
    let types = c.args.self.now.types in
    let none : c.loop-at.at ≡ None = cc in
    let are : AreFields types c.args.class c.loop-type_number.fields.items =
    are_fields types c.args.class c.loop-at.chain.items c.loop-type_number.fields.items
    (subst (λ at. (rest : _) → IsFrom (base_of types) at rest → IsFrom (base_of types) (Some c.args.class) (c.loop-at.chain.items ++ rest)) none c.loop-at.invariant)
    (fields_all types c.loop-type_number.fields.items c.loop-type_number.chain.items _ (no_items c.loop-type_number.chain.items (omega (arith, c.loop-type_number.chain.ok, c.in_default-pop.ensures.cases.0))) c.loop-type_number.invariant) in
    fields_begin types c.args.class base c.loop-type_number.fields.items those kind of_base are
