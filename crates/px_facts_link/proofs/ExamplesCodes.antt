-- What instructions of a method do, by the numbers of types and methods, and which of them are barred.
use Rattle.std.proofs.Common.{◌≡◌, List, [], ◌∷◌, ◌++◌, refl, map, Bool, true, false}
use Rattle.std.specs.Prelude.{codes}
use Rattle.px_code.specs.declared.body.RawInstr.{RawInstr}
use Rattle.px_link_methods.specs.Codes.{IsCode, Numbering}
use Rattle.px_link_methods.specs.Slots.{Forms, forms_of, is_barred}
use Rattle.px_link_opcodes.specs.Opcodes.{plain_code}
use Rattle.px_link_tokens.specs.Operands.{operand_of}
use Rattle.px_link_types.specs.Keys.{alone}
use Rattle.px_link_types.specs.Numbers.{library_keys}
use Rattle.px_link_types.specs.declared.key.Leaf.TheVariants.{Number, Defined}
use Rattle.px_meta.specs.Chains as chains
use Rattle.px_program.specs.declared.instr.Callee.TheVariants.{Method, Constructor}
use Rattle.px_program.specs.declared.instr.Check.TheVariants.{Assume}
use Rattle.px_program.specs.declared.instr.Code.{Code}
use Rattle.px_program.specs.declared.instr.Code.TheVariants.{Call, CallVirtual, Cast, Check, Element, Field, Length, Move, NewArray, NewObject, Outside, Return, Static}
use Rattle.px_program.specs.declared.instr.ElementForm.TheVariants.{Typed}
use Rattle.px_program.specs.declared.instr.Move.TheVariants.{Argument, SetArgument, Local, SetLocal, Text}
use Rattle.px_program.specs.declared.program.Place.TheVariants as places
use Rattle.px_program.specs.declared.program.Place.TheVariants.{Ref}
use Rattle.px_sig.specs.declared.sig.Integer.TheVariants.{I4}
use Rattle.px_sig.specs.declared.sig.MethodSig.{MethodSig}
use Rattle.px_sig.specs.declared.sig.SigType.{SigType}
use Rattle.px_facts_link.proofs.CallAssembly.{calls}
use Rattle.px_facts_link.proofs.InstrWords.{opcodes, with_number}
use Rattle.px_facts_link.proofs.ShapeAssembly.{arrays}
use Rattle.px_facts_link.proofs.SigWords.{grammar, int32, object, other_type, void}
use Rattle.px_facts_link.proofs.TableWords.{tables}

-- Calls has the number 18, Late 19, and arrays of int32 20; the methods are the constructor, the one of instances and the static one of Calls
abbrev pub numbers : Numbering
numbers = record { keys = library_keys ++ alone (Defined 1) ∷ alone (Defined 3) ∷ arrays 1 (Number I4) ∷ []; rows = 4 ∷ 3 ∷ 1 ∷ [] }

abbrev no_forms : Forms
no_forms = record { args = []; locals = []; ret = false }

-- what an instruction does in a method none of whose slots is barred
abbrev Does : RawInstr → Code → Type 0
Does raw made = IsCode calls numbers no_forms raw (plain_code raw) made

-- TYPES

a_new_array : Does (with_number 0x8D 0x0100_0003) (NewArray 20)
unfolding opcodes operand_of tables
a_new_array = refl

an_element_that_is_loaded : Does (with_number 0xA3 0x1B00_0002) (Element false (Typed places.I4))
unfolding grammar opcodes operand_of tables
an_element_that_is_loaded = refl

an_element_that_is_stored : Does (with_number 0xA4 0x0200_0001) (Element true (Typed (Ref 18)))
unfolding opcodes operand_of tables
an_element_that_is_stored = refl

a_cast : Does (with_number 0x74 0x0200_0001) (Cast true 18)
unfolding opcodes operand_of tables
a_cast = refl

-- a body that exchanges `castclass` and `isinst` gives Cast true 18
a_test_of_a_class : Does (with_number 0x75 0x0200_0001) (Cast false 18)
unfolding opcodes operand_of tables
a_test_of_a_class = refl

-- FIELDS by the number of the owner, and the place among those of its instances, or among its static ones

-- a body that takes the static fields gives record { owner = 18; index = 1 }
a_field_that_is_loaded : Does (with_number 0x7B 0x0400_0001) (Field false (record { owner = 18; index = 0 }))
unfolding grammar opcodes operand_of tables
a_field_that_is_loaded = refl

a_field_that_is_stored : Does (with_number 0x7D 0x0400_0003) (Field true (record { owner = 19; index = 0 }))
unfolding grammar opcodes operand_of tables
a_field_that_is_stored = refl

a_static_field_that_is_loaded : Does (with_number 0x7E 0x0400_0002) (Static false (record { owner = 18; index = 0 }))
unfolding grammar opcodes operand_of tables
a_static_field_that_is_loaded = refl

a_static_field_that_is_stored : Does (with_number 0x80 0x0400_0002) (Static true (record { owner = 18; index = 0 }))
unfolding grammar opcodes operand_of tables
a_static_field_that_is_stored = refl

-- METHODS by their numbers

a_static_call : Does (with_number 0x28 0x0600_0001) (Call (Method 2))
unfolding grammar opcodes operand_of tables
a_static_call = refl

a_call_of_a_constructor : Does (with_number 0x28 0x0600_0004) (Call (Method 0))
unfolding grammar opcodes operand_of tables
a_call_of_a_constructor = refl

-- a body that calls what makes an object gives Call (Method 0)
a_new_object : Does (with_number 0x73 0x0600_0004) (NewObject (Method 0))
unfolding grammar opcodes operand_of tables
a_new_object = refl

a_virtual_call : Does (with_number 0x6F 0x0600_0003) (CallVirtual 1)
unfolding grammar opcodes operand_of tables
a_virtual_call = refl

a_new_exception : Does (with_number 0x73 0x0A00_0001) (NewObject (Constructor 1 (Ref 17 ∷ [])))
unfolding grammar opcodes operand_of tables
a_new_exception = refl

-- TEXTS AND CHECKS

a_text : Does (with_number 0x72 0x7000_0001) (Move (Text (72 ∷ 105 ∷ [])))
unfolding opcodes operand_of
a_text = refl

an_assumption : Does (with_number 0x28 0x0A00_0004) (Check Assume)
unfolding grammar opcodes operand_of tables
an_assumption = refl

-- WHAT ISN'T RUN, by the name of a member or of the opcode

a_call_of_a_method_without_a_body : Does (with_number 0x28 0x0600_0002) (Outside (codes "Calls::m") 0x28)
unfolding grammar opcodes operand_of tables
a_call_of_a_method_without_a_body = record {
  name = codes "Calls::m";
  name_is = record { type = codes "Calls"; type_is = record { outers = []; chain = chains.Ends 1 refl; is = refl }; is = refl };
  is = refl;
}

a_token_of_a_type : Does (with_number 0xD0 0x0200_0001) (Outside (codes "opcode-D0") 0xD0)
unfolding opcodes operand_of
a_token_of_a_type = record { name = codes "opcode-D0"; name_is = refl; is = refl }

-- SLOTS of forms that aren't run: a method with a receiver that takes an int32 and a float, and has a float and an object as locals

abbrev returning : SigType → MethodSig
returning ret = record { has_this = true; plain = true; ret = ret; params = int32 ∷ other_type ∷ [] }

abbrev locals : List SigType
locals = other_type ∷ object ∷ []

-- a body without the receiver gives false ∷ true ∷ [] for the arguments
forms : forms_of calls (returning other_type) locals ≡ record { args = false ∷ false ∷ true ∷ []; locals = true ∷ false ∷ []; ret = true }
unfolding grammar
forms = refl

a_static_method_has_no_receiver : forms_of calls (record { has_this = false; plain = true; ret = void; params = other_type ∷ [] }) []
    ≡ record { args = true ∷ []; locals = []; ret = false }
unfolding grammar
a_static_method_has_no_receiver = refl

-- which of some instructions are barred where the method returns this
abbrev barred : SigType → List Code → List Bool
barred ret made = map (is_barred (forms_of calls (returning ret) locals)) made

barred_arguments : barred other_type (map (λ n. Move (Argument n)) (0 ∷ 1 ∷ 2 ∷ 3 ∷ [])) ≡ false ∷ false ∷ true ∷ false ∷ []
unfolding grammar
barred_arguments = refl

barred_stores_to_arguments : barred other_type (map (λ n. Move (SetArgument n)) (0 ∷ 1 ∷ 2 ∷ 3 ∷ [])) ≡ false ∷ false ∷ true ∷ false ∷ []
unfolding grammar
barred_stores_to_arguments = refl

-- a body that goes by the arguments gives true for the third alone
barred_locals : barred other_type (map (λ n. Move (Local n)) (0 ∷ 1 ∷ 2 ∷ 3 ∷ [])) ≡ true ∷ false ∷ false ∷ false ∷ []
unfolding grammar
barred_locals = refl

barred_stores_to_locals : barred other_type (map (λ n. Move (SetLocal n)) (0 ∷ 1 ∷ 2 ∷ 3 ∷ [])) ≡ true ∷ false ∷ false ∷ false ∷ []
unfolding grammar
barred_stores_to_locals = refl

a_return_of_a_float : barred other_type (Return ∷ Length ∷ []) ≡ true ∷ false ∷ []
unfolding grammar
a_return_of_a_float = refl

a_return_of_nothing : barred void (Return ∷ []) ≡ false ∷ []
unfolding grammar
a_return_of_nothing = refl
