-- What the tokens of instructions name, by the opcodes.
use Rattle.std.proofs.Common.{◌≡◌, [], ◌∷◌, refl, Some, None}
use Rattle.px_link_tokens.specs.Operands.{operand_of}
use Rattle.px_link_tokens.specs.declared.operand.Operand.TheVariants as operand
use Rattle.px_link_types.specs.Keys.{alone}
use Rattle.px_link_types.specs.declared.key.Leaf.TheVariants.{Number, Library, Defined}
use Rattle.px_program.specs.declared.instr.Check.TheVariants.{Assume}
use Rattle.px_sig.specs.declared.sig.Integer.TheVariants.{I4}
use Rattle.px_facts_link.proofs.CallAssembly.{calls}
use Rattle.px_facts_link.proofs.ShapeAssembly.{arrays}
use Rattle.px_facts_link.proofs.SigWords.{grammar}
use Rattle.px_facts_link.proofs.TableWords.{tables}

-- TEXTS of `ldstr`, which have one byte behind their code units

-- a body that takes texts of even length gives None
a_text : operand_of calls 0x72 0x7000_0001 ≡ Some (operand.Text (72 ∷ 105 ∷ []))
unfolding operand_of
a_text = refl

a_text_without_the_byte_behind_it : operand_of calls 0x72 0x7000_0007 ≡ None
unfolding operand_of
a_text_without_the_byte_behind_it = refl

a_method_is_no_text : operand_of calls 0x72 0x0600_0001 ≡ None
unfolding operand_of
a_method_is_no_text = refl

-- TYPES: of the arrays that `newarr` makes

-- a body that makes no array deeper gives Type (alone (Defined 1))
an_array_of_a_class : operand_of calls 0x8D 0x0200_0001 ≡ Some (operand.Type (arrays 1 (Defined 1)))
unfolding operand_of tables
an_array_of_a_class = refl

an_array_of_int32_by_its_name : operand_of calls 0x8D 0x0100_0003 ≡ Some (operand.Type (arrays 1 (Number I4)))
unfolding operand_of tables
an_array_of_int32_by_its_name = refl

an_array_of_arrays : operand_of calls 0x8D 0x1B00_0001 ≡ Some (operand.Type (arrays 2 (Number I4)))
unfolding operand_of grammar tables
an_array_of_arrays = refl

no_array_of_a_type_of_another_assembly : operand_of calls 0x8D 0x0100_0004 ≡ None
unfolding operand_of tables
no_array_of_a_type_of_another_assembly = refl

no_array_of_an_interface : operand_of calls 0x8D 0x0200_0002 ≡ None
unfolding operand_of tables
no_array_of_an_interface = refl

-- a body that takes a class that isn't known for Object gives Type (arrays 2 (Library 0))
no_array_of_arrays_of_such_a_type : operand_of calls 0x8D 0x1B00_0003 ≡ None
unfolding operand_of grammar tables
no_array_of_arrays_of_such_a_type = refl

-- of elements that `ldelem` and `stelem` reach

elements_of_the_library : operand_of calls 0xA3 0x0100_0002 ≡ Some (operand.Type (alone (Library 1)))
unfolding operand_of tables
elements_of_the_library = refl

elements_that_are_int32 : operand_of calls 0xA4 0x1B00_0002 ≡ Some (operand.Type (alone (Number I4)))
unfolding operand_of grammar tables
elements_that_are_int32 = refl

-- of objects that `castclass` and `isinst` look at: an integer is none

a_cast_to_a_class : operand_of calls 0x74 0x0200_0001 ≡ Some (operand.Type (alone (Defined 1)))
unfolding operand_of tables
a_cast_to_a_class = refl

a_test_for_an_array : operand_of calls 0x75 0x1B00_0001 ≡ Some (operand.Type (arrays 1 (Number I4)))
unfolding operand_of grammar tables
a_test_for_an_array = refl

no_cast_to_an_interface : operand_of calls 0x74 0x0200_0002 ≡ None
unfolding operand_of tables
no_cast_to_an_interface = refl

no_test_for_an_integer : operand_of calls 0x75 0x1B00_0002 ≡ None
unfolding operand_of grammar tables
no_test_for_an_integer = refl

no_cast_to_an_integer_by_its_name : operand_of calls 0x74 0x0100_0003 ≡ None
unfolding operand_of tables
no_cast_to_an_integer_by_its_name = refl

-- FIELDS: of instances

a_field : operand_of calls 0x7B 0x0400_0001 ≡ Some (operand.Field 1)
unfolding operand_of grammar tables
a_field = refl

a_field_of_a_type_with_an_initialiser : operand_of calls 0x7D 0x0400_0003 ≡ Some (operand.Field 3)
unfolding operand_of grammar tables
a_field_of_a_type_with_an_initialiser = refl

no_static_field_as_one_of_instances : operand_of calls 0x7B 0x0400_0002 ≡ None
unfolding operand_of grammar tables
no_static_field_as_one_of_instances = refl

-- and static ones, of a type that has no initialiser

no_field_of_instances_as_a_static_one : operand_of calls 0x7E 0x0400_0001 ≡ None
unfolding operand_of grammar tables
no_field_of_instances_as_a_static_one = refl

a_static_field : operand_of calls 0x80 0x0400_0002 ≡ Some (operand.Field 2)
unfolding operand_of grammar tables
a_static_field = refl

-- a body that runs on where the type would be initialised gives Some (operand.Field 4), and so does one that looks for it in the type before
no_static_field_of_a_type_with_an_initialiser : operand_of calls 0x7E 0x0400_0004 ≡ None
unfolding operand_of grammar tables
no_static_field_of_a_type_with_an_initialiser = refl

-- METHODS: that `call` names

-- a body that calls only where the type would be initialised gives None
a_static_method : operand_of calls 0x28 0x0600_0001 ≡ Some (operand.Method 1)
unfolding operand_of grammar tables
a_static_method = refl

no_method_without_a_body : operand_of calls 0x28 0x0600_0002 ≡ None
unfolding operand_of grammar tables
no_method_without_a_body = refl

a_constructor_that_is_called : operand_of calls 0x28 0x0600_0004 ≡ Some (operand.Method 4)
unfolding operand_of grammar tables
a_constructor_that_is_called = refl

no_static_method_of_a_type_with_an_initialiser : operand_of calls 0x28 0x0600_0006 ≡ None
unfolding operand_of grammar tables
no_static_method_of_a_type_with_an_initialiser = refl

-- that `callvirt` names, of instances, though it has no body

-- a body that wants a body there gives None
a_method_that_is_called_virtually : operand_of calls 0x6F 0x0600_0003 ≡ Some (operand.Method 3)
unfolding operand_of grammar tables
a_method_that_is_called_virtually = refl

no_static_method_that_is_called_virtually : operand_of calls 0x6F 0x0600_0001 ≡ None
unfolding operand_of grammar tables
no_static_method_that_is_called_virtually = refl

-- and that `newobj` names

a_constructor : operand_of calls 0x73 0x0600_0004 ≡ Some (operand.Method 4)
unfolding operand_of grammar tables
a_constructor = refl

no_static_method_that_makes_an_object : operand_of calls 0x73 0x0600_0001 ≡ None
unfolding operand_of grammar tables
no_static_method_that_makes_an_object = refl

-- THE LIBRARY

-- a body that leaves out exceptions gives None
an_exception_with_a_text : operand_of calls 0x73 0x0A00_0001 ≡ Some (operand.Constructor 1 (alone (Library 17) ∷ []))
unfolding operand_of grammar tables
an_exception_with_a_text = refl

-- a body that gives Object the constructors of exceptions gives Constructor 0 (alone (Library 17) ∷ [])
object_takes_no_text : operand_of calls 0x73 0x0A00_0002 ≡ None
unfolding operand_of grammar tables
object_takes_no_text = refl

no_constructor_of_another_assembly : operand_of calls 0x73 0x0A00_0003 ≡ None
unfolding operand_of grammar tables
no_constructor_of_another_assembly = refl

an_assumption : operand_of calls 0x28 0x0A00_0004 ≡ Some (operand.Check Assume)
unfolding operand_of grammar tables
an_assumption = refl

-- a body that makes objects by checks gives Some (operand.Check Assume)
no_object_is_made_by_an_assumption : operand_of calls 0x73 0x0A00_0004 ≡ None
unfolding operand_of grammar tables
no_object_is_made_by_an_assumption = refl

-- WHAT ISN'T RUN names nothing

a_type_for_itself : operand_of calls 0xD0 0x0200_0001 ≡ None
unfolding operand_of
a_type_for_itself = refl
