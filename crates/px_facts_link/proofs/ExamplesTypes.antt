-- Which classes tokens name, what types of signatures are, and the types that a type leads to.
use Rattle.std.proofs.Common.{◌≡◌, [], ◌∷◌, refl, map, true, false, Some, None}
use Rattle.px_link_types.specs.Keys.{alone, class_of, is_class, key_of, object, place_key}
use Rattle.px_link_types.specs.Numbers.{instance_fields, own_types, static_fields}
use Rattle.px_link_types.specs.declared.key.Leaf.TheVariants.{Number, Library, Defined}
use Rattle.px_sig.specs.declared.sig.Integer.TheVariants.{I4}
use Rattle.px_sig.specs.Grammar.{array_of}
use Rattle.px_facts_link.proofs.ShapeAssembly.{arrays, shapes}
use Rattle.px_facts_link.proofs.SigWords.{class, grammar, int32, object as object_type, other_type, string, void}
use Rattle.px_facts_link.proofs.TableWords.{tables}

-- CLASSES that tokens name: of the library

-- a body that takes each reference but those of other assemblies gives None for the last
types_of_the_library : map (class_of shapes) (0x0100_0001 ∷ 0x0100_0002 ∷ 0x0100_0005 ∷ 0x0100_0007 ∷ [])
    ≡ Some (Library 0) ∷ Some (Library 1) ∷ Some (Library 17) ∷ Some (Library 1) ∷ []
unfolding tables
types_of_the_library = refl

a_struct_base_is_no_class : class_of shapes 0x0100_0003 ≡ None
unfolding tables
a_struct_base_is_no_class = refl

a_type_of_another_namespace : class_of shapes 0x0100_0004 ≡ None
unfolding tables
a_type_of_another_namespace = refl

-- a body that counts the names of nested types gives Some (Library 1)
a_name_of_the_library_in_another_type : class_of shapes 0x0100_0006 ≡ None
unfolding tables
a_name_of_the_library_in_another_type = refl

no_such_reference : class_of shapes 0x0100_0008 ≡ None
unfolding tables
no_such_reference = refl

-- and of the assembly

classes_of_the_assembly : map (class_of shapes) (0x0200_0001 ∷ 0x0200_0003 ∷ []) ≡ Some (Defined 1) ∷ Some (Defined 3) ∷ []
unfolding tables
classes_of_the_assembly = refl

a_struct_is_no_class : class_of shapes 0x0200_0004 ≡ None
unfolding tables
a_struct_is_no_class = refl

-- a body that takes interfaces for classes gives Some (Defined 5)
an_interface_is_no_class : class_of shapes 0x0200_0005 ≡ None
unfolding tables
an_interface_is_no_class = refl

no_such_type : class_of shapes 0x0200_0007 ≡ None
unfolding tables
no_such_type = refl

classes_by_their_rows : map (is_class shapes) (1 ∷ 2 ∷ 3 ∷ 4 ∷ 5 ∷ 6 ∷ []) ≡ true ∷ true ∷ true ∷ false ∷ false ∷ true ∷ []
unfolding tables
classes_by_their_rows = refl

-- TYPES OF SIGNATURES

types_without_a_class : map (key_of shapes) (int32 ∷ string ∷ object_type ∷ [])
    ≡ Some (alone (Number I4)) ∷ Some (alone (Library 17)) ∷ Some (alone (Library 0)) ∷ []
unfolding tables
types_without_a_class = refl

a_class_of_the_assembly : key_of shapes (class 0x0200_0002) ≡ Some (alone (Defined 2))
unfolding tables
a_class_of_the_assembly = refl

-- a body that takes what isn't known for a string gives Some (alone (Library 17))
what_is_not_known_is_an_object : map (key_of shapes) (class 0x0100_0004 ∷ class 0x0200_0005 ∷ []) ≡ Some object ∷ Some object ∷ []
unfolding tables
what_is_not_known_is_an_object = refl

arrays_in_arrays : key_of shapes (array_of (array_of int32)) ≡ Some (arrays 2 (Number I4))
unfolding tables
arrays_in_arrays = refl

forms_that_are_not_run : map (key_of shapes) (void ∷ other_type ∷ array_of other_type ∷ []) ≡ None ∷ None ∷ None ∷ []
unfolding tables
forms_that_are_not_run = refl

their_places_are_objects : map (place_key shapes) (other_type ∷ array_of other_type ∷ string ∷ []) ≡ object ∷ object ∷ alone (Library 17) ∷ []
unfolding tables
their_places_are_objects = refl

-- WHAT A TYPE LEADS TO: the element of an array, and else its base and what its fields hold, the static ones last

the_element_of_an_array : own_types shapes (arrays 2 (Defined 1)) ≡ arrays 1 (Defined 1) ∷ []
unfolding tables
the_element_of_an_array = refl

fields_of_shape : instance_fields shapes 1 ≡ 2 ∷ 3 ∷ 4 ∷ 5 ∷ []
unfolding tables
fields_of_shape = refl

static_fields_of_shape : static_fields shapes 1 ≡ 1 ∷ []
unfolding tables
static_fields_of_shape = refl

-- a body that takes the static fields first gives arrays 2 (Number I4) behind the base
pub own_types_of_shape : own_types shapes (alone (Defined 1))
    ≡ alone (Defined 2) ∷ alone (Defined 3) ∷ object ∷ arrays 1 (Library 17) ∷ object ∷ arrays 2 (Number I4) ∷ []
unfolding grammar tables
own_types_of_shape = refl

pub own_types_of_base : own_types shapes (alone (Defined 2)) ≡ object ∷ object ∷ alone (Defined 1) ∷ []
unfolding grammar tables
own_types_of_base = refl

pub own_types_of_inner : own_types shapes (alone (Defined 3)) ≡ alone (Library 1) ∷ alone (Number I4) ∷ []
unfolding grammar tables
own_types_of_inner = refl

-- a body that lets types derive from String gives alone (Library 17)
pub no_type_derives_from_string : own_types shapes (alone (Defined 6)) ≡ object ∷ []
unfolding tables
no_type_derives_from_string = refl

types_of_the_library_lead_nowhere : own_types shapes (alone (Library 4)) ≡ []
unfolding tables
types_of_the_library_lead_nowhere = refl
