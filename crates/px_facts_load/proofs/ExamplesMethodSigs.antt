-- Signatures of methods: how they begin, and what each type of a return value or a parameter is read as.
use Rattle.std.proofs.Common.{◌≡◌, [], ◌∷◌, Ok, refl}
use Rattle.px_sig.specs.Grammar.{array_of, method_sig}
use Rattle.px_facts_load.proofs.SignatureWords.{grammar, void, string, object, other_type, class, bool, char, int8, uint8, int16, uint16, int32, uint32, int64, uint64, nint, nuint, definition_2, reference_2, static, instance, special}

-- TYPES THAT STAND ALONE, and arrays

void_of_nothing : method_sig (0x00 ∷ 0x00 ∷ 0x01 ∷ []) ≡ Ok (static void [])
unfolding grammar
void_of_nothing = refl

void_of_a_receiver : method_sig (0x20 ∷ 0x00 ∷ 0x01 ∷ []) ≡ Ok (instance void [])
unfolding grammar
void_of_a_receiver = refl

-- a reader that leaves the last parameter gives Err 4
int32_of_bool_and_string : method_sig (0x00 ∷ 0x02 ∷ 0x08 ∷ 0x02 ∷ 0x0E ∷ []) ≡ Ok (static int32 (bool ∷ string ∷ []))
unfolding grammar
int32_of_bool_and_string = refl

char_int8_and_uint8 : method_sig (0x00 ∷ 0x03 ∷ 0x0B ∷ 0x03 ∷ 0x04 ∷ 0x05 ∷ []) ≡ Ok (static uint64 (char ∷ int8 ∷ uint8 ∷ []))
unfolding grammar
char_int8_and_uint8 = refl

int16_uint16_and_nuint : method_sig (0x00 ∷ 0x03 ∷ 0x18 ∷ 0x06 ∷ 0x07 ∷ 0x19 ∷ []) ≡ Ok (static nint (int16 ∷ uint16 ∷ nuint ∷ []))
unfolding grammar
int16_uint16_and_nuint = refl

uint32_int64_and_an_array : method_sig (0x00 ∷ 0x03 ∷ 0x1C ∷ 0x09 ∷ 0x0A ∷ 0x1D ∷ 0x08 ∷ []) ≡ Ok (static object (uint32 ∷ int64 ∷ array_of int32 ∷ []))
unfolding grammar
uint32_int64_and_an_array = refl

an_array_of_void : method_sig (0x00 ∷ 0x01 ∷ 0x1D ∷ 0x01 ∷ 0x01 ∷ []) ≡ Ok (static (array_of void) (void ∷ []))
unfolding grammar
an_array_of_void = refl

a_count_of_two_bytes : method_sig (0x00 ∷ 0x80 ∷ 0x01 ∷ 0x01 ∷ 0x08 ∷ []) ≡ Ok (static void (int32 ∷ []))
unfolding grammar
a_count_of_two_bytes = refl

-- CLASSES by their tokens: a coded index of TypeDef, TypeRef or TypeSpec

-- a reader that takes rows of TypeDef for rows of TypeRef gives class 0x0100_0002 for both
classes_of_two_tables : method_sig (0x00 ∷ 0x01 ∷ 0x12 ∷ 0x08 ∷ 0x12 ∷ 0x09 ∷ []) ≡ Ok (static definition_2 (reference_2 ∷ []))
unfolding grammar
classes_of_two_tables = refl

a_class_of_type_spec : method_sig (0x00 ∷ 0x00 ∷ 0x12 ∷ 0x0A ∷ []) ≡ Ok (static (class 0x1B00_0002) [])
unfolding grammar
a_class_of_type_spec = refl

row_0 : method_sig (0x00 ∷ 0x00 ∷ 0x12 ∷ 0x00 ∷ []) ≡ Ok (static (class 0x0200_0000) [])
unfolding grammar
row_0 = refl

the_last_row_of_a_token : method_sig (0x00 ∷ 0x00 ∷ 0x12 ∷ 0xC3 ∷ 0xFF ∷ 0xFF ∷ 0xFD ∷ []) ≡ Ok (static (class 0x01FF_FFFF) [])
unfolding grammar
the_last_row_of_a_token = refl

-- SPECIAL SIGNATURES: variable lists of arguments, type parameters, and receivers whose type is stated

a_variable_list : method_sig (0x05 ∷ 0x01 ∷ 0x01 ∷ 0x08 ∷ []) ≡ Ok (special (static void (int32 ∷ [])))
unfolding grammar
a_variable_list = refl

a_variable_list_with_its_mark : method_sig (0x05 ∷ 0x02 ∷ 0x01 ∷ 0x08 ∷ 0x41 ∷ 0x0E ∷ []) ≡ Ok (special (static void (int32 ∷ other_type ∷ [])))
unfolding grammar
a_variable_list_with_its_mark = refl

a_type_parameter : method_sig (0x10 ∷ 0x01 ∷ 0x01 ∷ 0x01 ∷ 0x1E ∷ 0x00 ∷ []) ≡ Ok (special (static void (other_type ∷ [])))
unfolding grammar
a_type_parameter = refl

type_parameters_and_a_receiver : method_sig (0x30 ∷ 0x02 ∷ 0x00 ∷ 0x13 ∷ 0x01 ∷ []) ≡ Ok (special (instance other_type []))
unfolding grammar
type_parameters_and_a_receiver = refl

-- a reader that takes a stated receiver for a plain one gives instance void []
a_receiver_of_a_stated_type : method_sig (0x60 ∷ 0x00 ∷ 0x01 ∷ []) ≡ Ok (special (instance void []))
unfolding grammar
a_receiver_of_a_stated_type = refl

a_stated_type_alone : method_sig (0x40 ∷ 0x00 ∷ 0x01 ∷ []) ≡ Ok (special (static void []))
unfolding grammar
a_stated_type_alone = refl

-- POINTERS, REFERENCES, VALUE TYPES AND FLOATS are other types

a_pointer : method_sig (0x00 ∷ 0x01 ∷ 0x01 ∷ 0x0F ∷ 0x01 ∷ []) ≡ Ok (static void (other_type ∷ []))
unfolding grammar
a_pointer = refl

a_pointer_to_a_modified_type : method_sig (0x00 ∷ 0x01 ∷ 0x01 ∷ 0x0F ∷ 0x1F ∷ 0x09 ∷ 0x01 ∷ []) ≡ Ok (static void (other_type ∷ []))
unfolding grammar
a_pointer_to_a_modified_type = refl

a_reference_before_bool : method_sig (0x00 ∷ 0x02 ∷ 0x01 ∷ 0x10 ∷ 0x08 ∷ 0x02 ∷ []) ≡ Ok (static void (other_type ∷ bool ∷ []))
unfolding grammar
a_reference_before_bool = refl

a_value_type_before_bool : method_sig (0x00 ∷ 0x02 ∷ 0x01 ∷ 0x11 ∷ 0x09 ∷ 0x02 ∷ []) ≡ Ok (static void (other_type ∷ bool ∷ []))
unfolding grammar
a_value_type_before_bool = refl

floats_and_typed_references : method_sig (0x00 ∷ 0x03 ∷ 0x01 ∷ 0x0C ∷ 0x0D ∷ 0x16 ∷ []) ≡ Ok (static void (other_type ∷ other_type ∷ other_type ∷ []))
unfolding grammar
floats_and_typed_references = refl

-- MODIFIERS AND PINS are passed over

a_modified_int32 : method_sig (0x00 ∷ 0x01 ∷ 0x01 ∷ 0x1F ∷ 0x09 ∷ 0x08 ∷ []) ≡ Ok (static void (int32 ∷ []))
unfolding grammar
a_modified_int32 = refl

modifiers_and_a_pin_in_arrays : method_sig (0x00 ∷ 0x01 ∷ 0x01 ∷ 0x20 ∷ 0x09 ∷ 0x45 ∷ 0x1D ∷ 0x1F ∷ 0x0A ∷ 0x1D ∷ 0x0E ∷ []) ≡
    Ok (static void (array_of (array_of string) ∷ []))
unfolding grammar
modifiers_and_a_pin_in_arrays = refl

-- GENERAL ARRAYS are other types, with a shape after their element

-- a reader that forgets the shape gives Err 6
a_general_array_before_bool : method_sig (0x00 ∷ 0x02 ∷ 0x01 ∷ 0x14 ∷ 0x08 ∷ 0x02 ∷ 0x00 ∷ 0x00 ∷ 0x02 ∷ []) ≡ Ok (static void (other_type ∷ bool ∷ []))
unfolding grammar
a_general_array_before_bool = refl

a_shape_with_sizes_and_bounds : method_sig (0x00 ∷ 0x02 ∷ 0x01 ∷ 0x14 ∷ 0x08 ∷ 0x02 ∷ 0x02 ∷ 0x03 ∷ 0x80 ∷ 0x05 ∷ 0x01 ∷ 0x7F ∷ 0x08 ∷ []) ≡
    Ok (static void (other_type ∷ int32 ∷ []))
unfolding grammar
a_shape_with_sizes_and_bounds = refl

-- INSTANCES of generic types are other types, with their arguments after them

an_instance_of_two_arguments : method_sig (0x00 ∷ 0x02 ∷ 0x01 ∷ 0x15 ∷ 0x12 ∷ 0x09 ∷ 0x02 ∷ 0x08 ∷ 0x0E ∷ 0x02 ∷ []) ≡
    Ok (static void (other_type ∷ bool ∷ []))
unfolding grammar
an_instance_of_two_arguments = refl

an_instance_in_an_instance : method_sig (0x00 ∷ 0x02 ∷ 0x01 ∷ 0x15 ∷ 0x11 ∷ 0x09 ∷ 0x01 ∷ 0x15 ∷ 0x12 ∷ 0x0A ∷ 0x01 ∷ 0x1D ∷ 0x08 ∷ 0x03 ∷ []) ≡
    Ok (static void (other_type ∷ char ∷ []))
unfolding grammar
an_instance_in_an_instance = refl

an_array_of_an_instance : method_sig (0x00 ∷ 0x01 ∷ 0x01 ∷ 0x1D ∷ 0x15 ∷ 0x12 ∷ 0x09 ∷ 0x01 ∷ 0x08 ∷ []) ≡ Ok (static void (array_of other_type ∷ []))
unfolding grammar
an_array_of_an_instance = refl

-- POINTERS TO FUNCTIONS are other types, with a whole signature after them

-- a reader that forgets the return type of the function gives Err 13
a_function_with_a_general_array : method_sig (0x00 ∷ 0x02 ∷ 0x01 ∷ 0x1B ∷ 0x20 ∷ 0x02 ∷ 0x01 ∷ 0x08 ∷ 0x14 ∷ 0x08 ∷ 0x01 ∷ 0x00 ∷ 0x00 ∷ 0x0E ∷ []) ≡
    Ok (static void (other_type ∷ string ∷ []))
unfolding grammar
a_function_with_a_general_array = refl

a_function_with_a_type_parameter : method_sig (0x00 ∷ 0x02 ∷ 0x01 ∷ 0x1B ∷ 0x10 ∷ 0x01 ∷ 0x00 ∷ 0x15 ∷ 0x12 ∷ 0x09 ∷ 0x02 ∷ 0x08 ∷ 0x08 ∷ 0x0E ∷ []) ≡
    Ok (static void (other_type ∷ string ∷ []))
unfolding grammar
a_function_with_a_type_parameter = refl
