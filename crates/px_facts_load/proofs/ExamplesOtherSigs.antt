-- Signatures of fields, signatures of locals, and types alone.
use Rattle.std.proofs.Common.{◌≡◌, [], ◌∷◌, Ok, Err, refl}
use Rattle.std.proofs.Common.{ℕ, zero, suc, List, ◌++◌}
use Rattle.px_sig.specs.Grammar.{array_of, field_sig, locals_sig, method_sig, type_sig}
use Rattle.px_sig.specs.Parts.{arrays_of}
use Rattle.px_facts_load.proofs.SignatureWords.{grammar, string, object, other_type, bool, char, uint8, int32, definition_1}

-- FIELDS

a_field : field_sig (0x06 ∷ 0x08 ∷ []) ≡ Ok int32
unfolding grammar
a_field = refl

a_field_of_arrays : field_sig (0x06 ∷ 0x1D ∷ 0x1D ∷ 0x03 ∷ []) ≡ Ok (array_of (array_of char))
unfolding grammar
a_field_of_arrays = refl

a_field_of_a_class : field_sig (0x06 ∷ 0x12 ∷ 0x04 ∷ []) ≡ Ok definition_1
unfolding grammar
a_field_of_a_class = refl

a_modified_field : field_sig (0x06 ∷ 0x20 ∷ 0x09 ∷ 0x0E ∷ []) ≡ Ok string
unfolding grammar
a_modified_field = refl

a_pinned_field : field_sig (0x06 ∷ 0x45 ∷ 0x1C ∷ []) ≡ Ok object
unfolding grammar
a_pinned_field = refl

no_field_of_nothing : field_sig [] ≡ Err 0
unfolding grammar
no_field_of_nothing = refl

no_field_by_the_byte_of_locals : field_sig (0x07 ∷ 0x08 ∷ []) ≡ Err 0
unfolding grammar
no_field_by_the_byte_of_locals = refl

no_field_without_a_type : field_sig (0x06 ∷ []) ≡ Err 1
unfolding grammar
no_field_without_a_type = refl

no_field_of_no_type : field_sig (0x06 ∷ 0xFF ∷ []) ≡ Err 1
unfolding grammar
no_field_of_no_type = refl

no_field_of_two_types : field_sig (0x06 ∷ 0x08 ∷ 0x08 ∷ []) ≡ Err 2
unfolding grammar
no_field_of_two_types = refl

-- POINTERS TO FUNCTIONS, which may be of unmanaged code: a reader that takes the kinds of methods alone gives Err 2

a_function_of_c : field_sig (0x06 ∷ 0x1B ∷ 0x01 ∷ 0x00 ∷ 0x01 ∷ []) ≡ Ok other_type
unfolding grammar
a_function_of_c = refl

a_standard_call : field_sig (0x06 ∷ 0x1B ∷ 0x02 ∷ 0x00 ∷ 0x01 ∷ []) ≡ Ok other_type
unfolding grammar
a_standard_call = refl

a_call_with_this : field_sig (0x06 ∷ 0x1B ∷ 0x03 ∷ 0x00 ∷ 0x01 ∷ []) ≡ Ok other_type
unfolding grammar
a_call_with_this = refl

a_fast_call : field_sig (0x06 ∷ 0x1B ∷ 0x04 ∷ 0x00 ∷ 0x01 ∷ []) ≡ Ok other_type
unfolding grammar
a_fast_call = refl

a_function_with_a_variable_list : field_sig (0x06 ∷ 0x1B ∷ 0x05 ∷ 0x00 ∷ 0x01 ∷ []) ≡ Ok other_type
unfolding grammar
a_function_with_a_variable_list = refl

an_unmanaged_function : field_sig (0x06 ∷ 0x1B ∷ 0x09 ∷ 0x00 ∷ 0x01 ∷ []) ≡ Ok other_type
unfolding grammar
an_unmanaged_function = refl

an_unmanaged_function_with_a_receiver : field_sig (0x06 ∷ 0x1B ∷ 0x29 ∷ 0x00 ∷ 0x01 ∷ []) ≡ Ok other_type
unfolding grammar
an_unmanaged_function_with_a_receiver = refl

a_function_in_a_function : field_sig (0x06 ∷ 0x1B ∷ 0x00 ∷ 0x01 ∷ 0x01 ∷ 0x1B ∷ 0x02 ∷ 0x00 ∷ 0x01 ∷ []) ≡ Ok other_type
unfolding grammar
a_function_in_a_function = refl

no_function_of_kind_6 : field_sig (0x06 ∷ 0x1B ∷ 0x06 ∷ 0x00 ∷ 0x01 ∷ []) ≡ Err 2
unfolding grammar
no_function_of_kind_6 = refl

no_function_of_kind_7 : field_sig (0x06 ∷ 0x1B ∷ 0x07 ∷ 0x00 ∷ 0x01 ∷ []) ≡ Err 2
unfolding grammar
no_function_of_kind_7 = refl

no_function_of_kind_8 : field_sig (0x06 ∷ 0x1B ∷ 0x08 ∷ 0x00 ∷ 0x01 ∷ []) ≡ Err 2
unfolding grammar
no_function_of_kind_8 = refl

no_function_of_kind_10 : field_sig (0x06 ∷ 0x1B ∷ 0x0A ∷ 0x00 ∷ 0x01 ∷ []) ≡ Err 2
unfolding grammar
no_function_of_kind_10 = refl

no_function_with_the_top_bit : field_sig (0x06 ∷ 0x1B ∷ 0x82 ∷ 0x00 ∷ 0x01 ∷ []) ≡ Err 2
unfolding grammar
no_function_with_the_top_bit = refl

no_method_of_c : method_sig (0x01 ∷ 0x00 ∷ 0x01 ∷ []) ≡ Err 0
unfolding grammar
no_method_of_c = refl

no_unmanaged_method : method_sig (0x09 ∷ 0x00 ∷ 0x01 ∷ []) ≡ Err 0
unfolding grammar
no_unmanaged_method = refl

-- LOCALS

no_locals : locals_sig (0x07 ∷ 0x00 ∷ []) ≡ Ok []
unfolding grammar
no_locals = refl

-- a reader that takes a pinned type for an other one gives Ok (int32 ∷ other_type ∷ [])
a_pinned_local : locals_sig (0x07 ∷ 0x02 ∷ 0x08 ∷ 0x45 ∷ 0x0E ∷ []) ≡ Ok (int32 ∷ string ∷ [])
unfolding grammar
a_pinned_local = refl

three_locals : locals_sig (0x07 ∷ 0x03 ∷ 0x1D ∷ 0x05 ∷ 0x11 ∷ 0x04 ∷ 0x02 ∷ []) ≡ Ok (array_of uint8 ∷ other_type ∷ bool ∷ [])
unfolding grammar
three_locals = refl

no_locals_by_the_byte_of_a_field : locals_sig (0x06 ∷ 0x00 ∷ []) ≡ Err 0
unfolding grammar
no_locals_by_the_byte_of_a_field = refl

no_locals_without_a_count : locals_sig (0x07 ∷ []) ≡ Err 1
unfolding grammar
no_locals_without_a_count = refl

no_locals_with_half_a_count : locals_sig (0x07 ∷ 0x80 ∷ []) ≡ Err 1
unfolding grammar
no_locals_with_half_a_count = refl

no_locals_without_the_second : locals_sig (0x07 ∷ 0x02 ∷ 0x08 ∷ []) ≡ Err 3
unfolding grammar
no_locals_without_the_second = refl

no_locals_with_a_byte_after_them : locals_sig (0x07 ∷ 0x01 ∷ 0x08 ∷ 0x00 ∷ []) ≡ Err 3
unfolding grammar
no_locals_with_a_byte_after_them = refl

-- TYPES ALONE

a_type : type_sig (0x08 ∷ []) ≡ Ok int32
unfolding grammar
a_type = refl

an_array : type_sig (0x1D ∷ 0x0E ∷ []) ≡ Ok (array_of string)
unfolding grammar
an_array = refl

an_instance : type_sig (0x15 ∷ 0x12 ∷ 0x09 ∷ 0x01 ∷ 0x08 ∷ []) ≡ Ok other_type
unfolding grammar
an_instance = refl

no_type_of_nothing : type_sig [] ≡ Err 0
unfolding grammar
no_type_of_nothing = refl

no_type_of_an_unknown_byte : type_sig (0x3F ∷ []) ≡ Err 0
unfolding grammar
no_type_of_an_unknown_byte = refl

no_type_of_two : type_sig (0x08 ∷ 0x08 ∷ []) ≡ Err 1
unfolding grammar
no_type_of_two = refl

-- DEEP TYPES

-- the same bytes so many times, and then int32
abbrev nest : ℕ → List ℕ → List ℕ
nest zero bytes = 0x08 ∷ []
nest (suc times) bytes = bytes ++ nest times bytes

deep_arrays : type_sig (nest 60 (0x1D ∷ [])) ≡ Ok (arrays_of 60 int32)
unfolding grammar
deep_arrays = refl

deep_pointers : type_sig (nest 60 (0x0F ∷ [])) ≡ Ok other_type
unfolding grammar
deep_pointers = refl

deep_instances : type_sig (nest 20 (0x15 ∷ 0x12 ∷ 0x09 ∷ 0x02 ∷ 0x02 ∷ [])) ≡ Ok other_type
unfolding grammar
deep_instances = refl
