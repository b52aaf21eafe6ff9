-- Blobs that are no signatures of methods, each with the place of its first fault.
use Rattle.std.proofs.Common.{◌≡◌, [], ◌∷◌, Err, refl}
use Rattle.px_sig.specs.Grammar.{method_sig}
use Rattle.px_facts_load.proofs.SignatureWords.{grammar}

-- THE FRONT: the kind of the method, and its counts

nothing : method_sig [] ≡ Err 0
unfolding grammar
nothing = refl

an_unknown_kind : method_sig (0x01 ∷ 0x00 ∷ 0x01 ∷ []) ≡ Err 0
unfolding grammar
an_unknown_kind = refl

a_kind_with_the_top_bit : method_sig (0x80 ∷ 0x00 ∷ 0x01 ∷ []) ≡ Err 0
unfolding grammar
a_kind_with_the_top_bit = refl

the_kind_of_a_field : method_sig (0x06 ∷ 0x08 ∷ []) ≡ Err 0
unfolding grammar
the_kind_of_a_field = refl

no_count : method_sig (0x00 ∷ []) ≡ Err 1
unfolding grammar
no_count = refl

half_a_count : method_sig (0x00 ∷ 0x80 ∷ []) ≡ Err 1
unfolding grammar
half_a_count = refl

a_count_that_is_no_number : method_sig (0x00 ∷ 0xFF ∷ 0x01 ∷ []) ≡ Err 1
unfolding grammar
a_count_that_is_no_number = refl

no_count_of_type_parameters : method_sig (0x10 ∷ []) ≡ Err 1
unfolding grammar
no_count_of_type_parameters = refl

no_count_after_the_type_parameters : method_sig (0x10 ∷ 0x01 ∷ []) ≡ Err 2
unfolding grammar
no_count_after_the_type_parameters = refl

-- WHAT IS MISSING, and what is too much

no_return_type : method_sig (0x00 ∷ 0x00 ∷ []) ≡ Err 2
unfolding grammar
no_return_type = refl

no_return_type_after_type_parameters : method_sig (0x10 ∷ 0x01 ∷ 0x00 ∷ []) ≡ Err 3
unfolding grammar
no_return_type_after_type_parameters = refl

no_second_parameter : method_sig (0x00 ∷ 0x02 ∷ 0x01 ∷ 0x08 ∷ []) ≡ Err 4
unfolding grammar
no_second_parameter = refl

-- a reader that takes blobs with bytes after their end gives Ok (static Void [])
a_byte_after_the_return_type : method_sig (0x00 ∷ 0x00 ∷ 0x01 ∷ 0x00 ∷ []) ≡ Err 3
unfolding grammar
a_byte_after_the_return_type = refl

a_type_after_the_last_parameter : method_sig (0x00 ∷ 0x01 ∷ 0x01 ∷ 0x1C ∷ 0x08 ∷ []) ≡ Err 4
unfolding grammar
a_type_after_the_last_parameter = refl

-- BYTES WITH WHICH NO TYPE BEGINS

byte_00 : method_sig (0x00 ∷ 0x01 ∷ 0x01 ∷ 0x00 ∷ []) ≡ Err 3
unfolding grammar
byte_00 = refl

-- a reader that names the place after the byte gives Err 4
byte_17 : method_sig (0x00 ∷ 0x01 ∷ 0x01 ∷ 0x17 ∷ []) ≡ Err 3
unfolding grammar
byte_17 = refl

byte_1A : method_sig (0x00 ∷ 0x01 ∷ 0x01 ∷ 0x1A ∷ []) ≡ Err 3
unfolding grammar
byte_1A = refl

byte_21 : method_sig (0x00 ∷ 0x01 ∷ 0x01 ∷ 0x21 ∷ []) ≡ Err 3
unfolding grammar
byte_21 = refl

byte_40 : method_sig (0x00 ∷ 0x01 ∷ 0x01 ∷ 0x40 ∷ []) ≡ Err 3
unfolding grammar
byte_40 = refl

byte_46 : method_sig (0x00 ∷ 0x01 ∷ 0x01 ∷ 0x46 ∷ []) ≡ Err 3
unfolding grammar
byte_46 = refl

-- TOKENS

a_class_without_a_token : method_sig (0x00 ∷ 0x01 ∷ 0x01 ∷ 0x12 ∷ []) ≡ Err 4
unfolding grammar
a_class_without_a_token = refl

a_class_of_no_table : method_sig (0x00 ∷ 0x01 ∷ 0x01 ∷ 0x12 ∷ 0x03 ∷ []) ≡ Err 4
unfolding grammar
a_class_of_no_table = refl

half_a_token : method_sig (0x00 ∷ 0x01 ∷ 0x01 ∷ 0x12 ∷ 0xC0 ∷ 0x00 ∷ []) ≡ Err 4
unfolding grammar
half_a_token = refl

-- a reader that allows rows of 25 bits gives Ok (static Void (Class 0x0300_0000 ∷ []))
a_row_of_25_bits : method_sig (0x00 ∷ 0x01 ∷ 0x01 ∷ 0x12 ∷ 0xC4 ∷ 0x00 ∷ 0x00 ∷ 0x00 ∷ []) ≡ Err 4
unfolding grammar
a_row_of_25_bits = refl

a_value_type_of_no_table : method_sig (0x00 ∷ 0x01 ∷ 0x01 ∷ 0x11 ∷ 0x07 ∷ []) ≡ Err 4
unfolding grammar
a_value_type_of_no_table = refl

-- TYPES IN TYPES

an_array_of_nothing : method_sig (0x00 ∷ 0x01 ∷ 0x01 ∷ 0x1D ∷ []) ≡ Err 4
unfolding grammar
an_array_of_nothing = refl

an_array_of_no_type : method_sig (0x00 ∷ 0x01 ∷ 0x01 ∷ 0x1D ∷ 0x17 ∷ []) ≡ Err 4
unfolding grammar
an_array_of_no_type = refl

a_modifier_of_no_table : method_sig (0x00 ∷ 0x01 ∷ 0x01 ∷ 0x1F ∷ 0x07 ∷ 0x08 ∷ []) ≡ Err 4
unfolding grammar
a_modifier_of_no_table = refl

a_modifier_of_nothing : method_sig (0x00 ∷ 0x01 ∷ 0x01 ∷ 0x20 ∷ 0x09 ∷ []) ≡ Err 5
unfolding grammar
a_modifier_of_nothing = refl

a_mark_of_a_list_before_nothing : method_sig (0x00 ∷ 0x01 ∷ 0x01 ∷ 0x41 ∷ []) ≡ Err 4
unfolding grammar
a_mark_of_a_list_before_nothing = refl

a_pin_of_nothing : method_sig (0x00 ∷ 0x01 ∷ 0x01 ∷ 0x45 ∷ []) ≡ Err 4
unfolding grammar
a_pin_of_nothing = refl

a_shape_without_its_size : method_sig (0x00 ∷ 0x01 ∷ 0x01 ∷ 0x14 ∷ 0x08 ∷ 0x02 ∷ 0x01 ∷ []) ≡ Err 7
unfolding grammar
a_shape_without_its_size = refl

a_shape_without_bounds : method_sig (0x00 ∷ 0x01 ∷ 0x01 ∷ 0x14 ∷ 0x08 ∷ 0x02 ∷ 0x00 ∷ []) ≡ Err 7
unfolding grammar
a_shape_without_bounds = refl

an_instance_of_a_variable : method_sig (0x00 ∷ 0x01 ∷ 0x01 ∷ 0x15 ∷ 0x13 ∷ 0x09 ∷ 0x01 ∷ 0x08 ∷ []) ≡ Err 4
unfolding grammar
an_instance_of_a_variable = refl

an_instance_without_its_second_argument : method_sig (0x00 ∷ 0x01 ∷ 0x01 ∷ 0x15 ∷ 0x12 ∷ 0x09 ∷ 0x02 ∷ 0x08 ∷ []) ≡ Err 8
unfolding grammar
an_instance_without_its_second_argument = refl

a_function_of_an_unknown_kind : method_sig (0x00 ∷ 0x01 ∷ 0x01 ∷ 0x1B ∷ 0x06 ∷ 0x00 ∷ 0x01 ∷ []) ≡ Err 4
unfolding grammar
a_function_of_an_unknown_kind = refl

-- a reader that forgets the return type of the function gives Ok (static void (other_type ∷ []))
a_function_without_its_parameter : method_sig (0x00 ∷ 0x01 ∷ 0x01 ∷ 0x1B ∷ 0x00 ∷ 0x01 ∷ 0x01 ∷ []) ≡ Err 7
unfolding grammar
a_function_without_its_parameter = refl
