-- Signatures that are written: their bytes, and what is read of them.
use Rattle.std.proofs.Common.{◌≡◌, [], ◌∷◌, refl, map, true, false, Ok, Err}
use Rattle.px_asm_heaps.specs.Numbers.{number_bytes}
use Rattle.px_asm_heaps.specs.Types.{index_of, type_bytes}
use Rattle.px_sig.specs.Grammar.{array_of, field_sig, locals_sig, method_sig, type_sig}
use Rattle.px_facts_link.proofs.SigWords.{class, grammar, int32, object, string, void}

-- METHODS

a_static_method : method_sig (0x00 ∷ 0x02 ∷ 0x01 ∷ 0x1D ∷ 0x08 ∷ 0x0E ∷ [])
    ≡ Ok (record { has_this = false; plain = true; ret = void; params = array_of int32 ∷ string ∷ [] })
unfolding grammar
a_static_method = refl

-- FIELDS begin with 0x06

a_field : field_sig (0x06 ∷ 0x12 ∷ 0x09 ∷ []) ≡ Ok (class 0x0100_0002)
unfolding grammar
a_field = refl

-- what a body gives that begins a field as locals
a_field_begun_as_locals : field_sig (0x07 ∷ 0x12 ∷ 0x09 ∷ []) ≡ Err 0
unfolding grammar
a_field_begun_as_locals = refl

-- LOCALS begin with 0x07 and their count

two_locals : locals_sig (0x07 ∷ 0x02 ∷ 0x1C ∷ 0x12 ∷ 0x80 ∷ 0x82 ∷ []) ≡ Ok (object ∷ class 0x1B00_0020 ∷ [])
unfolding grammar
two_locals = refl

-- what a body gives that counts half of them
half_of_two_locals : locals_sig (0x07 ∷ 0x01 ∷ 0x1C ∷ 0x12 ∷ 0x80 ∷ 0x82 ∷ []) ≡ Err 3
unfolding grammar
half_of_two_locals = refl

-- TYPES

a_type_by_its_last_row : type_sig (0x12 ∷ 0xC3 ∷ 0xFF ∷ 0xFF ∷ 0xFD ∷ []) ≡ Ok (class 0x01FF_FFFF)
unfolding grammar
a_type_by_its_last_row = refl

types_without_a_class : map type_bytes (void ∷ int32 ∷ string ∷ object ∷ array_of (array_of int32) ∷ [])
    ≡ (0x01 ∷ []) ∷ (0x08 ∷ []) ∷ (0x0E ∷ []) ∷ (0x1C ∷ []) ∷ (0x1D ∷ 0x1D ∷ 0x08 ∷ []) ∷ []
types_without_a_class = refl

-- a body that takes types of the assembly for ones that are spelled gives 0x12 ∷ 0x0A ∷ [] for the first
classes_of_three_tables : map type_bytes (class 0x0200_0002 ∷ class 0x0100_0002 ∷ class 0x1B00_0002 ∷ [])
    ≡ (0x12 ∷ 0x08 ∷ []) ∷ (0x12 ∷ 0x09 ∷ []) ∷ (0x12 ∷ 0x0A ∷ []) ∷ []
unfolding index_of number_bytes
classes_of_three_tables = refl

what_is_read_of_them : map type_sig ((0x12 ∷ 0x08 ∷ []) ∷ (0x12 ∷ 0x09 ∷ []) ∷ (0x12 ∷ 0x0A ∷ []) ∷ [])
    ≡ Ok (class 0x0200_0002) ∷ Ok (class 0x0100_0002) ∷ Ok (class 0x1B00_0002) ∷ []
unfolding grammar
what_is_read_of_them = refl
