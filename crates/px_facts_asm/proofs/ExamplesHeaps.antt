-- Heaps and compressed numbers byte by byte.
use Rattle.std.proofs.Common.{◌≡◌, ◌≢◌, ℕ, zero, suc, ◌+◌, ◌^◌, ◌<◌, List, [], ◌∷◌, ◌++◌, length, refl, map, None, arith}
use Rattle.std.specs.Prelude.{All, codes, replicate}
use Rattle.std.specs.Char.{encode_utf8}
use Rattle.px_asm_heaps.specs.Heaps.{HasBlob, HasString, HasText, unit_bytes}
use Rattle.px_asm_heaps.specs.Numbers.{number_bytes}
use Rattle.px_asm_heaps.specs.Texts.{flag_of}
use Rattle.px_asm_heaps.proofs.Stands.{blob_stands, text_stands}
use Rattle.px_blobs.specs.Items.{compressed_in}
use Rattle.px_meta.specs.Tokens.{table_in}

-- NUMBERS in as few bytes as they need

one_byte : map number_bytes (0 ∷ 0x03 ∷ 0x7F ∷ []) ≡ (0 ∷ []) ∷ (0x03 ∷ []) ∷ (0x7F ∷ []) ∷ []
unfolding number_bytes
one_byte = refl

two_bytes : map number_bytes (0x80 ∷ 300 ∷ 0x3FFF ∷ []) ≡ (0x80 ∷ 0x80 ∷ []) ∷ (0x81 ∷ 0x2C ∷ []) ∷ (0xBF ∷ 0xFF ∷ []) ∷ []
unfolding number_bytes
two_bytes = refl

-- a body that takes two bytes for fifteen bits gives 0xC0 ∷ 0x00 ∷ [] for the first, which begins a number of four bytes
four_bytes : map number_bytes (0x4000 ∷ 0x1FFF_FFFF ∷ []) ≡ (0xC0 ∷ 0x00 ∷ 0x40 ∷ 0x00 ∷ []) ∷ (0xDF ∷ 0xFF ∷ 0xFF ∷ 0xFF ∷ []) ∷ []
unfolding number_bytes
four_bytes = refl

what_two_bytes_would_begin : compressed_in (0xC0 ∷ 0x00 ∷ []) ≡ None
what_two_bytes_would_begin = refl

-- STRINGS end with a zero

abbrev strings : List ℕ
strings = 0 ∷ 0x61 ∷ 0x62 ∷ 0 ∷ 0x63 ∷ 0 ∷ []

no_zero_in_ab : All (λ (byte : ℕ). byte ≢ 0) (0x61 ∷ 0x62 ∷ [])
no_zero_in_ab zero d less = λ e. omega arith
no_zero_in_ab (suc zero) d less = λ e. omega arith
no_zero_in_ab (suc (suc k)) d less = absurd (omega arith)

no_zero_in_c : All (λ (byte : ℕ). byte ≢ 0) (0x63 ∷ [])
no_zero_in_c zero d less = λ e. omega arith
no_zero_in_c (suc k) d less = absurd (omega arith)

ab_at_one : HasString strings 1 (codes "ab")
unfolding encode_utf8
ab_at_one rest = record { rest = 0x63 ∷ 0 ∷ rest; stands = refl; no_zero = no_zero_in_ab; utf8 = (codes "ab", (refl, refl)) }

c_at_four : HasString strings 4 (codes "c")
unfolding encode_utf8
c_at_four rest = record { rest = rest; stands = refl; no_zero = no_zero_in_c; utf8 = (codes "c", (refl, refl)) }

-- BLOBS stand behind their length

abbrev long : List ℕ
long = replicate 300 0xAA

a_long_blob : HasBlob (0 ∷ 0 ∷ 0x81 ∷ 0x2C ∷ long) 2 long
unfolding number_bytes
a_long_blob = blob_stands (0 ∷ 0 ∷ 0x81 ∷ 0x2C ∷ long) (0 ∷ 0 ∷ []) long 2 refl refl (omega arith)

-- TEXTS behind their length, with a byte behind them that says whether some code units are unusual

abbrev text_bytes : List ℕ → List ℕ
text_bytes units = let blob = unit_bytes units ++ flag_of units ∷ [] in number_bytes (length blob) ++ blob

no_text : text_bytes [] ≡ 0x01 ∷ 0x00 ∷ []
unfolding number_bytes
no_text = refl

letters : text_bytes (0x61 ∷ 0x62 ∷ []) ≡ 0x05 ∷ 0x61 ∷ 0x00 ∷ 0x62 ∷ 0x00 ∷ 0x00 ∷ []
unfolding number_bytes
letters = refl

a_unit_with_a_high_byte : text_bytes (0x20AC ∷ []) ≡ 0x03 ∷ 0xAC ∷ 0x20 ∷ 0x01 ∷ []
unfolding number_bytes
a_unit_with_a_high_byte = refl

an_apostrophe : text_bytes (0x61 ∷ 0x27 ∷ []) ≡ 0x05 ∷ 0x61 ∷ 0x00 ∷ 0x27 ∷ 0x00 ∷ 0x01 ∷ []
unfolding number_bytes
an_apostrophe = refl

a_hyphen : text_bytes (0x2D ∷ []) ≡ 0x03 ∷ 0x2D ∷ 0x00 ∷ 0x01 ∷ []
unfolding number_bytes
a_hyphen = refl

a_delete : text_bytes (0x7F ∷ []) ≡ 0x03 ∷ 0x7F ∷ 0x00 ∷ 0x01 ∷ []
unfolding number_bytes
a_delete = refl

unusual_controls : text_bytes (0x08 ∷ 0x0E ∷ []) ≡ 0x05 ∷ 0x08 ∷ 0x00 ∷ 0x0E ∷ 0x00 ∷ 0x01 ∷ []
unfolding number_bytes
unusual_controls = refl

usual_controls : text_bytes (0x09 ∷ 0x0D ∷ []) ≡ 0x05 ∷ 0x09 ∷ 0x00 ∷ 0x0D ∷ 0x00 ∷ 0x00 ∷ []
unfolding number_bytes
usual_controls = refl

a_zero_and_a_space : text_bytes (0x00 ∷ 0x20 ∷ []) ≡ 0x05 ∷ 0x00 ∷ 0x00 ∷ 0x20 ∷ 0x00 ∷ 0x00 ∷ []
unfolding number_bytes
a_zero_and_a_space = refl

letters_stand_in_a_heap : HasText (0 ∷ 0x05 ∷ 0x61 ∷ 0x00 ∷ 0x62 ∷ 0x00 ∷ 0x00 ∷ []) 1 (0x61 ∷ 0x62 ∷ [])
unfolding number_bytes
letters_stand_in_a_heap =
    text_stands (0 ∷ 0x05 ∷ 0x61 ∷ 0x00 ∷ 0x62 ∷ 0x00 ∷ 0x00 ∷ []) (0 ∷ []) (0x61 ∷ 0x00 ∷ 0x62 ∷ 0x00 ∷ []) (0x61 ∷ 0x00 ∷ 0x62 ∷ 0x00 ∷ 0x00 ∷ [])
    (0x61 ∷ 0x62 ∷ []) 1 0
    refl refl refl refl (omega arith)

-- Behind 2^24 bytes a text has no room: a body that goes on up to 2^25 gives a place that is too far, and whose token names another table.

the_first_place_that_is_too_far : 2 ^ 24 < 2 ^ 24 → ⊥
the_first_place_that_is_too_far less = omega arith

the_tokens_of_the_last_place_and_the_next : map table_in ((0x7000_0000 + 0xFF_FFFF) ∷ (0x7000_0000 + 2 ^ 24) ∷ []) ≡ 0x70 ∷ 0x71 ∷ []
the_tokens_of_the_last_place_and_the_next = refl
