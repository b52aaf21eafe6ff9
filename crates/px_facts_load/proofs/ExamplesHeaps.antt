-- Items of the heaps: texts, compressed numbers and blobs.
use Rattle.std.proofs.Common.{◌≡◌, ℕ, List, [], ◌∷◌, drop, Option, Some, None, refl}
use Rattle.std.specs.Prelude.{codes}
use Rattle.std.specs.Str.{chars, is_utf8}
use Rattle.std.proofs.lemmas.Bool.{false≢true}
use Rattle.std.proofs.lemmas.Str.{is_utf8-from_IsUtf8}
use Rattle.px_blobs.specs.Items.{Compressed, IsStringAt, blob_at, compressed_at}
use Rattle.px_blobs.proofs.Texts.{none_at, no_text, text_stands}

-- TEXTS, each up to its zero

-- nothing, "ab", nothing, "cé", a byte that begins no character, nothing, and "x" without a zero
abbrev strings : List ℕ
strings = 0 ∷ 0x61 ∷ 0x62 ∷ 0 ∷ 0x63 ∷ 0xC3 ∷ 0xA9 ∷ 0 ∷ 0xFF ∷ 0 ∷ 0x78 ∷ []

-- no text stands at the place
abbrev HasNone : ℕ → Type 0
HasNone at = (text : List ℕ) → IsStringAt strings at text → ⊥

nothing_at_the_start : IsStringAt strings 0 []
unfolding lib.Utf8.encode
nothing_at_the_start = text_stands strings 0 (drop 0 strings) 0 refl refl ([], (refl, refl))

ab_after_the_first_zero : IsStringAt strings 1 (codes "ab")
unfolding lib.Utf8.encode
ab_after_the_first_zero = text_stands strings 1 (drop 1 strings) 2 refl refl (codes "ab", (refl, refl))

b_in_the_middle_of_a_text : IsStringAt strings 2 (codes "b")
unfolding lib.Utf8.encode
b_in_the_middle_of_a_text = text_stands strings 2 (drop 2 strings) 1 refl refl (codes "b", (refl, refl))

nothing_at_the_end_of_a_text : IsStringAt strings 3 []
unfolding lib.Utf8.encode
nothing_at_the_end_of_a_text = text_stands strings 3 (drop 3 strings) 0 refl refl ([], (refl, refl))

a_letter_of_two_bytes : IsStringAt strings 4 (0x63 ∷ 0xC3 ∷ 0xA9 ∷ [])
unfolding lib.Utf8.encode
a_letter_of_two_bytes = text_stands strings 4 (drop 4 strings) 3 refl refl (codes "cé", (refl, refl))

none_in_the_middle_of_a_letter : HasNone 6
unfolding is_utf8 chars
none_in_the_middle_of_a_letter = no_text strings 6 (drop 6 strings) 1 refl refl (λ utf8. false≢true (is_utf8-from_IsUtf8 (0xA9 ∷ []) utf8))

nothing_before_a_wrong_byte : IsStringAt strings 7 []
unfolding lib.Utf8.encode
nothing_before_a_wrong_byte = text_stands strings 7 (drop 7 strings) 0 refl refl ([], (refl, refl))

none_of_a_byte_that_begins_no_letter : HasNone 8
unfolding is_utf8 chars
none_of_a_byte_that_begins_no_letter = no_text strings 8 (drop 8 strings) 1 refl refl (λ utf8. false≢true (is_utf8-from_IsUtf8 (0xFF ∷ []) utf8))

nothing_after_a_wrong_byte : IsStringAt strings 9 []
unfolding lib.Utf8.encode
nothing_after_a_wrong_byte = text_stands strings 9 (drop 9 strings) 0 refl refl ([], (refl, refl))

none_without_its_zero : HasNone 10
none_without_its_zero = none_at strings 10 (drop 10 strings) refl refl

none_after_the_heap : HasNone 11
none_after_the_heap = none_at strings 11 (drop 11 strings) refl refl

none_at_the_last_place_of_all : HasNone 0xFFFF_FFFF
none_at_the_last_place_of_all = none_at strings 0xFFFF_FFFF (drop 0xFFFF_FFFF strings) refl refl

-- COMPRESSED NUMBERS, the high byte first

-- a number, and how many bytes it takes
abbrev number : ℕ → ℕ → Option Compressed
number n bytes = Some (record { number = n; used = bytes })

one_byte : compressed_at (0x03 ∷ []) 0 ≡ number 0x03 1
one_byte = refl

largest_of_one_byte : compressed_at (0x7F ∷ []) 0 ≡ number 0x7F 1
largest_of_one_byte = refl

smallest_of_two_bytes : compressed_at (0x80 ∷ 0x80 ∷ []) 0 ≡ number 0x80 2
smallest_of_two_bytes = refl

two_bytes : compressed_at (0xAE ∷ 0x57 ∷ []) 0 ≡ number 0x2E57 2
two_bytes = refl

largest_of_two_bytes : compressed_at (0xBF ∷ 0xFF ∷ []) 0 ≡ number 0x3FFF 2
largest_of_two_bytes = refl

-- a reader that counts three bytes where there are four gives number 0x4000 3
smallest_of_four_bytes : compressed_at (0xC0 ∷ 0x00 ∷ 0x40 ∷ 0x00 ∷ []) 0 ≡ number 0x4000 4
smallest_of_four_bytes = refl

largest_of_four_bytes : compressed_at (0xDF ∷ 0xFF ∷ 0xFF ∷ 0xFF ∷ []) 0 ≡ number 0x1FFF_FFFF 4
largest_of_four_bytes = refl

three_spelled_with_two_bytes : compressed_at (0x80 ∷ 0x03 ∷ 0x09 ∷ []) 0 ≡ number 0x03 2
three_spelled_with_two_bytes = refl

-- a reader that refuses the longest spelling of a small number gives None
three_spelled_with_four_bytes : compressed_at (0xC0 ∷ 0x00 ∷ 0x00 ∷ 0x03 ∷ []) 0 ≡ number 0x03 4
three_spelled_with_four_bytes = refl

-- a reader that takes the low byte first gives number 0x0403_0201 4
four_bytes_and_one_more : compressed_at (0xC1 ∷ 0x02 ∷ 0x03 ∷ 0x04 ∷ 0x05 ∷ []) 0 ≡ number 0x0102_0304 4
four_bytes_and_one_more = refl

-- a reader that reads from the next place on gives None
one_byte_at_a_place : compressed_at (0xFF ∷ 0xC0 ∷ 0x05 ∷ []) 2 ≡ number 5 1
one_byte_at_a_place = refl

two_bytes_at_a_place : compressed_at (0x05 ∷ 0x81 ∷ 0x00 ∷ []) 1 ≡ number 0x100 2
two_bytes_at_a_place = refl

none_without_bytes : compressed_at [] 0 ≡ None
none_without_bytes = refl

-- a reader that takes the first of two bytes for a number gives number 0x80 1
none_of_two_bytes_cut : compressed_at (0x80 ∷ []) 0 ≡ None
none_of_two_bytes_cut = refl

none_of_the_largest_two_bytes_cut : compressed_at (0xBF ∷ []) 0 ≡ None
none_of_the_largest_two_bytes_cut = refl

none_of_four_bytes_cut : compressed_at (0xC0 ∷ 0x00 ∷ 0x40 ∷ []) 0 ≡ None
none_of_four_bytes_cut = refl

-- a reader that takes these for four bytes gives number 0x2000_0000 4
none_with_three_top_bits : compressed_at (0xE0 ∷ 0x00 ∷ 0x00 ∷ 0x00 ∷ []) 0 ≡ None
none_with_three_top_bits = refl

none_with_all_top_bits : compressed_at (0xFF ∷ 0x00 ∷ 0x00 ∷ 0x00 ∷ 0x00 ∷ []) 0 ≡ None
none_with_all_top_bits = refl

none_after_the_bytes : compressed_at (0x03 ∷ []) 1 ≡ None
none_after_the_bytes = refl

none_far_after_the_bytes : compressed_at (0x03 ∷ []) 0xFFFF_FFFF ≡ None
none_far_after_the_bytes = refl

-- BLOBS, each with its length before it, and the texts of users in the same form

-- a blob without bytes, one of two bytes, one whose length is spelled with two bytes, one with four, and one of three bytes of which two are there
abbrev blobs : List ℕ
blobs = 0x00 ∷ 0x02 ∷ 0xAA ∷ 0xBB ∷ 0x80 ∷ 0x01 ∷ 0xCC ∷ 0xC0 ∷ 0x00 ∷ 0x00 ∷ 0x02 ∷ 0x11 ∷ 0x22 ∷ 0x03 ∷ 0x44 ∷ 0x55 ∷ []

empty_blob : blob_at blobs 0 ≡ Some []
empty_blob = refl

-- a reader that gives the text of a user without its first byte gives Some (0xBB ∷ [])
blob_of_two_bytes : blob_at blobs 1 ≡ Some (0xAA ∷ 0xBB ∷ [])
blob_of_two_bytes = refl

none_longer_than_the_heap : blob_at blobs 2 ≡ None
none_longer_than_the_heap = refl

-- a reader that gives one byte too many gives Some (0xCC ∷ 0xC0 ∷ [])
blob_after_a_length_of_two_bytes : blob_at blobs 4 ≡ Some (0xCC ∷ [])
blob_after_a_length_of_two_bytes = refl

blob_after_the_second_byte_of_a_length : blob_at blobs 5 ≡ Some (0xCC ∷ [])
blob_after_the_second_byte_of_a_length = refl

blob_after_a_length_of_four_bytes : blob_at blobs 7 ≡ Some (0x11 ∷ 0x22 ∷ [])
blob_after_a_length_of_four_bytes = refl

blob_after_the_fourth_byte_of_a_length : blob_at blobs 10 ≡ Some (0x11 ∷ 0x22 ∷ [])
blob_after_the_fourth_byte_of_a_length = refl

none_cut_by_the_end : blob_at blobs 13 ≡ None
none_cut_by_the_end = refl

none_at_the_end : blob_at blobs 16 ≡ None
none_at_the_end = refl
