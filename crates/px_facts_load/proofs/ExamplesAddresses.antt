-- Where an image with three sections has ranges of addresses, and what is left of the sections from an address on.
use Rattle.std.proofs.Common.{◌≡◌, ℕ, Option, Some, None, refl}
use Rattle.px_pe.specs.Section.{at_rva, rest_at}
use Rattle.px_pe.specs.declared.section.Span.{Span}
use Rattle.px_facts_load.proofs.ImageWords.{sections}

-- 0x2000 to 0x207F stand at 512, 0x3000 to 0x303F at 640, and 0x2040 to 0x20BF at 704

abbrev span : ℕ → ℕ → Option Span
span start len = Some (record { start = start; len = len })

-- RANGES

no_bytes_before_the_first : at_rva sections 0x1FFF 0 ≡ None
no_bytes_before_the_first = refl

the_byte_before_the_first : at_rva sections 0x1FFF 1 ≡ None
the_byte_before_the_first = refl

no_bytes_at_the_first : at_rva sections 0x2000 0 ≡ span 512 0
no_bytes_at_the_first = refl

the_first_byte : at_rva sections 0x2000 1 ≡ span 512 1
the_first_byte = refl

all_of_the_first : at_rva sections 0x2000 128 ≡ span 512 128
all_of_the_first = refl

-- a reader whose sections hold one byte too many gives span 512 129
more_than_the_first : at_rva sections 0x2000 129 ≡ None
more_than_the_first = refl

the_last_byte_of_the_first : at_rva sections 0x207F 1 ≡ span 639 1
the_last_byte_of_the_first = refl

no_bytes_after_the_first : at_rva sections 0x2080 0 ≡ span 640 0
no_bytes_after_the_first = refl

a_byte_of_the_third : at_rva sections 0x2080 1 ≡ span 768 1
a_byte_of_the_third = refl

-- a reader that looks through the sections from the last one on gives span 704 64
bytes_of_the_first_and_the_third : at_rva sections 0x2040 64 ≡ span 576 64
bytes_of_the_first_and_the_third = refl

one_byte_more_is_in_the_third : at_rva sections 0x2040 65 ≡ span 704 65
one_byte_more_is_in_the_third = refl

from_the_second_byte_of_the_third : at_rva sections 0x2041 127 ≡ span 705 127
from_the_second_byte_of_the_third = refl

one_byte_past_the_third : at_rva sections 0x2041 128 ≡ None
one_byte_past_the_third = refl

the_last_byte_of_the_third : at_rva sections 0x20BF 1 ≡ span 831 1
the_last_byte_of_the_third = refl

no_bytes_after_the_third : at_rva sections 0x20C0 0 ≡ span 832 0
no_bytes_after_the_third = refl

the_byte_after_the_third : at_rva sections 0x20C0 1 ≡ None
the_byte_after_the_third = refl

no_bytes_before_the_second : at_rva sections 0x2FFF 0 ≡ None
no_bytes_before_the_second = refl

all_of_the_second : at_rva sections 0x3000 64 ≡ span 640 64
all_of_the_second = refl

more_than_the_second : at_rva sections 0x3000 65 ≡ None
more_than_the_second = refl

no_bytes_after_the_second : at_rva sections 0x3040 0 ≡ span 704 0
no_bytes_after_the_second = refl

the_byte_after_the_second : at_rva sections 0x3040 1 ≡ None
the_byte_after_the_second = refl

the_longest_range : at_rva sections 0x2000 0xFFFF_FFFF ≡ None
the_longest_range = refl

the_last_address : at_rva sections 0xFFFF_FFFF 1 ≡ None
the_last_address = refl

the_longest_range_at_the_last_address : at_rva sections 0xFFFF_FFFF 0xFFFF_FFFF ≡ None
the_longest_range_at_the_last_address = refl

-- WHAT IS LEFT OF A SECTION

none_at_address_0 : rest_at sections 0 ≡ None
none_at_address_0 = refl

none_before_the_first : rest_at sections 0x1FFF ≡ None
none_before_the_first = refl

the_first_section : rest_at sections 0x2000 ≡ span 512 128
the_first_section = refl

-- a reader that begins with the section gives span 512 64, and one that gives one byte too many span 576 65
half_of_the_first : rest_at sections 0x2040 ≡ span 576 64
half_of_the_first = refl

one_byte_of_the_first : rest_at sections 0x207F ≡ span 639 1
one_byte_of_the_first = refl

half_of_the_third : rest_at sections 0x2080 ≡ span 768 64
half_of_the_third = refl

one_byte_of_the_third : rest_at sections 0x20BF ≡ span 831 1
one_byte_of_the_third = refl

none_after_the_third : rest_at sections 0x20C0 ≡ None
none_after_the_third = refl

the_second_section : rest_at sections 0x3000 ≡ span 640 64
the_second_section = refl

one_byte_of_the_second : rest_at sections 0x303F ≡ span 703 1
one_byte_of_the_second = refl

none_after_the_second : rest_at sections 0x3040 ≡ None
none_after_the_second = refl

none_at_the_last_address : rest_at sections 0xFFFF_FFFF ≡ None
none_at_the_last_address = refl
