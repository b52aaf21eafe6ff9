-- The numbers of an integer place: Partition I, 8.2.2 and 12.1.
use Rattle.std.specs.Prelude.{ℕ, ◌-◌, ◌^◌, Bool, true, false, if◌then◌else◌, ℤ, pos, neg_ℤ}
use Rattle.std.specs.Int.{Width, w32, w64, cast_signed, cast_unsigned}
use Rattle.px_program.specs.declared.program.Place.{Place}
use Rattle.px_program.specs.declared.program.Place.TheVariants as places

-- its argument word has 64 bits, and else 32
abbrev pub is_wide : Place → Bool
is_wide places.I8 = true
is_wide places.U8 = true
is_wide places.N = true
is_wide places.UN = true
is_wide places.Bool = false
is_wide places.Char = false
is_wide places.I1 = false
is_wide places.U1 = false
is_wide places.I2 = false
is_wide places.U2 = false
is_wide places.I4 = false
is_wide places.U4 = false
is_wide (places.Ref class) = false

-- its numbers may be negative
abbrev pub is_signed : Place → Bool
is_signed places.I1 = true
is_signed places.I2 = true
is_signed places.I4 = true
is_signed places.I8 = true
is_signed places.N = true
is_signed places.Bool = false
is_signed places.Char = false
is_signed places.U1 = false
is_signed places.U2 = false
is_signed places.U4 = false
is_signed places.U8 = false
is_signed places.UN = false
is_signed (places.Ref class) = false

-- how many bits its numbers have, without those that only extend them
abbrev pub size_in_bits : Place → ℕ
size_in_bits places.Bool = 1
size_in_bits places.I1 = 8
size_in_bits places.U1 = 8
size_in_bits places.Char = 16
size_in_bits places.I2 = 16
size_in_bits places.U2 = 16
size_in_bits places.I4 = 32
size_in_bits places.U4 = 32
size_in_bits places.I8 = 64
size_in_bits places.U8 = 64
size_in_bits places.N = 64
size_in_bits places.UN = 64
size_in_bits (places.Ref class) = 0

-- the least of its numbers
abbrev pub low_end : Place → ℤ
low_end place = if is_signed place then neg_ℤ (pos (2 ^ (size_in_bits place - 1))) else pos 0

-- the greatest of its numbers
abbrev pub high_end : Place → ℤ
high_end place = if is_signed place then pos (2 ^ (size_in_bits place - 1) - 1) else pos (2 ^ size_in_bits place - 1)

-- the width of its argument words
abbrev pub word_width : Place → Width
word_width place = if is_wide place then w64 else w32

-- how many bits its argument words have
abbrev pub word_bits : Place → ℕ
word_bits place = if is_wide place then 64 else 32

-- the number that an argument word is for the place
abbrev pub number_of : Place → ℕ → ℤ
number_of place word = if is_signed place then cast_signed (word_width place) word else pos word

-- the argument word of a number
abbrev pub word_of : Place → ℤ → ℕ
word_of place number = cast_unsigned (word_width place) number
