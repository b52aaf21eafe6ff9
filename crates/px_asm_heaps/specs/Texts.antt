-- The byte behind a text of the heap of user strings (Partition II, 24.2.4).
use Rattle.std.specs.Prelude.{ℕ, ◌==◌, ◌&&◌, ◌||◌, nat_le, if◌then◌else◌, Bool, List}
use Rattle.std.specs.List.{list_any}

-- a code unit that needs handling beyond that of 8-bit encodings: it has a high byte, or is one of some controls, ' and -
abbrev pub is_unusual : ℕ → Bool
is_unusual unit =
    (nat_le 0x01 unit && nat_le unit 0x08) || (nat_le 0x0E unit && nat_le unit 0x1F) || (unit == 0x27) || (unit == 0x2D) || (unit == 0x7F) || nat_le 0x100 unit

abbrev pub flag_of : List ℕ → ℕ
flag_of units = if list_any is_unusual units then 1 else 0
