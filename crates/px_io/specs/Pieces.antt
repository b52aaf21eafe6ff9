-- The text of a list of pieces.
use Rattle.std.specs.Prelude.{ℕ, ◌+◌, ◌/◌, ◌%◌, ◌||◌, ◌==◌, nat_lt, List, [], ◌∷◌, decimal, if◌then◌else◌}
use Rattle.std.specs.Fmt.{signed_decimal}
use Rattle.std.specs.List.{flat_map}
use Rattle.px_io.specs.declared.piece.Piece.{Piece}
use Rattle.px_io.specs.declared.piece.Piece.TheVariants.{Text, Number, Count, Signed, Name}

-- the capital hexadecimal digit of a number below 16
abbrev pub hex_digit : ℕ → ℕ
hex_digit n = if nat_lt n 10 then 48 + n else 55 + n

-- what a byte of a name is written as: itself, or `%` and two capital hexadecimal digits
abbrev pub byte_text : ℕ → List ℕ
byte_text byte =
    if nat_lt byte 0x21 || (nat_lt 0x7E byte || (byte == 0x25)) then 0x25 ∷ hex_digit (byte / 16) ∷ hex_digit (byte % 16) ∷ []
    else byte ∷ []

-- a name with its odd bytes escaped
abbrev pub name_text : List ℕ → List ℕ
name_text bytes = flat_map byte_text bytes

-- what a piece is written as
abbrev pub piece_text : Piece → List ℕ
piece_text (Text text) = text.now
piece_text (Number n) = decimal n
piece_text (Count n) = decimal n
piece_text (Signed z) = signed_decimal z
piece_text (Name bytes) = name_text bytes.now

-- the pieces one after another
abbrev pub pieces_text : List Piece → List ℕ
pieces_text pieces = flat_map piece_text pieces
