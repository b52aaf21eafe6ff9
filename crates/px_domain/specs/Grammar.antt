-- The text of a domain, read from left to right, and the place of its first fault.
-- A domain without parameters is `-`. Else there is a group for each parameter: `(R)` for an integer, and `(A..BxR)` or `(?A..BxR)` for an array,
-- where A and B are the least and the greatest length, a `?` says that the array may be null, and R is `*` or `LO..HI`.
use Rattle.std.specs.Prelude.{◌≡◌, ℕ, ◌+◌, List, [], ◌∷◌, ◌==◌, ◌&&◌, Bool, if◌then◌else◌, length, drop, take_while, Option, Some, None, Result, Ok, Err, codes, ℤ, pos, int_le, nat_eq, nat_le}
use Rattle.std.specs.Char.{is_ascii_digit}
use Rattle.std.specs.Fmt.{signed_decimal}
use Rattle.std.specs.Int.RustNames.{unsigned_abs}
use Rattle.std.specs.List.{starts_with}
use Rattle.std.specs.Str.{bytes_eq}
use Rattle.std.specs.Str.Parse.{signed_digits_value}
use Rattle.px_reading.specs.Reading.{Read, ◌>>=◌}
use Rattle.px_program.specs.declared.program.Place.{Place}
use Rattle.px_program.specs.declared.program.Place.TheVariants as places
use Rattle.px_domain.specs.declared.domain.Part.{Part}
use Rattle.px_domain.specs.declared.domain.Part.TheVariants.{Scalar, Array}
use Rattle.px_domain.specs.declared.cursor.Lengths.{Lengths}
use Rattle.px_domain.specs.declared.given.Given.{Given}
use Rattle.px_domain.specs.declared.given.Given.TheVariants as givens
use Rattle.px_domain.specs.declared.place.Span.{Span}
use Rattle.px_domain.specs.declared.range.Range.{Range}
use Rattle.px_domain.specs.declared.fault.DomainFault.{DomainFault}
use Rattle.px_domain.specs.declared.fault.DomainFault.TheVariants as faults
use Rattle.px_domain.specs.Domain.{whole_range, word_count}

-- the longest run of digits, perhaps behind a `-`, that a text begins with
abbrev pub numeral_of : List ℕ → List ℕ
numeral_of [] = []
numeral_of (c ∷ rest) = if c == 45 then c ∷ take_while is_ascii_digit rest else take_while is_ascii_digit (c ∷ rest)

-- the number whose decimal the text is
abbrev pub number_of_text : List ℕ → Option ℤ
number_of_text text = let z = signed_digits_value 10 text in if bytes_eq (signed_decimal z) text then Some z else None

-- the number lies in the range
abbrev pub is_in : Range → ℤ → Bool
is_in range number = int_le range.low number && int_le number range.high

-- the number, if there is one and it lies in the range
abbrev pub in_range : Range → Option ℤ → Option ℤ
in_range range None = None
in_range range (Some number) = if is_in range number then Some number else None

-- the number with the place behind it, or a fault at its first byte
abbrev pub number_or : Option ℤ → ℕ → ℕ → Result (Read ℤ) ℕ
number_or None end at = Err at
number_or (Some number) end at = Ok (record { value = number; end = end })

-- a number of the range, in decimal
unfoldable pub number_at : Range → List ℕ → ℕ → Result (Read ℤ) ℕ
number_at range text at =
    let numeral = numeral_of (drop at text) in
    number_or (in_range range (number_of_text numeral)) (at + length numeral) at

-- these bytes, or a fault at another place
abbrev pub expect : List ℕ → List ℕ → ℕ → ℕ → Result ℕ ℕ
expect bytes text at fault = if starts_with nat_eq (drop at text) bytes then Ok (at + length bytes) else Err fault

-- two numbers of the range in order, with `..` between them, or a fault at another place where there is no `..`: the order is judged before what follows is read
unfoldable pub span_at : Range → ℕ → List ℕ → ℕ → Result (Read Span) ℕ
span_at range fault text at =
    number_at range text at >>= λ low. expect (codes "..") text low.end fault >>= λ next. number_at range text next >>= λ high.
    if int_le low.value high.value then Ok (record { value = record { low = low.value; high = high.value }; end = high.end }) else Err at

-- R: `*` for the whole type, or a span
unfoldable pub range_at : Place → List ℕ → ℕ → Result (Read Span) ℕ
range_at place text at =
    if starts_with nat_eq (drop at text) (codes "*") then Ok (record { value = record { low = (whole_range place).low; high = (whole_range place).high }; end = at + 1 })
    else span_at (whole_range place) at text at

-- `(R)`: its faults but those of R are at its first byte
unfoldable pub scalar_at : Place → List ℕ → ℕ → Result (Read Part) ℕ
scalar_at place text at =
    expect (codes "(") text at at >>= λ inner. range_at place text inner >>= λ range. expect (codes ")") text range.end at >>= λ end.
    Ok (record { value = Scalar place range.value.low range.value.high; end = end })

-- what lengths there may be
abbrev pub length_range : Range
length_range = record { place = places.U1; low = pos 0; high = pos 64 }

-- whether there is a `?`
abbrev pub null_at : List ℕ → ℕ → Read Bool
null_at text at = let null = starts_with nat_eq (drop at text) (codes "?") in record { value = null; end = if null then at + 1 else at }

-- `A..Bx` in the group that begins at a place
unfoldable pub lengths_at : ℕ → List ℕ → ℕ → Result (Read Lengths) ℕ
lengths_at group text at =
    span_at length_range group text at >>= λ span. expect (codes "x") text span.end group >>= λ end.
    Ok (record { value = record { from = unsigned_abs span.value.low; to = unsigned_abs span.value.high }; end = end })

-- the same, then R and the `)`
unfoldable pub array_at : Place → Bool → ℕ → List ℕ → ℕ → Result (Read Part) ℕ
array_at element null group text at =
    lengths_at group text at >>= λ lengths. range_at element text lengths.end >>= λ range. expect (codes ")") text range.end group >>= λ end.
    Ok (record { value = Array element null lengths.value.from lengths.value.to range.value.low range.value.high; end = end })

-- a group: its faults but those of its numbers and of R are at its first byte
unfoldable pub group_at : Given → List ℕ → ℕ → Result (Read Part) ℕ
group_at (givens.Integer place) text at = scalar_at place text at
group_at (givens.Array element) text at =
    expect (codes "(") text at at >>= λ inner. let null = null_at text inner in array_at element null.value at text null.end

-- a group whose words are at most 256 with the words so far
unfoldable pub part_at : Given → ℕ → List ℕ → ℕ → Result (Read Part) ℕ
part_at given words text at =
    group_at given text at >>= λ part. if nat_le (words + word_count part.value) 256 then Ok part else Err at

-- nothing is left
abbrev pub end_at : List ℕ → ℕ → Result ℕ ℕ
end_at text at = if at == length text then Ok at else Err at

-- a group for each parameter, and nothing behind the last
unfoldable pub groups_at : List Given → ℕ → List ℕ → ℕ → Result (List Part) ℕ
groups_at [] words text at = end_at text at >>= λ end. Ok []
groups_at (given ∷ params) words text at =
    part_at given words text at >>= λ part. groups_at params (words + word_count part.value) text part.end >>= λ parts. Ok (part.value ∷ parts)

-- the text where there are no parameters
abbrev pub empty_domain : List ℕ → Result (List Part) ℕ
empty_domain text = expect (codes "-") text 0 0 >>= λ next. end_at text next >>= λ end. Ok []

-- the domain of a text for these parameters, or the place of the first fault
unfoldable pub domain_of : List Given → List ℕ → Result (List Part) ℕ
domain_of [] text = empty_domain text
domain_of (given ∷ params) text = groups_at (given ∷ params) 0 text 0

-- the fault is that of the reading, or want of memory
abbrev pub Fails : DomainFault → Result (List Part) ℕ → Type 0
Fails faults.Memory read = Unit {0}
Fails (faults.Bad at) read = read ≡ Err at

-- What a function returned is what reading gives, unless memory ran out.
abbrev pub Gives : Result (List Part) DomainFault → Result (List Part) ℕ → Type 0
Gives (Ok parts) read = read ≡ Ok parts
Gives (Err fault) read = Fails fault read
