-- The argument words that a domain has, and its tuples by number.
use Rattle.std.specs.Prelude.{◌≡◌, ℕ, ◌+◌, ◌*◌, ◌/◌, ◌%◌, ◌<◌, ◌≤◌, ◌^◌, List, [], ◌∷◌, Bool, if◌then◌else◌, map, length, replicate, ◌-◌, ℤ, pos, neg_ℤ, ◌+ℤ◌, ◌-ℤ◌, ◌≤ℤ◌}
use Rattle.std.specs.Int.RustNames.{unsigned_abs}
use Rattle.std.specs.List.{AllByRecursion, flat_map}
use Rattle.px_program.specs.Formed.{IsInteger}
use Rattle.px_program.specs.declared.program.Place.{Place}
use Rattle.px_program.specs.declared.program.Place.TheVariants as places
use Rattle.px_domain.specs.declared.domain.Part.{Part}
use Rattle.px_domain.specs.declared.domain.Part.TheVariants.{Scalar, Array}
use Rattle.px_domain.specs.declared.place.Span.{Span}
use Rattle.px_domain.specs.declared.range.Range.{Range}
use Rattle.px_domain.specs.Place.{low_end, high_end, word_bits, number_of, word_of}

-- RANGES: what one argument word ranges over

-- no more than 2 ^ 64 numbers, in order
pub record IsShort (low high : ℤ) : Type 0 where
  pub first : neg_ℤ (pos (2 ^ 63)) ≤ℤ low
  pub order : low ≤ℤ high
  pub last : high ≤ℤ pos (2 ^ 64 - 1)
  pub few : (high -ℤ low) ≤ℤ pos (2 ^ 64 - 1)

abbrev pub width_of : ℤ → ℤ → ℕ
width_of low high = unsigned_abs ((high -ℤ low) +ℤ pos 1)

-- the ends of a range lie in its place's range, in order
abbrev pub IsRange : Range → Type 0
IsRange range = (low_end range.place ≤ℤ range.low) × (range.low ≤ℤ range.high) × (range.high ≤ℤ high_end range.place)

-- the span lies in the range, in order
abbrev pub IsSpan : Range → Span → Type 0
IsSpan range span = (range.low ≤ℤ span.low) × (span.low ≤ℤ span.high) × (span.high ≤ℤ range.high)

-- all numbers of a place
abbrev pub whole_range : Place → Range
whole_range place = record { place = place; low = low_end place; high = high_end place }

-- the word lies in the range, read as its place says
abbrev pub IsOf : ℕ → Range → Type 0
IsOf word range = (word < 2 ^ word_bits range.place) × (range.low ≤ℤ number_of range.place word) × (number_of range.place word ≤ℤ range.high)

-- there is one word for each range, and it lies there
abbrev pub AreIn : List Range → List ℕ → Type 0
AreIn [] [] = Unit {0}
AreIn [] (word ∷ words) = ⊥
AreIn (range ∷ ranges) [] = ⊥
AreIn (range ∷ ranges) (word ∷ words) = IsOf word range × AreIn ranges words

-- how many words a range has
abbrev pub range_size : Range → ℕ
range_size range = unsigned_abs ((range.high -ℤ range.low) +ℤ pos 1)

-- the word of a number within a range, from 0
abbrev pub word_at : Range → ℕ → ℕ
word_at range k = word_of range.place (range.low +ℤ pos k)

-- the word of a range's low end
abbrev pub low_word : Range → ℕ
low_word range = word_of range.place range.low

-- how many tuples of words some ranges have
abbrev pub size_of : List Range → ℕ
size_of [] = 1
size_of (range ∷ ranges) = range_size range * size_of ranges

-- the tuple of a number: in mixed radix, the last word running fastest
abbrev pub tuple_of : List Range → ℕ → List ℕ
tuple_of [] k = []
tuple_of (range ∷ ranges) k = word_at range (k / size_of ranges) ∷ tuple_of ranges (k % size_of ranges)

-- the words are one of the tuples
pub record IsTuple (ranges : List Range) (words : List ℕ) : Type 0 where
  pub number : ℕ
  pub less : number < size_of ranges
  pub same : tuple_of ranges number ≡ words

-- PARTS: what one parameter ranges over

-- the shapes of an array: null first, where it may be null, and then its lengths
abbrev pub shape_count : Bool → ℕ → ℕ → ℕ
shape_count null from to = if null then to + 2 - from else to + 1 - from

-- an array's first word has the number of its shape
abbrev pub shape_range : Bool → ℕ → ℕ → Range
shape_range null from to = record { place = places.U4; low = pos 0; high = pos (shape_count null from to - 1) }

-- the words of an array are that of its shape, and those of as many elements as it may have
abbrev pub ranges_of_part : Part → List Range
ranges_of_part (Scalar place low high) = record { place = place; low = low; high = high } ∷ []
ranges_of_part (Array element null from to low high) = shape_range null from to ∷ replicate to (record { place = element; low = low; high = high })

-- how many words a part has
abbrev pub word_count : Part → ℕ
word_count (Scalar place low high) = 1
word_count (Array element null from to low high) = to + 1

abbrev pub ranges_of : List Part → List Range
ranges_of parts = flat_map ranges_of_part parts

-- the place of each word
abbrev pub places_of : List Part → List Place
places_of parts = map (λ (r : Range). r.place) (ranges_of parts)

-- an integer in a range of its place, or an array of such integers with at most 64 of them
abbrev pub IsPart : Part → Type 0
IsPart (Scalar place low high) = IsInteger place × IsRange (record { place = place; low = low; high = high })
IsPart (Array element null from to low high) = (from ≤ to) × (to ≤ 64) × IsInteger element × IsRange (record { place = element; low = low; high = high })

-- a domain has at most 256 words
pub record AreParts (parts : List Part) : Type 0 where
  pub each : AllByRecursion IsPart parts
  pub few : length (ranges_of parts) ≤ 256

-- there is one word for each range of the domain, and it lies there
abbrev pub InDomain : List Part → List ℕ → Type 0
InDomain parts words = AreIn (ranges_of parts) words

-- each word is the least: integers at their low ends, arrays of the first shape
abbrev pub least_words : List Part → List ℕ
least_words parts = map low_word (ranges_of parts)

-- parts with the ranges of their words
pub record HasRanges (parts : List Part) (ranges : List Range) : Type 0 where
  pub are : AreParts parts
  pub same : ranges ≡ ranges_of parts
