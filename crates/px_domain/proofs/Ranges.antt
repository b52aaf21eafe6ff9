-- What reading gives is a part for each parameter, with its ranges in order.
use Rattle.std.proofs.Common.{◌≡◌, ℕ, suc, ◌+◌, ◌≤◌, List, [], ◌∷◌, ◌++◌, Bool, true, false, Option, Some, None, Result, Ok, Err, refl, ap, ◌∙◌, subst, arith, ℤ, pos, ◌≤ℤ◌, drop, length, map, replicate, if◌then◌else◌, length-append}
use Rattle.std.specs.Prelude.{int_le, codes, nat_eq, nat_le}
use Rattle.std.specs.Int.RustNames.{unsigned_abs}
use Rattle.std.specs.List.{AllByRecursion, starts_with}
use Rattle.std.proofs.lemmas.Bool.Decides.{nat_tests}
use Rattle.std.proofs.lemmas.Int.{ints}
use Rattle.std.proofs.lemmas.List.{length-replicate}
use Rattle.px_program.specs.Formed.{IsInteger}
use Rattle.px_program.specs.declared.program.Place.{Place}
use Rattle.px_program.specs.declared.program.Place.TheVariants as places
use Rattle.px_domain.specs.declared.cursor.Lengths.{Lengths}
use Rattle.px_domain.specs.declared.domain.Part.{Part}
use Rattle.px_domain.specs.declared.domain.Part.TheVariants.{Scalar, Array}
use Rattle.px_domain.specs.declared.given.Given.{Given}
use Rattle.px_domain.specs.declared.given.Given.TheVariants as givens
use Rattle.px_domain.specs.declared.place.Span.{Span}
use Rattle.px_domain.specs.declared.range.Range.{Range}
use Rattle.px_domain.specs.Place.{low_end, high_end}
use Rattle.px_domain.specs.Domain.{IsPart, IsRange, IsSpan, ranges_of, ranges_of_part, whole_range, word_count}
use Rattle.px_domain.specs.Givens.{IsGiven, given_in}
use Rattle.px_domain.specs.Grammar.{array_at, domain_of, end_at, expect, group_at, groups_at, in_range, is_in, length_range, lengths_at, null_at, number_at, number_of_text, number_or, numeral_of, part_at, range_at, scalar_at, span_at}
use Rattle.px_reading.specs.Reading.{◌>>=◌, Read}
use Rattle.px_domain.proofs.Numerals.{within_ends}

-- a reading that goes on has read something
pub bound : {A B : Type 0} (read : Result A ℕ) (next : A → Result B ℕ) (y : B) → (read >>= next) ≡ Ok y → (x : A) × (read ≡ Ok x) × (next x ≡ Ok y)
bound (Ok x) next y same = (x, refl, same)
bound (Err at) next y same = absurd (cc)

-- the number lies in the range
abbrev pub IsNumber : Range → ℤ → Type 0
IsNumber range z = (range.low ≤ℤ z) × (z ≤ℤ range.high)

pub number_is : (range : Range) (text : List ℕ) (at : ℕ) (read : Read ℤ) → number_at range text at ≡ Ok read → IsNumber range read.value
unfolding number_at
number_is range text at read same = of_text (number_of_text (numeral_of (drop at text))) same
  where
    of_number : (z : ℤ) (within : Bool) (end : ℕ) → is_in range z ≡ within → number_or (if within then Some z else None) end at ≡ Ok read → IsNumber range read.value
    of_number z true end is same = let value : z ≡ read.value = cc in subst (λ v. IsNumber range v) value (within_ends range z is)
    of_number z false end is same = absurd (cc)

    of_text : (number : Option ℤ) → number_or (in_range range number) (at + length (numeral_of (drop at text))) at ≡ Ok read → IsNumber range read.value
    of_text None same = absurd (cc)
    of_text (Some z) same = of_number z (is_in range z) _ refl same

-- the end of `span_at`
abbrev ordered_if : Bool → ℕ → Read ℤ → Read ℤ → Result (Read Span) ℕ
ordered_if less at low high = if less then Ok (record { value = record { low = low.value; high = high.value }; end = high.end }) else Err at

abbrev ordered : ℕ → Read ℤ → Read ℤ → Result (Read Span) ℕ
ordered at low high = ordered_if (int_le low.value high.value) at low high

ordered_is : (at : ℕ) (low high : Read ℤ) (read : Read Span) → ordered at low high ≡ Ok read → (low.value ≡ read.value.low) × (low.value ≤ℤ high.value) × (high.value ≡ read.value.high)
ordered_is at low high read same = by_order (int_le low.value high.value) refl same
  where
    by_order : (less : Bool) → int_le low.value high.value ≡ less → ordered_if less at low high ≡ Ok read → (low.value ≡ read.value.low) × (low.value ≤ℤ high.value) × (high.value ≡ read.value.high)
    by_order true is same =
        let whole : record { value = record { low = low.value; high = high.value }; end = high.end } ≡ read = cc in
        (ap (λ (r : Read Span). r.value.low) whole, grind (arith, ints), ap (λ (r : Read Span). r.value.high) whole)
    by_order false is same = absurd (cc)

pub span_is : (range : Range) (fault : ℕ) (text : List ℕ) (at : ℕ) (read : Read Span) → span_at range fault text at ≡ Ok read → IsSpan range read.value
unfolding span_at
span_is range fault text at read same =
    let low = bound (number_at range text at) (λ (low : Read ℤ). expect (codes "..") text low.end fault >>= λ next. number_at range text next >>= λ high. ordered at low high) read same in
    let next = bound (expect (codes "..") text low.0.end fault) (λ (next : ℕ). number_at range text next >>= λ high. ordered at low.0 high) read low.2 in
    let high = bound (number_at range text next.0) (λ (high : Read ℤ). ordered at low.0 high) read next.2 in
    let ends = ordered_is at low.0 high.0 read high.2 in
    let first : IsNumber range low.0.value = number_is range text at low.0 low.1 in
    let last : IsNumber range high.0.value = number_is range text next.0 high.0 high.1 in
    let From : ℤ → Type 0 = λ z. range.low ≤ℤ z in
    let To : ℤ → Type 0 = λ z. z ≤ℤ range.high in
    (subst From ends.0 first.0, subst (λ (z : ℤ). read.value.low ≤ℤ z) ends.2 (subst (λ (z : ℤ). z ≤ℤ high.0.value) ends.0 ends.1), subst To ends.2 last.1)

whole_is : (place : Place) → low_end place ≤ℤ high_end place
whole_is places.Bool = omega (arith, ints)
whole_is places.Char = omega (arith, ints)
whole_is places.I1 = omega (arith, ints)
whole_is places.U1 = omega (arith, ints)
whole_is places.I2 = omega (arith, ints)
whole_is places.U2 = omega (arith, ints)
whole_is places.I4 = omega (arith, ints)
whole_is places.U4 = omega (arith, ints)
whole_is places.I8 = omega (arith, ints)
whole_is places.U8 = omega (arith, ints)
whole_is places.N = omega (arith, ints)
whole_is places.UN = omega (arith, ints)
whole_is (places.Ref class) = omega (arith, ints)

le_itself : (z : ℤ) → z ≤ℤ z
le_itself z = omega (arith, ints)

pub whole_is_range : (place : Place) → IsRange (whole_range place)
whole_is_range place = (le_itself (low_end place), whole_is place, le_itself (high_end place))

pub length_is_range : IsRange length_range
length_is_range = (omega (arith, ints), omega (arith, ints), omega (arith, ints))

range_is : (place : Place) (text : List ℕ) (at : ℕ) (read : Read Span) → range_at place text at ≡ Ok read → IsSpan (whole_range place) read.value
unfolding range_at
range_is place text at read same = by_star (starts_with nat_eq (drop at text) (codes "*")) same
  where
    by_star : (star : Bool) → (if star then Ok (record { value = record { low = low_end place; high = high_end place }; end = at + 1 }) else span_at (whole_range place) at text at) ≡ Ok read → IsSpan (whole_range place) read.value
    by_star true same = let whole : record { low = low_end place; high = high_end place } ≡ read.value = cc in subst (λ span. IsSpan (whole_range place) span) whole (whole_is_range place)
    by_star false same = span_is (whole_range place) at text at read same

-- a part for the parameter
abbrev pub IsPartOf : Given → Part → Type 0
IsPartOf given part = IsPart part × (given_in part ≡ given)

scalar_is : (place : Place) (text : List ℕ) (at : ℕ) (read : Read Part) → IsInteger place → scalar_at place text at ≡ Ok read → IsPartOf (givens.Integer place) read.value
unfolding scalar_at
scalar_is place text at read integer same =
    let inner = bound (expect (codes "(") text at at) (λ (inner : ℕ). range_at place text inner >>= λ range. expect (codes ")") text range.end at >>= λ end. Ok (record { value = Scalar place range.value.low range.value.high; end = end })) read same in
    let range = bound (range_at place text inner.0) (λ (range : Read Span). expect (codes ")") text range.end at >>= λ end. Ok (record { value = Scalar place range.value.low range.value.high; end = end })) read inner.2 in
    let end = bound (expect (codes ")") text range.0.end at) (λ (end : ℕ). Ok (record { value = Scalar place range.0.value.low range.0.value.high; end = end })) read range.2 in
    let part : Scalar place range.0.value.low range.0.value.high ≡ read.value = cc in
    subst (λ p. IsPartOf (givens.Integer place) p) part ((integer, range_is place text inner.0 range.0 range.1), refl)

-- no more than 64, in order
abbrev AreLengths : Lengths → Type 0
AreLengths lengths = (lengths.from ≤ lengths.to) × (lengths.to ≤ 64)

in_order : (low high : ℤ) → pos 0 ≤ℤ low → low ≤ℤ high → high ≤ℤ pos 64 → (unsigned_abs low ≤ unsigned_abs high) × (unsigned_abs high ≤ 64)
in_order low high some order few = (omega (arith, ints), omega (arith, ints))

lengths_are : (group : ℕ) (text : List ℕ) (at : ℕ) (read : Read Lengths) → lengths_at group text at ≡ Ok read → AreLengths read.value
unfolding lengths_at
lengths_are group text at read same =
    let span = bound (span_at length_range group text at) (λ (span : Read Span). expect (codes "x") text span.end group >>= λ end. Ok (record { value = record { from = unsigned_abs span.value.low; to = unsigned_abs span.value.high }; end = end })) read same in
    let end = bound (expect (codes "x") text span.0.end group) (λ (end : ℕ). Ok (record { value = record { from = unsigned_abs span.0.value.low; to = unsigned_abs span.0.value.high }; end = end })) read span.2 in
    let is : IsSpan length_range span.0.value = span_is length_range group text at span.0 span.1 in
    let lengths : record { from = unsigned_abs span.0.value.low; to = unsigned_abs span.0.value.high } ≡ read.value = cc in
    subst (λ ls. AreLengths ls) lengths (in_order span.0.value.low span.0.value.high is.0 is.1 is.2)

array_is : (element : Place) (null : Bool) (group : ℕ) (text : List ℕ) (at : ℕ) (read : Read Part) → IsInteger element → array_at element null group text at ≡ Ok read → IsPartOf (givens.Array element) read.value
unfolding array_at
array_is element null group text at read integer same =
    let lengths = bound (lengths_at group text at) (λ (lengths : Read Lengths). range_at element text lengths.end >>= λ range. expect (codes ")") text range.end group >>= λ end. Ok (record { value = Array element null lengths.value.from lengths.value.to range.value.low range.value.high; end = end })) read same in
    let range = bound (range_at element text lengths.0.end) (λ (range : Read Span). expect (codes ")") text range.end group >>= λ end. Ok (record { value = Array element null lengths.0.value.from lengths.0.value.to range.value.low range.value.high; end = end })) read lengths.2 in
    let end = bound (expect (codes ")") text range.0.end group) (λ (end : ℕ). Ok (record { value = Array element null lengths.0.value.from lengths.0.value.to range.0.value.low range.0.value.high; end = end })) read range.2 in
    let are : AreLengths lengths.0.value = lengths_are group text at lengths.0 lengths.1 in
    let part : Array element null lengths.0.value.from lengths.0.value.to range.0.value.low range.0.value.high ≡ read.value = cc in
    subst (λ p. IsPartOf (givens.Array element) p) part ((are.0, are.1, integer, range_is element text lengths.0.end range.0 range.1), refl)

group_is : (given : Given) (text : List ℕ) (at : ℕ) (read : Read Part) → IsGiven given → group_at given text at ≡ Ok read → IsPartOf given read.value
unfolding group_at
group_is (givens.Integer place) text at read is same = scalar_is place text at read is same
group_is (givens.Array element) text at read is same =
    let inner = bound (expect (codes "(") text at at) (λ (inner : ℕ). let null = null_at text inner in array_at element null.value at text null.end) read same in
    array_is element (null_at text inner.0).value at text (null_at text inner.0).end read is inner.2

-- a part for the parameter, and no more than 256 words with it
abbrev pub IsPartWithin : Given → ℕ → Part → Type 0
IsPartWithin given words part = IsPart part × (given_in part ≡ given) × (words + word_count part ≤ 256)

pub part_is : (given : Given) (words : ℕ) (text : List ℕ) (at : ℕ) (read : Read Part) → IsGiven given → part_at given words text at ≡ Ok read → IsPartWithin given words read.value
unfolding part_at
part_is given words text at read is same =
    let part = bound (group_at given text at) (λ (part : Read Part). if nat_le (words + word_count part.value) 256 then Ok part else Err at) read same in
    by_count part.0 (nat_le (words + word_count part.0.value) 256) refl part.2 (group_is given text at part.0 is part.1)
  where
    by_count : (part : Read Part) (few : Bool) → nat_le (words + word_count part.value) 256 ≡ few → (if few then Ok part else Err at) ≡ Ok read → IsPartOf given part.value → IsPartWithin given words read.value
    by_count part true few same is =
        let count : words + word_count part.value ≤ 256 = grind (arith, nat_tests) in
        let whole : part ≡ read = cc in
        subst (λ (r : Read Part). IsPartWithin given words r.value) whole (is.0, is.1, count)
    by_count part false few same is = absurd (cc)

pub count_is : (part : Part) → length (ranges_of_part part) ≡ word_count part
count_is (Scalar place low high) = refl
count_is (Array element null from to low high) = many (record { place = element; low = low; high = high })
  where
    many : (range : Range) → suc (length (replicate to range)) ≡ to + 1
    many range = let long : length (replicate to range) ≡ to = length-replicate to range in omega (arith, long)

pub counted : (words : ℕ) (part : Part) (parts : List Part) → (words + word_count part) + length (ranges_of parts) ≡ words + length (ranges_of (part ∷ parts))
counted words part parts =
    let all : length (ranges_of_part part ++ ranges_of parts) ≡ length (ranges_of_part part) + length (ranges_of parts) = length-append (ranges_of_part part) (ranges_of parts) in
    let first : length (ranges_of_part part) ≡ word_count part = count_is part in
    omega (arith, all, first)

-- a part for each of the parameters, and no more than 256 words with those before
pub record ArePartsOf (params : List Given) (words : ℕ) (parts : List Part) : Type 0 where
  pub each : AllByRecursion IsPart parts
  pub same : map given_in parts ≡ params
  pub few : words + length (ranges_of parts) ≤ 256

one_more : (given : Given) (params : List Given) (words : ℕ) (part : Part) (parts : List Part) → IsPartWithin given words part → ArePartsOf params (words + word_count part) parts → ArePartsOf (given ∷ params) words (part ∷ parts)
one_more given params words part parts first more = record {
  each = (first.0, more.each);
  same = ap (λ p. p ∷ map given_in parts) first.1 ∙ ap (λ ps. given ∷ ps) more.same;
  few = subst (λ n. n ≤ 256) (counted words part parts) more.few;
}

pub groups_are : (params : List Given) (words : ℕ) (text : List ℕ) (at : ℕ) (parts : List Part) → words ≤ 256 → AllByRecursion IsGiven params → groups_at params words text at ≡ Ok parts → ArePartsOf params words parts
unfolding groups_at
groups_are [] words text at parts few are same =
    let end = bound (end_at text at) (λ (end : ℕ). Ok []) parts same in
    let none : [] ≡ parts = cc in
    subst (λ ps. ArePartsOf [] words ps) none (record { each = tt; same = refl; few = omega arith })
groups_are (given ∷ params) words text at parts few are same =
    let part = bound (part_at given words text at) (λ (part : Read Part). groups_at params (words + word_count part.value) text part.end >>= λ rest. Ok (part.value ∷ rest)) parts same in
    let rest = bound (groups_at params (words + word_count part.0.value) text part.0.end) (λ (rest : List Part). Ok (part.0.value ∷ rest)) parts part.2 in
    let first : IsPartWithin given words part.0.value = part_is given words text at part.0 are.0 part.1 in
    let more : ArePartsOf params (words + word_count part.0.value) rest.0 = groups_are params (words + word_count part.0.value) text part.0.end rest.0 first.2 are.1 rest.1 in
    let all : part.0.value ∷ rest.0 ≡ parts = cc in
    subst (λ ps. ArePartsOf (given ∷ params) words ps) all (one_more given params words part.0.value rest.0 first more)

pub domain_is : (params : List Given) (text : List ℕ) (parts : List Part) → AllByRecursion IsGiven params → domain_of params text ≡ Ok parts → ArePartsOf params 0 parts
unfolding domain_of
domain_is [] text parts are same =
    let next = bound (expect (codes "-") text 0 0) (λ (next : ℕ). end_at text next >>= λ end. Ok []) parts same in
    let end = bound (end_at text next.0) (λ (end : ℕ). Ok []) parts next.2 in
    let none : [] ≡ parts = cc in
    subst (λ ps. ArePartsOf [] 0 ps) none (record { each = tt; same = refl; few = omega arith })
domain_is (given ∷ params) text parts are same = groups_are (given ∷ params) 0 text 0 parts (omega arith) are same
