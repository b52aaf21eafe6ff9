-- A test that shows of many words that they are in a domain.
use Rattle.std.proofs.Common.{◌^◌, ◌&&◌, Bool, true, false, T, List, [], ◌∷◌, ℕ, nat_lt, int_le, lit<}
use Rattle.std.specs.List.{AllByRecursion, list_all}
use Rattle.px_domain.specs.declared.domain.Part.{Part}
use Rattle.px_domain.specs.declared.range.Range.{Range}
use Rattle.px_domain.specs.Domain.{AreIn, InDomain, IsOf, ranges_of}
use Rattle.px_domain.specs.Place.{number_of, word_bits}

-- the word is in the range
abbrev pub has : Range → ℕ → Bool
has range word = nat_lt word (2 ^ word_bits range.place) && (int_le range.low (number_of range.place word) && int_le (number_of range.place word) range.high)

-- there is one word for each range, and it is there
abbrev pub has_each : List Range → List ℕ → Bool
has_each [] [] = true
has_each [] (word ∷ words) = false
has_each (range ∷ ranges) [] = false
has_each (range ∷ ranges) (word ∷ words) = has range word && has_each ranges words

both : (a b : Bool) → T (a && b) → T a × T b
both true b t = (tt, t)
both false b t = absurd t

has_is_of : (range : Range) (word : ℕ) → T (has range word) → IsOf word range
has_is_of range word t =
    let (wide, ends) = both (nat_lt word (2 ^ word_bits range.place)) _ t in
    let (first, last) = both (int_le range.low (number_of range.place word)) _ ends in
    (lit< wide, record { le = first }, record { le = last })

are_in : (ranges : List Range) (words : List ℕ) → T (has_each ranges words) → AreIn ranges words
are_in [] [] t = tt
are_in [] (word ∷ words) t = absurd t
are_in (range ∷ ranges) [] t = absurd t
are_in (range ∷ ranges) (word ∷ words) t =
    let (first, others) = both (has range word) (has_each ranges words) t in
    (has_is_of range word first, are_in ranges words others)

-- words that pass the test are in the domain
pub all_in_domain : (parts : List Part) (tuples : List (List ℕ)) → T (list_all (has_each (ranges_of parts)) tuples) → AllByRecursion (InDomain parts) tuples
all_in_domain parts [] t = tt
all_in_domain parts (words ∷ tuples) t =
    let (first, others) = both (has_each (ranges_of parts) words) (list_all (has_each (ranges_of parts)) tuples) t in
    (are_in (ranges_of parts) words first, all_in_domain parts tuples others)
