-- The words of ranges, and of each part.
use Rattle.std.proofs.Common.{◌≡◌, ℕ, zero, suc, ◌+◌, ◌-◌, ◌<◌, ◌≤◌, ◌^◌, List, [], ◌∷◌, ◌++◌, Bool, true, false, length, take, drop, get_or, replicate, refl, ap, sym, ◌∙◌, subst, arith, Option, Some, None, ℤ}
use Rattle.std.specs.Prelude.{if◌then◌else◌, ◌==◌}
use Rattle.std.specs.List.{AllByRecursion}
use Rattle.std.proofs.lemmas.Int.{ints}
use Rattle.std.proofs.lemmas.List.{length-replicate, take_rest}
use Rattle.px_domain.specs.declared.domain.Part.{Part}
use Rattle.px_domain.specs.declared.domain.Part.TheVariants.{Scalar, Array}
use Rattle.px_domain.specs.declared.range.Range.{Range}
use Rattle.px_domain.specs.Domain.{AreIn, InDomain, IsOf, IsPart, ranges_of, ranges_of_part, shape_count, shape_range, word_count}
use Rattle.px_domain.specs.Text.{length_in}
use Rattle.px_program.specs.declared.program.Place.{Place}
use Rattle.px_tests.specs.Numbers.{AreWords, IsCount}

-- there are as many words as ranges
same_length : (ranges : List Range) (words : List ℕ) → AreIn ranges words → length words ≡ length ranges
same_length [] [] h = refl
same_length [] (w ∷ ws) h = absurd h
same_length (r ∷ rs) [] h = absurd h
same_length (r ∷ rs) (w ∷ ws) h = ap suc (same_length rs ws h.1)

-- the words of the first ranges, and those of the others
pub first_in : (xs ys : List Range) (words : List ℕ) → AreIn (xs ++ ys) words → AreIn xs (take (length xs) words)
first_in [] ys words h = tt
first_in (x ∷ xs) ys [] h = absurd h
first_in (x ∷ xs) ys (w ∷ ws) h = (h.0, first_in xs ys ws h.1)

pub rest_in : (xs ys : List Range) (words : List ℕ) → AreIn (xs ++ ys) words → AreIn ys (drop (length xs) words)
rest_in [] ys words h = h
rest_in (x ∷ xs) ys [] h = absurd h
rest_in (x ∷ xs) ys (w ∷ ws) h = rest_in xs ys ws h.1

pub enough : (xs ys : List Range) (words : List ℕ) → AreIn (xs ++ ys) words → length xs ≤ length words
enough [] ys words h = omega arith
enough (x ∷ xs) ys [] h = absurd h
enough (x ∷ xs) ys (w ∷ ws) h = let less : length xs ≤ length ws = enough xs ys ws h.1 in omega (arith, less)

-- a part has as many words as ranges
pub count_is : (part : Part) → length (ranges_of_part part) ≡ word_count part
count_is (Scalar place low high) = refl
count_is (Array element null from to low high) =
    let range : Range = record { place = element; low = low; high = high } in
    let count : length (replicate to range) ≡ to = length-replicate to range in
    omega (arith, count)

-- words of one range are words of its place
pub words_are : (range : Range) (n : ℕ) (words : List ℕ) → AreIn (replicate n range) words → AreWords range.place words
words_are range zero [] h = tt
words_are range zero (w ∷ ws) h = absurd h
words_are range (suc n) [] h = absurd h
words_are range (suc n) (w ∷ ws) h = (h.0.0, words_are range n ws h.1)

pub words_count : (range : Range) (n : ℕ) (words : List ℕ) → AreIn (replicate n range) words → length words ≡ n
words_count range n words h = same_length (replicate n range) words h ∙ length-replicate n range

-- OF THE FIRST PART AND THE OTHERS

pub first_enough : (parts : List Part) (words : List ℕ) (d : Part) → 0 < length parts → InDomain parts words → word_count (get_or parts 0 d) ≤ length words
first_enough [] words d some within = absurd (omega arith)
first_enough (part ∷ parts) words d some within = omega (arith, enough (ranges_of_part part) (ranges_of parts) words within, count_is part)

pub first_own : (parts : List Part) (words : List ℕ) (d : Part) → 0 < length parts → InDomain parts words → AreIn (ranges_of_part (get_or parts 0 d)) (take (word_count (get_or parts 0 d)) words)
first_own [] words d some within = absurd (omega arith)
first_own (part ∷ parts) words d some within = subst (λ n. AreIn (ranges_of_part part) (take n words)) (count_is part) (first_in (ranges_of_part part) (ranges_of parts) words within)

pub others_own : (parts : List Part) (words : List ℕ) (d : Part) → 0 < length parts → InDomain parts words → InDomain (take (length parts - 1) (drop 1 parts)) (drop (word_count (get_or parts 0 d)) words)
others_own [] words d some within = absurd (omega arith)
others_own (part ∷ parts) words d some within =
    subst (λ rest. InDomain rest (drop (word_count part) words)) (sym (take_rest (part ∷ parts) 1))
    (subst (λ n. InDomain parts (drop n words)) (count_is part) (rest_in (ranges_of_part part) (ranges_of parts) words within))

-- the same, with the words that are split off
pub split_enough : (parts : List Part) (words : List ℕ) (d : Part) (n : ℕ) → 1 ≤ length parts → InDomain parts words → n ≡ word_count (get_or parts 0 d) → n ≤ length words
split_enough parts words d n some within is = omega (arith, is, first_enough parts words d some within)

pub own_words : (parts : List Part) (words own : List ℕ) (d : Part) (n : ℕ) → 1 ≤ length parts → InDomain parts words → n ≡ word_count (get_or parts 0 d) → own ≡ take n words → AreIn (ranges_of_part (get_or parts 0 d)) own
own_words parts words own d n some within is front = subst (λ ws. AreIn (ranges_of_part (get_or parts 0 d)) ws) (sym (front ∙ ap (λ k. take k words) is)) (first_own parts words d some within)

pub other_words : (parts : List Part) (words others : List ℕ) (d : Part) (n : ℕ) → 1 ≤ length parts → InDomain parts words → n ≡ word_count (get_or parts 0 d) → others ≡ drop n words → InDomain (take (length parts - 1) (drop 1 parts)) others
other_words parts words others d n some within is back = subst (λ ws. InDomain (take (length parts - 1) (drop 1 parts)) ws) (sym (back ∙ ap (λ k. drop k words) is)) (others_own parts words d some within)

pub other_parts : (parts : List Part) → 1 ≤ length parts → AllByRecursion IsPart parts → AllByRecursion IsPart (take (length parts - 1) (drop 1 parts))
other_parts [] some each = absurd (omega arith)
other_parts (part ∷ parts) some each = subst (AllByRecursion IsPart) (sym (take_rest (part ∷ parts) 1)) each.1

-- ARRAYS

pub element_words : (element : Place) (null : Bool) (from to : ℕ) (low high : ℤ) (word : ℕ) (elements : List ℕ) → AreIn (ranges_of_part (Array element null from to low high)) (word ∷ elements) → AreWords element elements
element_words element null from to low high word elements within = words_are (record { place = element; low = low; high = high }) to elements within.1

shape_within : (null : Bool) (from to : ℕ) (word : ℕ) → IsOf word (shape_range null from to) → word ≤ shape_count null from to - 1
shape_within null from to word is = omega (arith, ints, is.2)

count_of : (null : Bool) (from to word : ℕ) (elements : List ℕ) → from ≤ to → length elements ≡ to → word ≤ shape_count null from to - 1 → IsCount (length_in null from word) elements
count_of false from to word elements order count within = omega (arith, order, count, within)
count_of true from to zero elements order count within = tt
count_of true from to (suc word) elements order count within =
    let apart : (suc word == 0) ≡ false = grind arith in
    subst (λ b. IsCount (if b then None else Some (from + (suc word - 1))) elements) (sym apart) (omega (arith, order, count, within))

pub count_by : (element : Place) (null : Bool) (from to : ℕ) (low high : ℤ) (word : ℕ) (elements : List ℕ) (count : Option ℕ) → IsPart (Array element null from to low high) → AreIn (ranges_of_part (Array element null from to low high)) (word ∷ elements)
    → count ≡ length_in null from word → IsCount count elements
count_by element null from to low high word elements count part within is =
    subst (λ o. IsCount o elements) (sym is) (count_of null from to word elements part.0 (words_count (record { place = element; low = low; high = high }) to elements within.1) (shape_within null from to word within.0))

pub shape_short : (element : Place) (null : Bool) (from to : ℕ) (low high : ℤ) (word : ℕ) (elements : List ℕ) → AreIn (ranges_of_part (Array element null from to low high)) (word ∷ elements) → word < 2 ^ 32
shape_short element null from to low high word elements within = within.0.0
