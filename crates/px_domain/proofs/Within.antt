-- Arguments that were read are in the domain.
use Rattle.std.proofs.Common.{◌≡◌, ℕ, zero, suc, ◌+◌, ◌-◌, ◌≤◌, List, [], ◌∷◌, ◌++◌, Bool, true, false, Result, Ok, Err, refl, subst, arith, ℤ, drop, length, if◌then◌else◌, length-append}
use Rattle.std.specs.Prelude.{codes, nat_eq, nat_le, replicate}
use Rattle.std.specs.List.{AllByRecursion, starts_with}
use Rattle.std.proofs.lemmas.Bool.Decides.{nat_tests}
use Rattle.std.proofs.lemmas.Int.{ints}
use Rattle.std.proofs.lemmas.List.{length-replicate}
use Rattle.px_domain.specs.declared.domain.Part.{Part}
use Rattle.px_domain.specs.declared.domain.Part.TheVariants.{Scalar, Array}
use Rattle.px_domain.specs.declared.range.Range.{Range}
use Rattle.px_domain.specs.Args.{arg_at, args_at, args_of, array_arg_at, array_words, element_at, elements_at, fault_at, listed_at, null_arg_at, null_words, scalar_arg_at, shape_of, value_at, word_at}
use Rattle.px_domain.specs.Domain.{AreIn, InDomain, IsOf, IsPart, IsRange, low_word, ranges_of, ranges_of_part, shape_range}
use Rattle.px_domain.specs.Grammar.{end_at, expect, number_at}
use Rattle.px_domain.specs.Place.{word_of}
use Rattle.px_reading.specs.Reading.{◌>>=◌, Read}
use Rattle.px_domain.proofs.Ranges.{IsNumber, bound, number_is}
use Rattle.px_domain.proofs.Tuples.{low_within, number_within}

-- each of the words is in the range
abbrev AreOf : Range → List ℕ → Type 0
AreOf range words = AllByRecursion (λ word. IsOf word range) words

both : (ranges more : List Range) (words rest : List ℕ) → AreIn ranges words → AreIn more rest → AreIn (ranges ++ more) (words ++ rest)
both [] more [] rest first second = second
both [] more (word ∷ words) rest first second = absurd first
both (range ∷ ranges) more [] rest first second = absurd first
both (range ∷ ranges) more (word ∷ words) rest first second = (first.0, both ranges more words rest first.1 second)

and_more : (range : Range) (words rest : List ℕ) → AreOf range words → AreOf range rest → AreOf range (words ++ rest)
and_more range [] rest first second = second
and_more range (word ∷ words) rest first second = (first.0, and_more range words rest first.1 second)

low_times : (range : Range) (n : ℕ) → IsRange range → AreOf range (replicate n (low_word range))
low_times range zero ranged = tt
low_times range (suc n) ranged = (low_within range ranged, low_times range n ranged)

times_in : (range : Range) (words : List ℕ) → AreOf range words → AreIn (replicate (length words) range) words
times_in range [] are = tt
times_in range (word ∷ words) are = (are.0, times_in range words are.1)

word_is : (range : Range) (text : List ℕ) (at : ℕ) (read : Read ℕ) → IsRange range → word_at range text at ≡ Ok read → IsOf read.value range
unfolding word_at
word_is range text at read ranged same =
    let number = bound (number_at range text at) (λ (number : Read ℤ). Ok (record { value = word_of range.place number.value; end = number.end })) read same in
    let is : IsNumber range number.0.value = number_is range text at number.0 number.1 in
    let word : word_of range.place number.0.value ≡ read.value = cc in
    subst (λ w. IsOf w range) word (number_within range number.0.value ranged is.0 is.1)

element_is : (range : Range) (gap text : List ℕ) (at : ℕ) (read : Read ℕ) → IsRange range → element_at range gap text at ≡ Ok read → IsOf read.value range
unfolding element_at
element_is range gap text at read ranged same =
    let next = bound (expect gap text at at) (λ (next : ℕ). word_at range text next) read same in
    word_is range text next.0 read ranged next.2

-- no more elements than asked for, each in the range
abbrev AreElements : Range → ℕ → List ℕ → Type 0
AreElements range most words = AreOf range words × (length words ≤ most)

elements_are : (range : Range) (most : ℕ) (gap text : List ℕ) (at : ℕ) (read : Read (List ℕ)) → IsRange range → elements_at range most gap text at ≡ Ok read → AreElements range most read.value
unfolding elements_at
elements_are range zero gap text at read ranged same =
    let none : [] ≡ read.value = cc in
    subst (λ ws. AreElements range zero ws) none (tt, omega arith)
elements_are range (suc most) gap text at read ranged same =
    by_end (starts_with nat_eq (drop at text) (codes "]")) (λ (end : ℕ) (rest : Read (List ℕ)) (read : elements_at range most (codes " ") text end ≡ Ok rest). elements_are range most (codes " ") text end rest ranged read) same
  where
    by_end : (closed : Bool) → ((end : ℕ) (rest : Read (List ℕ)) → elements_at range most (codes " ") text end ≡ Ok rest → AreElements range most rest.value)
        → (if closed then Ok (record { value = []; end = at })
        else element_at range gap text at >>= λ word. elements_at range most (codes " ") text word.end >>= λ rest. Ok (record { value = word.value ∷ rest.value; end = rest.end })) ≡ Ok read
        → AreElements range (suc most) read.value
    by_end true more same =
        let none : [] ≡ read.value = cc in
        subst (λ ws. AreElements range (suc most) ws) none (tt, omega arith)
    by_end false more same =
        let word = bound (element_at range gap text at) (λ (word : Read ℕ). elements_at range most (codes " ") text word.end >>= λ rest. Ok (record { value = word.value ∷ rest.value; end = rest.end })) read same in
        let rest = bound (elements_at range most (codes " ") text word.0.end) (λ (rest : Read (List ℕ)). Ok (record { value = word.0.value ∷ rest.value; end = rest.end })) read word.2 in
        let first : IsOf word.0.value range = element_is range gap text at word.0 ranged word.1 in
        let others : AreElements range most rest.0.value = more word.0.end rest.0 rest.1 in
        let all : word.0.value ∷ rest.0.value ≡ read.value = cc in
        let few : suc (length rest.0.value) ≤ suc most = omega (arith, others.1) in
        subst (λ ws. AreElements range (suc most) ws) all ((first, others.0), few)

shape_in : (null : Bool) (from to length : ℕ) → from ≤ length → length ≤ to → to ≤ 64 → IsOf (shape_of null from length) (shape_range null from to)
shape_in true from to length least most few = (omega arith, omega (arith, ints), omega (arith, ints))
shape_in false from to length least most few = (omega arith, omega (arith, ints), omega (arith, ints))

null_in : (from to : ℕ) → IsOf 0 (shape_range true from to)
null_in from to = (omega arith, omega (arith, ints), omega (arith, ints))

filled : (range : Range) (to : ℕ) (words : List ℕ) → IsRange range → AreOf range words → length words ≤ to → AreIn (replicate to range) (words ++ replicate (to - length words) (low_word range))
filled range to words ranged are few =
    let fill : List ℕ = replicate (to - length words) (low_word range) in
    let last : length fill ≡ to - length words = length-replicate (to - length words) (low_word range) in
    let whole : length (words ++ fill) ≡ length words + length fill = length-append words fill in
    let long : length (words ++ fill) ≡ to = omega (arith, last, whole) in
    subst (λ n. AreIn (replicate n range) (words ++ fill)) long (times_in range (words ++ fill) (and_more range words fill are (low_times range (to - length words) ranged)))

array_in : (null : Bool) (from to : ℕ) (range : Range) (words : List ℕ) → IsRange range → AreOf range words → from ≤ length words → length words ≤ to → to ≤ 64
    → AreIn (shape_range null from to ∷ replicate to range) (array_words null from to range words)
array_in null from to range words ranged are least most few = (shape_in null from to (length words) least most few, filled range to words ranged are most)

nulls_in : (from to : ℕ) (range : Range) → IsRange range → AreIn (shape_range true from to ∷ replicate to range) (null_words to range)
nulls_in from to range ranged =
    let long : length (replicate to (low_word range)) ≡ to = length-replicate to (low_word range) in
    (null_in from to, subst (λ n. AreIn (replicate n range) (replicate to (low_word range))) long (times_in range (replicate to (low_word range)) (low_times range to ranged)))

listed_is : (null : Bool) (from to : ℕ) (range : Range) (text : List ℕ) (at : ℕ) (read : Read (List ℕ)) → IsRange range → to ≤ 64 → listed_at null from to range text at ≡ Ok read
    → AreIn (shape_range null from to ∷ replicate to range) read.value
unfolding listed_at
listed_is null from to range text at read ranged few same =
    let inner = bound (expect (codes "([") text at at) (λ (inner : ℕ). elements_at range to (codes "") text inner >>= λ elements. expect (codes "])") text elements.end at >>= λ end.
    if nat_le from (length elements.value) then Ok (record { value = array_words null from to range elements.value; end = end }) else Err at) read same in
    let elements = bound (elements_at range to (codes "") text inner.0) (λ (elements : Read (List ℕ)). expect (codes "])") text elements.end at >>= λ end.
    if nat_le from (length elements.value) then Ok (record { value = array_words null from to range elements.value; end = end }) else Err at) read inner.2 in
    let end = bound (expect (codes "])") text elements.0.end at) (λ (end : ℕ).
    if nat_le from (length elements.0.value) then Ok (record { value = array_words null from to range elements.0.value; end = end }) else Err at) read elements.2 in
    let are : AreElements range to elements.0.value = elements_are range to (codes "") text inner.0 elements.0 ranged elements.1 in
    by_length elements.0.value end.0 (nat_le from (length elements.0.value)) refl are end.2
  where
    by_length : (words : List ℕ) (end : ℕ) (long : Bool) → nat_le from (length words) ≡ long → AreElements range to words
        → (if long then Ok (record { value = array_words null from to range words; end = end }) else Err at) ≡ Ok read → AreIn (shape_range null from to ∷ replicate to range) read.value
    by_length words end true long are same =
        let least : from ≤ length words = grind (arith, nat_tests) in
        let whole : array_words null from to range words ≡ read.value = cc in
        subst (λ ws. AreIn (shape_range null from to ∷ replicate to range) ws) whole (array_in null from to range words ranged are.0 least are.1 few)
    by_length words end false long are same = absurd (cc)

null_is : (null : Bool) (from to : ℕ) (range : Range) (text : List ℕ) (at : ℕ) (read : Read (List ℕ)) → IsRange range → null_arg_at null to range text at ≡ Ok read
    → AreIn (shape_range null from to ∷ replicate to range) read.value
unfolding null_arg_at
null_is true from to range text at read ranged same =
    let end = bound (expect (codes "(null)") text at at) (λ (end : ℕ). Ok (record { value = null_words to range; end = end })) read same in
    let whole : null_words to range ≡ read.value = cc in
    subst (λ ws. AreIn (shape_range true from to ∷ replicate to range) ws) whole (nulls_in from to range ranged)
null_is false from to range text at read ranged same =
    let end = bound (expect (codes "(null)") text at at) (λ (end : ℕ). Err at) read same in
    absurd (cc)

array_is : (null : Bool) (from to : ℕ) (range : Range) (text : List ℕ) (at : ℕ) (read : Read (List ℕ)) → IsRange range → to ≤ 64 → array_arg_at null from to range text at ≡ Ok read
    → AreIn (shape_range null from to ∷ replicate to range) read.value
unfolding array_arg_at
array_is null from to range text at read ranged few same = by_null (starts_with nat_eq (drop at text) (codes "(null)")) same
  where
    by_null : (is : Bool) → (if is then null_arg_at null to range text at else listed_at null from to range text at) ≡ Ok read → AreIn (shape_range null from to ∷ replicate to range) read.value
    by_null true same = null_is null from to range text at read ranged same
    by_null false same = listed_is null from to range text at read ranged few same

scalar_is : (range : Range) (text : List ℕ) (at : ℕ) (read : Read (List ℕ)) → IsRange range → scalar_arg_at range text at ≡ Ok read → AreIn (range ∷ []) read.value
unfolding scalar_arg_at
scalar_is range text at read ranged same =
    let inner = bound (expect (codes "(") text at at) (λ (inner : ℕ). word_at range text inner >>= λ word. expect (codes ")") text word.end at >>= λ end. Ok (record { value = word.value ∷ []; end = end })) read same in
    let word = bound (word_at range text inner.0) (λ (word : Read ℕ). expect (codes ")") text word.end at >>= λ end. Ok (record { value = word.value ∷ []; end = end })) read inner.2 in
    let end = bound (expect (codes ")") text word.0.end at) (λ (end : ℕ). Ok (record { value = word.0.value ∷ []; end = end })) read word.2 in
    let is : IsOf word.0.value range = word_is range text inner.0 word.0 ranged word.1 in
    let whole : word.0.value ∷ [] ≡ read.value = cc in
    subst (λ ws. AreIn (range ∷ []) ws) whole (is, tt)

value_is : (part : Part) (text : List ℕ) (at : ℕ) (read : Read (List ℕ)) → IsPart part → value_at part text at ≡ Ok read → AreIn (ranges_of_part part) read.value
unfolding value_at
value_is (Scalar place low high) text at read is same = scalar_is (record { place = place; low = low; high = high }) text at read is.1 same
value_is (Array element null from to low high) text at read is same = array_is null from to (record { place = element; low = low; high = high }) text at read is.3 is.1 same

-- a group that was read is what stands for its part
given : {X : Type 0} (read : Result X ℕ) (at : ℕ) (x : X) → fault_at at read ≡ Ok x → read ≡ Ok x
given (Ok y) at x same = same
given (Err other) at x same = absurd (cc)

args_are : (parts : List Part) (text : List ℕ) (at : ℕ) (words : List ℕ) → AllByRecursion IsPart parts → args_at parts text at ≡ Ok words → AreIn (ranges_of parts) words
unfolding args_at
args_are [] text at words each same =
    let end = bound (end_at text at) (λ (end : ℕ). Ok []) words same in
    let none : [] ≡ words = cc in
    subst (λ ws. AreIn [] ws) none tt
args_are (part ∷ parts) text at words each same =
    let first = bound (arg_at part text at) (λ (first : Read (List ℕ)). args_at parts text first.end >>= λ rest. Ok (first.value ++ rest)) words same in
    let rest = bound (args_at parts text first.0.end) (λ (rest : List ℕ). Ok (first.0.value ++ rest)) words first.2 in
    let is : AreIn (ranges_of_part part) first.0.value = value_is part text at first.0 each.0 (given (value_at part text at) at first.0 first.1) in
    let more : AreIn (ranges_of parts) rest.0 = args_are parts text first.0.end rest.0 each.1 rest.1 in
    let whole : first.0.value ++ rest.0 ≡ words = cc in
    subst (λ ws. AreIn (ranges_of (part ∷ parts)) ws) whole (both (ranges_of_part part) (ranges_of parts) first.0.value rest.0 is more)

pub args_within : (parts : List Part) (text words : List ℕ) → AllByRecursion IsPart parts → args_of parts text ≡ Ok words → InDomain parts words
unfolding args_of
args_within [] text words each same =
    let next = bound (expect (codes "-") text 0 0) (λ (next : ℕ). end_at text next >>= λ end. Ok []) words same in
    let end = bound (end_at text next.0) (λ (end : ℕ). Ok []) words next.2 in
    let none : [] ≡ words = cc in
    subst (λ ws. AreIn [] ws) none tt
args_within (part ∷ parts) text words each same = args_are (part ∷ parts) text 0 words each same
