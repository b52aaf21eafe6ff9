-- Words and numbers of a place, and the tuples of a domain.
use Rattle.std.proofs.Common.{mul-pos, ◌≡◌, ℕ, zero, suc, ◌+◌, ◌*◌, ◌/◌, ◌%◌, ◌<◌, ◌≤◌, ◌^◌, List, [], ◌∷◌, Bool, true, false, refl, sym, ap, ◌∙◌, subst, arith, ℤ, pos, negsuc, ◌+ℤ◌, ◌-ℤ◌, ◌≤ℤ◌, if◌then◌else◌, drop, length, get_or, map, set}
use Rattle.std.specs.Int.{Width, cast_signed, cast_unsigned, w32, w64}
use mir.Val.{bits}
use Rattle.std.specs.Int.RustNames.{unsigned_abs}
use Rattle.std.specs.List.{AllByRecursion}
use Rattle.std.proofs.lemmas.Int.{ints, of_z-to_z}
use Rattle.std.proofs.lemmas.Nat.{mul-add-lt, div-mul-add, mod-mul-add, div_below, mod_below}
use Rattle.std.proofs.lemmas.List.{drop_more, drop_all, drop-set, length-set}
use Rattle.std.proofs.Math.Nat.{mul_comm, mul_assoc, div-div-eq-div-mul, le-mul_of_pos_right, mod-eq_of_lt}
use lib.Arith.{mod-mul}
use Rattle.px_program.specs.declared.program.Place.{Place}
use Rattle.px_program.specs.declared.program.Place.TheVariants as places
use Rattle.px_domain.specs.declared.range.Range.{Range}
use Rattle.px_domain.specs.Place.{low_end, high_end, is_signed, is_wide, number_of, word_bits, word_of, word_width}
use Rattle.px_domain.specs.Domain.{AreIn, IsOf, IsRange, IsTuple, low_word, range_size, size_of, tuple_of, word_at}

-- a number that is not negative is its own word
unsigned_back : (w : Width) (z : ℤ) → pos 0 ≤ℤ z → pos (cast_unsigned w z) ≡ z
unsigned_back w (pos n) some = refl
unsigned_back w (negsuc n) some = absurd (omega (arith, ints))

-- the number of the word of a number
pub number_of_word : (place : Place) (z : ℤ) → low_end place ≤ℤ z → z ≤ℤ high_end place → (number_of place (word_of place z) ≡ z) × (word_of place z < 2 ^ word_bits place)
number_of_word places.Bool z low high = (omega (arith, ints), omega (arith, ints))
number_of_word places.Char z low high = (omega (arith, ints), omega (arith, ints))
number_of_word places.I1 z low high = (omega (arith, ints), omega (arith, ints))
number_of_word places.U1 z low high = (omega (arith, ints), omega (arith, ints))
number_of_word places.I2 z low high = (omega (arith, ints), omega (arith, ints))
number_of_word places.U2 z low high = (omega (arith, ints), omega (arith, ints))
number_of_word places.I4 z low high = (omega (arith, ints), omega (arith, ints))
number_of_word places.U4 z low high = let back : pos (word_of places.U4 z) ≡ z = unsigned_back w32 z (omega (arith, ints)) in (back, omega (arith, ints))
number_of_word places.I8 z low high = (omega (arith, ints), omega (arith, ints))
number_of_word places.U8 z low high = let back : pos (word_of places.U8 z) ≡ z = unsigned_back w64 z (omega (arith, ints)) in (back, omega (arith, ints))
number_of_word places.N z low high = (omega (arith, ints), omega (arith, ints))
number_of_word places.UN z low high = let back : pos (word_of places.UN z) ≡ z = unsigned_back w64 z (omega (arith, ints)) in (back, omega (arith, ints))
number_of_word (places.Ref class) z low high = (omega (arith, ints), omega (arith, ints))

-- the word of the number of a word
word_of_signed : (signed : Bool) (w : Width) (word : ℕ) → word < 2 ^ bits w → cast_unsigned w (if signed then cast_signed w word else pos word) ≡ word
word_of_signed true w word less = of_z-to_z w word less
word_of_signed false w word less = refl

bits_of : (wide : Bool) → (if wide then 64 else 32) ≡ bits (if wide then w64 else w32)
bits_of true = refl
bits_of false = refl

pub word_of_number : (place : Place) (word : ℕ) → word < 2 ^ word_bits place → word_of place (number_of place word) ≡ word
word_of_number place word less =
    let P : ℕ → Type 0 = λ n. word < 2 ^ n in
    word_of_signed (is_signed place) (word_width place) word (subst P (bits_of (is_wide place)) less)

-- the words of a range are those of the numbers below its size
pub range_within : (range : Range) (k : ℕ) → IsRange range → k < range_size range → IsOf (word_at range k) range
range_within range k is less = of_ends range.place range.low range.high k is.0 is.1 is.2 less
  where
    of_ends : (place : Place) (low high : ℤ) (k : ℕ) → low_end place ≤ℤ low → low ≤ℤ high → high ≤ℤ high_end place → k < unsigned_abs ((high -ℤ low) +ℤ pos 1)
        → IsOf (word_of place (low +ℤ pos k)) (record { place = place; low = low; high = high })
    of_ends place low high k from order to less =
        let first : low ≤ℤ (low +ℤ pos k) = omega (arith, ints) in
        let last : (low +ℤ pos k) ≤ℤ high = omega (arith, ints) in
        let back : (number_of place (word_of place (low +ℤ pos k)) ≡ low +ℤ pos k) × (word_of place (low +ℤ pos k) < 2 ^ word_bits place) = number_of_word place (low +ℤ pos k) (omega (arith, ints)) (omega (arith, ints)) in
        let P : ℤ → Type 0 = λ z. (low ≤ℤ z) × (z ≤ℤ high) in
        let ends : (low ≤ℤ number_of place (word_of place (low +ℤ pos k))) × (number_of place (word_of place (low +ℤ pos k)) ≤ℤ high) = subst P (sym back.0) (first, last) in
        (back.1, ends.0, ends.1)

-- the word of a number that lies in a range is in it
pub number_within : (range : Range) (z : ℤ) → IsRange range → range.low ≤ℤ z → z ≤ℤ range.high → IsOf (word_of range.place z) range
number_within range z is first last = of_ends range.place range.low range.high z is.0 is.2 first last
  where
    of_ends : (place : Place) (low high z : ℤ) → low_end place ≤ℤ low → high ≤ℤ high_end place → low ≤ℤ z → z ≤ℤ high → IsOf (word_of place z) (record { place = place; low = low; high = high })
    of_ends place low high z from to first last =
        let back : (number_of place (word_of place z) ≡ z) × (word_of place z < 2 ^ word_bits place) = number_of_word place z (omega (arith, ints)) (omega (arith, ints)) in
        let P : ℤ → Type 0 = λ z. (low ≤ℤ z) × (z ≤ℤ high) in
        let ends : (low ≤ℤ number_of place (word_of place z)) × (number_of place (word_of place z) ≤ℤ high) = subst P (sym back.0) (first, last) in
        (back.1, ends.0, ends.1)

pub low_within : (range : Range) → IsRange range → IsOf (low_word range) range
low_within range is = number_within range range.low is (omega (arith, ints)) is.1

-- the number of a word within its range
abbrev pub place_in : Range → ℕ → ℕ
place_in range word = unsigned_abs (number_of range.place word -ℤ range.low)

pub place_less : (range : Range) (word : ℕ) → IsOf word range → place_in range word < range_size range
place_less range word is = of_ends range.low range.high (number_of range.place word) is.1 is.2
  where
    of_ends : (low high z : ℤ) → low ≤ℤ z → z ≤ℤ high → unsigned_abs (z -ℤ low) < unsigned_abs ((high -ℤ low) +ℤ pos 1)
    of_ends low high z first last = omega (arith, ints)

from_low : (low z : ℤ) → low ≤ℤ z → low +ℤ pos (unsigned_abs (z -ℤ low)) ≡ z
from_low low z le = omega (arith, ints)

pub word_at_place : (range : Range) (word : ℕ) → IsOf word range → word_at range (place_in range word) ≡ word
word_at_place range word is =
    ap (λ z. word_of range.place z) (from_low range.low (number_of range.place word) is.1) ∙ word_of_number range.place word is.0

pub some_words : (range : Range) → IsRange range → 0 < range_size range
some_words range is = of_ends range.low range.high is.1
  where
    of_ends : (low high : ℤ) → low ≤ℤ high → 0 < unsigned_abs ((high -ℤ low) +ℤ pos 1)
    of_ends low high order = omega (arith, ints)

pub some_tuples : (ranges : List Range) → AllByRecursion IsRange ranges → 0 < size_of ranges
some_tuples [] are = omega arith
some_tuples (range ∷ ranges) are = mul-pos (some_words range are.0) (some_tuples ranges are.1)

-- the words of the low ends are in the ranges
pub least_in : (ranges : List Range) → AllByRecursion IsRange ranges → AreIn ranges (map low_word ranges)
least_in [] are = tt
least_in (range ∷ ranges) are = (low_within range are.0, least_in ranges are.1)

-- each words of the domain are a tuple
pub every_tuple : (ranges : List Range) (words : List ℕ) → AreIn ranges words → IsTuple ranges words
every_tuple [] [] is = record { number = 0; less = omega arith; same = refl }
every_tuple [] (word ∷ words) is = absurd is
every_tuple (range ∷ ranges) [] is = absurd is
every_tuple (range ∷ ranges) (word ∷ words) is =
    let rest : IsTuple ranges words = every_tuple ranges words is.1 in
    let k : ℕ = place_in range word in
    record {
      number = k * size_of ranges + rest.number;
      less = rw (mul_comm (range_size range) (size_of ranges)) (mul-add-lt k (size_of ranges) rest.number (range_size range) (place_less range word is.0) rest.less);
      same =
          ap (λ n. word_at range n ∷ tuple_of ranges ((k * size_of ranges + rest.number) % size_of ranges)) (div-mul-add k (size_of ranges) rest.number rest.less)
          ∙ ap (λ n. word_at range k ∷ tuple_of ranges n) (mod-mul-add k (size_of ranges) rest.number rest.less)
          ∙ ap (λ w. w ∷ tuple_of ranges rest.number) (word_at_place range word is.0)
          ∙ ap (λ ws. word ∷ ws) rest.same;
    }

-- the tuple of a number is in the domain
pub tuple_within : (ranges : List Range) (k : ℕ) → AllByRecursion IsRange ranges → k < size_of ranges → AreIn ranges (tuple_of ranges k)
tuple_within [] k are less = tt
tuple_within (range ∷ ranges) k are less =
    let some : 0 < size_of ranges = some_tuples ranges are.1 in
    (range_within range (k / size_of ranges) are.0 (div_below k (size_of ranges) (range_size range) some less), tuple_within ranges (k % size_of ranges) are.1 (mod_below k (size_of ranges) some))

-- one range more in front
pub tuple_more : (range : Range) (ranges : List Range) (k : ℕ) → 0 < range_size range → 0 < size_of ranges
    → tuple_of (range ∷ ranges) (k % size_of (range ∷ ranges)) ≡ word_at range (k / size_of ranges % range_size range) ∷ tuple_of ranges (k % size_of ranges)
tuple_more range ranges k some rest =
    let s : ℕ = size_of ranges in
    let q : ℕ = k / size_of ranges % range_size range in
    let r : ℕ = k % size_of ranges in
    let less : k % size_of ranges < size_of ranges = mod_below k (size_of ranges) rest in
    ap (λ n. tuple_of (range ∷ ranges) n) (mod-mul k some rest)
    ∙ ap (λ n. word_at range n ∷ tuple_of ranges ((q * s + r) % s)) (div-mul-add q s r less)
    ∙ ap (λ n. word_at range q ∷ tuple_of ranges n) (mod-mul-add q s r less)

pub size_split : (ranges : List Range) (i : ℕ) (d : Range) → i < length ranges → size_of (drop i ranges) ≡ range_size (get_or ranges i d) * size_of (drop (i + 1) ranges)
size_split ranges i d less = ap size_of (drop_more ranges i d less)

-- are stay are behind an index
pub rest_ranges : (ranges : List Range) (i : ℕ) → AllByRecursion IsRange ranges → AllByRecursion IsRange (drop i ranges)
rest_ranges ranges zero are = are
rest_ranges [] (suc i) are = tt
rest_ranges (range ∷ ranges) (suc i) are = rest_ranges ranges i are.1

pub some_at : (ranges : List Range) (i : ℕ) (d : Range) → i < length ranges → AllByRecursion IsRange ranges → 0 < range_size (get_or ranges i d)
some_at (range ∷ ranges) zero d less are = some_words range are.0
some_at (range ∷ ranges) (suc i) d less are = some_at ranges i d (omega arith) are.1
some_at [] i d less are = absurd (omega arith)

-- a size that is too large stays so with the ranges that follow
pub too_many : (ranges : List Range) (i : ℕ) (d : Range) (size factor most total : ℕ) → i < length ranges → AllByRecursion IsRange ranges
    → factor ≡ range_size (get_or ranges i d) → size * size_of (drop i ranges) ≡ total → most < size * factor → total ≤ most → ⊥
too_many ranges i d size factor most total less are same whole more within =
    let rest : 0 < size_of (drop (i + 1) ranges) = some_tuples (drop (i + 1) ranges) (rest_ranges ranges (i + 1) are) in
    let split : size_of (drop i ranges) ≡ factor * size_of (drop (i + 1) ranges) = size_split ranges i d less ∙ ap (λ n. n * size_of (drop (i + 1) ranges)) (sym same) in
    let all : size * factor * size_of (drop (i + 1) ranges) ≡ total = mul_assoc size factor (size_of (drop (i + 1) ranges)) ∙ ap (λ n. size * n) (sym split) ∙ whole in
    let large : size * factor ≤ size * factor * size_of (drop (i + 1) ranges) = le-mul_of_pos_right (size * factor) rest in
    omega arith

-- the words from an index on are the tuple of the number's rest, and the rest of the number is for the words before
pub record IsFilled (ranges : List Range) (words : List ℕ) (number rest index : ℕ) : Type 0 where
  pub many : length words ≡ length ranges
  pub behind : drop index words ≡ tuple_of (drop index ranges) (number % size_of (drop index ranges))
  pub ahead : rest ≡ number / size_of (drop index ranges)

pub begun : (ranges : List Range) (words : List ℕ) (number index : ℕ) → length words ≡ length ranges → index ≡ length ranges → IsFilled ranges words number number index
begun ranges words number index many all =
    let none : drop index ranges ≡ [] = drop_all index ranges (omega arith) in
    record {
      many = many;
      behind = drop_all index words (omega arith) ∙ ap (λ rest. tuple_of rest (number % size_of rest)) (sym none);
      ahead = let one : number ≡ number / 1 = grind arith in one ∙ ap (λ rest. number / size_of rest) (sym none);
    }

one_down : (ranges : List Range) (words : List ℕ) (number rest before word size : ℕ) (d : Range) → before < length ranges → AllByRecursion IsRange ranges
    → size ≡ range_size (get_or ranges before d) → word ≡ word_at (get_or ranges before d) (rest % size) → IsFilled ranges words number rest (before + 1)
    → IsFilled ranges (set words before word) number (rest / size) before
one_down ranges words number rest before word size d less are size_is word_is filled =
    let range : Range = get_or ranges before d in
    let behind : List Range = drop (before + 1) ranges in
    let digit : ℕ → ℕ → ℕ = λ n m. word_at range (n % m) in
    let some : 0 < size_of behind = some_tuples behind (rest_ranges ranges (before + 1) are) in
    record {
      many = length-set words before word ∙ filled.many;
      behind =
          drop-set words before word (omega (arith, filled.many))
          ∙ ap (λ ws. word ∷ ws) filled.behind
          ∙ ap (λ w. w ∷ tuple_of behind (number % size_of behind)) (word_is ∙ ap (λ n. digit n size) filled.ahead ∙ ap (digit (number / size_of behind)) size_is)
          ∙ sym (tuple_more range behind number (some_at ranges before d less are) some)
          ∙ ap (λ rest. tuple_of rest (number % size_of rest)) (sym (drop_more ranges before d less));
      ahead =
          ap (λ n. n / size) filled.ahead
          ∙ ap (λ n. number / size_of behind / n) size_is
          ∙ div-div-eq-div-mul number (size_of behind) (range_size range)
          ∙ ap (λ n. number / n) (mul_comm (size_of behind) (range_size range) ∙ sym (size_split ranges before d less));
    }

pub went_down : (ranges : List Range) (words : List ℕ) (number rest index before word size : ℕ) (d : Range) → before + 1 ≡ index → index ≤ length ranges → AllByRecursion IsRange ranges
    → size ≡ range_size (get_or ranges before d) → word ≡ word_at (get_or ranges before d) (rest % size) → IsFilled ranges words number rest index
    → IsFilled ranges (set words before word) number (rest / size) before
went_down ranges words number rest index before word size d next within are size_is word_is filled =
    one_down ranges words number rest before word size d (omega arith) are size_is word_is (subst (λ n. IsFilled ranges words number rest n) (sym next) filled)

pub all_filled : (ranges : List Range) (words : List ℕ) (number rest index : ℕ) → index ≤ 0 → number < size_of ranges → IsFilled ranges words number rest index → words ≡ tuple_of ranges number
all_filled ranges words number rest zero none less filled = filled.behind ∙ ap (λ n. tuple_of ranges n) (mod-eq_of_lt less)
all_filled ranges words number rest (suc index) none less filled = absurd (omega arith)

-- words of another number are not in the domain
pub same_length : (ranges : List Range) (words : List ℕ) → AreIn ranges words → length ranges ≡ length words
same_length [] [] is = refl
same_length [] (word ∷ words) is = absurd is
same_length (range ∷ ranges) [] is = absurd is
same_length (range ∷ ranges) (word ∷ words) is = ap suc (same_length ranges words is.1)
