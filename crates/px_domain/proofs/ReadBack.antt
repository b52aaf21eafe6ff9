-- What is written of a domain is read as the same domain.
use Rattle.std.proofs.Common.{◌≡◌, ◌≤◌, ℕ, suc, ◌+◌, ◌==◌, List, [], ◌∷◌, ◌++◌, Bool, true, false, Some, None, Result, Ok, Err, refl, sym, ap, ◌∙◌, subst, arith, ℤ, pos, negsuc, ◌≤ℤ◌, drop, take, length, map, if◌then◌else◌, ◌&&◌, append_assoc, FitsSigned}
use Rattle.std.specs.Prelude.{IfOk, int_le, codes, nat_eq, nat_le, take_while}
use Rattle.std.specs.Char.{is_ascii_digit}
use Rattle.std.specs.Fmt.{decimal, signed_decimal}
use Rattle.std.specs.Int.{w128, IsInRange}
use Rattle.std.specs.List.{AllByRecursion, flat_map, starts_with}
use Rattle.std.specs.Ordering.{int_eq}
use Rattle.std.specs.Str.{bytes_eq}
use Rattle.std.specs.Str.Parse.{AllDigits, IsNumeral}
use Rattle.std.proofs.lemmas.Bool.Decides.{nat_tests, Decides-int_eq}
use Rattle.std.proofs.lemmas.Fmt.{decimal_is_IsNumeral_wide}
use Rattle.std.proofs.lemmas.Int.{ints}
use Rattle.std.proofs.lemmas.List.{drop-drop, drop_at, take_at, length-append}
use Rattle.std.proofs.lemmas.List.Sums.{take_while-cons}
use Rattle.std.proofs.lemmas.Slice.Eq.{bytes_eq-Decides}
use Rattle.std.proofs.lemmas.Str.Parse.{digit_from_value}
use Rattle.px_program.specs.declared.program.Place.{Place}
use Rattle.px_domain.specs.declared.domain.Part.{Part}
use Rattle.px_domain.specs.declared.domain.Part.TheVariants.{Scalar, Array}
use Rattle.px_domain.specs.declared.given.Given.{Given}
use Rattle.px_domain.specs.declared.range.Range.{Range}
use Rattle.px_domain.specs.Place.{low_end, high_end}
use Rattle.px_domain.specs.Domain.{IsPart, IsRange, ranges_of, whole_range, word_count}
use Rattle.px_domain.specs.Givens.{IsGiven, given_in}
use Rattle.px_domain.specs.declared.fault.DomainFault.{DomainFault}
use Rattle.px_domain.specs.Text.{domain_text, lengths_text, null_text, part_text, range_text}
use Rattle.px_domain.specs.Grammar.{Gives, array_at, domain_of, expect, group_at, groups_at, in_range, is_in, length_range, lengths_at, null_at, number_at, number_of_text, number_or, numeral_of, part_at, range_at, scalar_at, span_at}
use Rattle.px_reading.specs.Reading.{Read}
use Rattle.px_domain.proofs.Numerals.{written, wide, within_fits, range_fits}
use Rattle.px_domain.proofs.Ranges.{ArePartsOf, counted, domain_is, length_is_range}

-- the rest of a text behind what stands at a place
rest_behind : (text front rest : List ℕ) (at : ℕ) → drop at text ≡ front ++ rest → drop (at + length front) text ≡ rest
rest_behind text front rest at stands = sym (drop-drop (length front) at text) ∙ ap (drop (length front)) stands ∙ drop_at front rest (length front) refl

begins : (bytes rest : List ℕ) → starts_with nat_eq (bytes ++ rest) bytes ≡ true
begins bytes rest = (bytes_eq-Decides bytes (take (length bytes) (bytes ++ rest))).1 (sym (take_at bytes rest (length bytes) refl))

expected : (bytes rest text : List ℕ) (at fault : ℕ) → drop at text ≡ bytes ++ rest → expect bytes text at fault ≡ Ok (at + length bytes)
expected bytes rest text at fault stands = rw (stands, begins bytes rest)

-- no digit stands first
abbrev NoDigitFirst : List ℕ → Type 0
NoDigitFirst [] = Unit {0}
NoDigitFirst (c ∷ rest) = is_ascii_digit c ≡ false

digits_run : (digits rest : List ℕ) → AllDigits 10 digits → NoDigitFirst rest → take_while is_ascii_digit (digits ++ rest) ≡ digits
digits_run [] [] all none = refl
digits_run [] (c ∷ rest) all none = take_while-cons is_ascii_digit c rest ∙ ap (λ b. if b then c ∷ take_while is_ascii_digit rest else []) none
digits_run (c ∷ digits) rest all none =
    let range : IsInRange 48 57 c = digit_from_value c all.0 in
    let digit : is_ascii_digit c ≡ true = grind (arith, nat_tests) in
    take_while-cons is_ascii_digit c (digits ++ rest) ∙ ap (λ b. if b then c ∷ take_while is_ascii_digit (digits ++ rest) else []) digit ∙ ap (λ ds. c ∷ ds) (digits_run digits rest all.1 none)

plain_numeral : (digits rest : List ℕ) → IsNumeral 10 digits → NoDigitFirst rest → numeral_of (digits ++ rest) ≡ digits
plain_numeral [] rest numeral none = absurd (omega arith)
plain_numeral (c ∷ digits) rest numeral none =
    let range : IsInRange 48 57 c = digit_from_value c numeral.1.0 in
    let minus : (c == 45) ≡ false = grind (arith, nat_tests) in
    rw minus (digits_run (c ∷ digits) rest numeral.1 none)

numeral_back : (z : ℤ) (rest : List ℕ) → FitsSigned w128 z → NoDigitFirst rest → numeral_of (signed_decimal z ++ rest) ≡ signed_decimal z
numeral_back (pos n) rest fits none = plain_numeral (decimal n) rest (decimal_is_IsNumeral_wide n (omega (arith, wide (pos n) fits))).0 none
numeral_back (negsuc n) rest fits none = ap (λ ds. 45 ∷ ds) (digits_run (decimal (suc n)) rest (decimal_is_IsNumeral_wide (suc n) (omega (arith, wide (negsuc n) fits))).0.1 none)

number_of_written : (z : ℤ) → FitsSigned w128 z → number_of_text (signed_decimal z) ≡ Some z
number_of_written z fits =
    ap (λ y. if bytes_eq (signed_decimal y) (signed_decimal z) then Some y else None) (written z fits).value
    ∙ ap (λ b. if b then Some z else None) ((bytes_eq-Decides (signed_decimal z) (signed_decimal z)).1 refl)

number_back : (range : Range) (z : ℤ) (text rest : List ℕ) (at : ℕ) → IsRange range → range.low ≤ℤ z → z ≤ℤ range.high → drop at text ≡ signed_decimal z ++ rest → NoDigitFirst rest
    → number_at range text at ≡ Ok (record { value = z; end = at + length (signed_decimal z) })
unfolding number_at
number_back range z text rest at ranged low high stands none =
    let fits : FitsSigned w128 z = range_fits range z ranged low high in
    let numeral : numeral_of (drop at text) ≡ signed_decimal z = ap numeral_of stands ∙ numeral_back z rest fits none in
    let within : is_in range z ≡ true = grind (arith, ints) in
    ap (λ ds. number_or (in_range range (number_of_text ds)) (at + length ds) at) numeral
    ∙ ap (λ number. number_or (in_range range number) (at + length (signed_decimal z)) at) (number_of_written z fits)
    ∙ ap (λ b. number_or (if b then Some z else None) (at + length (signed_decimal z)) at) within

-- two numbers with `..` between them
abbrev span_text : ℤ → ℤ → List ℕ → List ℕ
span_text low high rest = signed_decimal low ++ (codes ".." ++ (signed_decimal high ++ rest))

-- their length
abbrev span_length : ℤ → ℤ → ℕ
span_length low high = length (signed_decimal low) + 2 + length (signed_decimal high)

span_back : (range : Range) (fault : ℕ) (low high : ℤ) (text rest : List ℕ) (at : ℕ) → IsRange range → range.low ≤ℤ low → low ≤ℤ high → high ≤ℤ range.high → NoDigitFirst rest
    → drop at text ≡ span_text low high rest
    → span_at range fault text at ≡ Ok (record { value = record { low = low; high = high }; end = at + length (signed_decimal low) + 2 + length (signed_decimal high) })
unfolding span_at
span_back range fault low high text rest at ranged first order last none stands =
    let dots : drop (at + length (signed_decimal low)) text ≡ codes ".." ++ (signed_decimal high ++ rest) = rest_behind text (signed_decimal low) (codes ".." ++ (signed_decimal high ++ rest)) at stands in
    let behind : drop (at + length (signed_decimal low) + 2) text ≡ signed_decimal high ++ rest = rest_behind text (codes "..") (signed_decimal high ++ rest) (at + length (signed_decimal low)) dots in
    let first_number = number_back range low text (codes ".." ++ (signed_decimal high ++ rest)) at ranged first (omega (arith, ints)) stands refl in
    let second_number = number_back range high text rest (at + length (signed_decimal low) + 2) ranged (omega (arith, ints)) last behind none in
    let dots_read = expected (codes "..") (signed_decimal high ++ rest) text (at + length (signed_decimal low)) fault dots in
    let less : int_le low high ≡ true = grind (arith, ints) in
    rw (first_number, dots_read, second_number, less)

-- a number doesn't begin as `*` or `?` does
plain_star : (digits rest : List ℕ) → IsNumeral 10 digits → starts_with nat_eq (digits ++ rest) (codes "*") ≡ false
plain_star [] rest numeral = absurd (omega arith)
plain_star (c ∷ digits) rest numeral =
    let range : IsInRange 48 57 c = digit_from_value c numeral.1.0 in
    let star : nat_eq 42 c ≡ false = grind (arith, nat_tests) in
    rw star

plain_mark : (digits rest : List ℕ) → IsNumeral 10 digits → starts_with nat_eq (digits ++ rest) (codes "?") ≡ false
plain_mark [] rest numeral = absurd (omega arith)
plain_mark (c ∷ digits) rest numeral =
    let range : IsInRange 48 57 c = digit_from_value c numeral.1.0 in
    let mark : nat_eq 63 c ≡ false = grind (arith, nat_tests) in
    rw mark

number_star : (z : ℤ) (rest : List ℕ) → FitsSigned w128 z → starts_with nat_eq (signed_decimal z ++ rest) (codes "*") ≡ false
number_star (pos n) rest fits = plain_star (decimal n) rest (decimal_is_IsNumeral_wide n (omega (arith, wide (pos n) fits))).0
number_star (negsuc n) rest fits = refl

-- R is read back

-- the ends of a span, written
abbrev ends_text : ℤ → ℤ → List ℕ
ends_text low high = signed_decimal low ++ (codes ".." ++ (signed_decimal high ++ []))

ends_text_rest : (low high : ℤ) (rest : List ℕ) → ends_text low high ++ rest ≡ span_text low high rest
ends_text_rest low high rest = simp append_assoc

length_ends : (low high : ℤ) → length (ends_text low high) ≡ span_length low high
length_ends low high = simp length-append (omega arith)

star_back : (place : Place) (text rest : List ℕ) (at : ℕ) → drop at text ≡ codes "*" ++ rest → range_at place text at ≡ Ok (record { value = record { low = low_end place; high = high_end place }; end = at + 1 })
unfolding range_at
star_back place text rest at stands =
    let star : starts_with nat_eq (drop at text) (codes "*") ≡ true = ap (λ bs. starts_with nat_eq bs (codes "*")) stands in
    rw star

ends_back : (place : Place) (low high : ℤ) (text rest : List ℕ) (at : ℕ) → IsRange (record { place = place; low = low; high = high }) → NoDigitFirst rest → drop at text ≡ span_text low high rest
    → range_at place text at ≡ Ok (record { value = record { low = low; high = high }; end = at + length (ends_text low high) })
unfolding range_at
ends_back place low high text rest at range none stands =
    let fits : FitsSigned w128 low = within_fits place low range.0 (omega (arith, ints)) in
    let star : starts_with nat_eq (drop at text) (codes "*") ≡ false = ap (λ bs. starts_with nat_eq bs (codes "*")) stands ∙ number_star low (codes ".." ++ (signed_decimal high ++ rest)) fits in
    let whole : IsRange (whole_range place) = (omega (arith, ints), omega (arith, ints), omega (arith, ints)) in
    let end : at + length (signed_decimal low) + 2 + length (signed_decimal high) ≡ at + length (ends_text low high) = omega (arith, length_ends low high) in
    let span_read = span_back (whole_range place) at low high text rest at whole range.0 range.1 range.2 none stands in
    rw (star, span_read, end)

range_back : (place : Place) (low high : ℤ) (text rest : List ℕ) (at : ℕ) → IsRange (record { place = place; low = low; high = high }) → NoDigitFirst rest → drop at text ≡ range_text place low high ++ rest
    → range_at place text at ≡ Ok (record { value = record { low = low; high = high }; end = at + length (range_text place low high) })
range_back place low high text rest at range none stands = by_ends (int_eq low (low_end place)) (int_eq high (high_end place)) refl refl stands
  where
    numbers : drop at text ≡ ends_text low high ++ rest → range_at place text at ≡ Ok (record { value = record { low = low; high = high }; end = at + length (ends_text low high) })
    numbers stands = ends_back place low high text rest at range none (stands ∙ ends_text_rest low high rest)

    by_ends : (first last : Bool) → int_eq low (low_end place) ≡ first → int_eq high (high_end place) ≡ last → drop at text ≡ (if first && last then codes "*" ++ [] else ends_text low high) ++ rest
        → range_at place text at ≡ Ok (record { value = record { low = low; high = high }; end = at + length (if first && last then codes "*" ++ [] else ends_text low high) })
    by_ends false last first_is last_is stands = numbers stands
    by_ends true false first_is last_is stands = numbers stands
    by_ends true true first_is last_is stands =
        let from : low ≡ low_end place = (Decides-int_eq low (low_end place)).0 first_is in
        let to : high ≡ high_end place = (Decides-int_eq high (high_end place)).0 last_is in
        star_back place text rest at stands ∙ ap (λ z. Ok (record { value = record { low = z; high = high_end place }; end = at + 1 })) (sym from) ∙ ap (λ z. Ok (record { value = record { low = low; high = z }; end = at + 1 })) (sym to)

scalar_back : (place : Place) (low high : ℤ) (text rest : List ℕ) (at : ℕ) → IsRange (record { place = place; low = low; high = high }) → drop at text ≡ part_text (Scalar place low high) ++ rest
    → scalar_at place text at ≡ Ok (record { value = Scalar place low high; end = at + length (part_text (Scalar place low high)) })
unfolding scalar_at
scalar_back place low high text rest at range stands =
    let inside : List ℕ = range_text place low high in
    let apart : part_text (Scalar place low high) ++ rest ≡ codes "(" ++ (inside ++ (codes ")" ++ rest)) = ap (λ bs. codes "(" ++ bs) (append_assoc inside (codes ")") rest) in
    let open_read = expected (codes "(") (inside ++ (codes ")" ++ rest)) text at at (stands ∙ apart) in
    let inner : drop (at + 1) text ≡ inside ++ (codes ")" ++ rest) = rest_behind text (codes "(") (inside ++ (codes ")" ++ rest)) at (stands ∙ apart) in
    let range_read = range_back place low high text (codes ")" ++ rest) (at + 1) range refl inner in
    let last : drop (at + 1 + length inside) text ≡ codes ")" ++ rest = rest_behind text inside (codes ")" ++ rest) (at + 1) inner in
    let close_read = expected (codes ")") rest text (at + 1 + length inside) at last in
    let long : length (inside ++ codes ")") ≡ length inside + 1 = length-append inside (codes ")") in
    let end : at + 1 + length inside + 1 ≡ at + length (part_text (Scalar place low high)) = omega (arith, long) in
    rw (open_read, range_read, close_read, end)

lengths_text_rest : (from to : ℕ) (rest : List ℕ) → lengths_text from to ++ rest ≡ span_text (pos from) (pos to) (codes "x" ++ rest)
lengths_text_rest from to rest = simp append_assoc

length_lengths : (from to : ℕ) → length (lengths_text from to) ≡ span_length (pos from) (pos to) + 1
length_lengths from to = simp length-append (omega arith)

lengths_back : (group from to : ℕ) (text rest : List ℕ) (at : ℕ) → from ≤ to → to ≤ 64 → drop at text ≡ lengths_text from to ++ rest
    → lengths_at group text at ≡ Ok (record { value = record { from = from; to = to }; end = at + length (lengths_text from to) })
unfolding lengths_at
lengths_back group from to text rest at order few stands =
    let whole : drop at text ≡ span_text (pos from) (pos to) (codes "x" ++ rest) = stands ∙ lengths_text_rest from to rest in
    let span_read = span_back length_range group (pos from) (pos to) text (codes "x" ++ rest) at length_is_range (omega (arith, ints)) (omega (arith, ints)) (omega (arith, ints)) refl whole in
    let dots : drop (at + length (decimal from)) text ≡ codes ".." ++ (decimal to ++ (codes "x" ++ rest)) = rest_behind text (decimal from) (codes ".." ++ (decimal to ++ (codes "x" ++ rest))) at whole in
    let second : drop (at + length (decimal from) + 2) text ≡ decimal to ++ (codes "x" ++ rest) = rest_behind text (codes "..") (decimal to ++ (codes "x" ++ rest)) (at + length (decimal from)) dots in
    let last : drop (at + length (decimal from) + 2 + length (decimal to)) text ≡ codes "x" ++ rest = rest_behind text (decimal to) (codes "x" ++ rest) (at + length (decimal from) + 2) second in
    let x_read = expected (codes "x") rest text (at + length (decimal from) + 2 + length (decimal to)) group last in
    let end : at + length (decimal from) + 2 + length (decimal to) + 1 ≡ at + length (lengths_text from to) = omega (arith, length_lengths from to) in
    rw (span_read, x_read, end)

-- the `?` that says whether an array may be null is read back
null_back : (null : Bool) (digits rest text : List ℕ) (at : ℕ) → IsNumeral 10 digits → drop at text ≡ null_text null ++ (digits ++ rest) → null_at text at ≡ record { value = null; end = at + length (null_text null) }
null_back true digits rest text at numeral stands =
    let mark : starts_with nat_eq (drop at text) (codes "?") ≡ true = ap (λ bs. starts_with nat_eq bs (codes "?")) stands in
    rw mark
null_back false digits rest text at numeral stands =
    let mark : starts_with nat_eq (drop at text) (codes "?") ≡ false = ap (λ bs. starts_with nat_eq bs (codes "?")) stands ∙ plain_mark digits rest numeral in
    let end : at ≡ at + 0 = omega arith in
    rw mark (ap (λ n. record { value = false; end = n }) end)

-- what is written of an array behind its `(` and `?`
abbrev array_tail : Place → ℕ → ℕ → ℤ → ℤ → List ℕ
array_tail element from to low high = lengths_text from to ++ (range_text element low high ++ codes ")")

tail_back : (element : Place) (null : Bool) (from to group : ℕ) (low high : ℤ) (text rest : List ℕ) (at : ℕ) → from ≤ to → to ≤ 64 → IsRange (record { place = element; low = low; high = high })
    → drop at text ≡ array_tail element from to low high ++ rest
    → array_at element null group text at ≡ Ok (record { value = Array element null from to low high; end = at + length (array_tail element from to low high) })
unfolding array_at
tail_back element null from to group low high text rest at order few range stands =
    let lengths : List ℕ = lengths_text from to in
    let inside : List ℕ = range_text element low high in
    let apart : array_tail element from to low high ++ rest ≡ lengths ++ (inside ++ (codes ")" ++ rest)) = append_assoc lengths (inside ++ codes ")") rest ∙ ap (λ bs. lengths ++ bs) (append_assoc inside (codes ")") rest) in
    let lengths_read = lengths_back group from to text (inside ++ (codes ")" ++ rest)) at order few (stands ∙ apart) in
    let inner : drop (at + length lengths) text ≡ inside ++ (codes ")" ++ rest) = rest_behind text lengths (inside ++ (codes ")" ++ rest)) at (stands ∙ apart) in
    let range_read = range_back element low high text (codes ")" ++ rest) (at + length lengths) range refl inner in
    let last : drop (at + length lengths + length inside) text ≡ codes ")" ++ rest = rest_behind text inside (codes ")" ++ rest) (at + length lengths) inner in
    let close_read = expected (codes ")") rest text (at + length lengths + length inside) group last in
    let long : length (lengths ++ (inside ++ codes ")")) ≡ length lengths + (length inside + 1) = length-append lengths (inside ++ codes ")") ∙ ap (λ n. length lengths + n) (length-append inside (codes ")")) in
    let end : at + length lengths + length inside + 1 ≡ at + length (array_tail element from to low high) = omega (arith, long) in
    rw (lengths_read, range_read, close_read, end)

array_back : (element : Place) (null : Bool) (from to : ℕ) (low high : ℤ) (text rest : List ℕ) (at : ℕ) → IsPart (Array element null from to low high)
    → drop at text ≡ part_text (Array element null from to low high) ++ rest
    → group_at (given_in (Array element null from to low high)) text at ≡ Ok (record { value = Array element null from to low high; end = at + length (part_text (Array element null from to low high)) })
unfolding group_at
array_back element null from to low high text rest at is stands =
    let mark : List ℕ = null_text null in
    let tail : List ℕ = array_tail element from to low high in
    let behind : List ℕ = codes ".." ++ (decimal to ++ (codes "x" ++ (range_text element low high ++ (codes ")" ++ rest)))) in
    let apart : part_text (Array element null from to low high) ++ rest ≡ codes "(" ++ (mark ++ (tail ++ rest)) = ap (λ bs. codes "(" ++ bs) (append_assoc mark tail rest) in
    let numeral : tail ++ rest ≡ decimal from ++ behind = simp append_assoc in
    let open_read = expected (codes "(") (mark ++ (tail ++ rest)) text at at (stands ∙ apart) in
    let inner : drop (at + 1) text ≡ mark ++ (tail ++ rest) = rest_behind text (codes "(") (mark ++ (tail ++ rest)) at (stands ∙ apart) in
    let fits : FitsSigned w128 (pos from) = range_fits length_range (pos from) length_is_range (omega (arith, ints)) (omega (arith, ints)) in
    let null_read = null_back null (decimal from) behind text (at + 1) (decimal_is_IsNumeral_wide from (omega (arith, wide (pos from) fits))).0 (inner ∙ ap (λ bs. mark ++ bs) numeral) in
    let next : drop (at + 1 + length mark) text ≡ tail ++ rest = rest_behind text mark (tail ++ rest) (at + 1) inner in
    let tail_read = tail_back element null from to at low high text rest (at + 1 + length mark) is.0 is.1 is.3 next in
    let long : length (mark ++ tail) ≡ length mark + length tail = length-append mark tail in
    let end : at + 1 + length mark + length tail ≡ at + length (part_text (Array element null from to low high)) = omega (arith, long) in
    let value : Part = Array element null from to low high in
    rw open_read (ap (λ (mark : Read Bool). array_at element mark.value at text mark.end) null_read ∙ tail_read ∙ ap (λ n. Ok (record { value = value; end = n })) end)

group_back : (part : Part) (text rest : List ℕ) (at : ℕ) → IsPart part → drop at text ≡ part_text part ++ rest
    → group_at (given_in part) text at ≡ Ok (record { value = part; end = at + length (part_text part) })
unfolding group_at
group_back (Scalar place low high) text rest at is stands = scalar_back place low high text rest at is.1 stands
group_back (Array element null from to low high) text rest at is stands = array_back element null from to low high text rest at is stands

part_back : (part : Part) (words : ℕ) (text rest : List ℕ) (at : ℕ) → IsPart part → words + word_count part ≤ 256 → drop at text ≡ part_text part ++ rest
    → part_at (given_in part) words text at ≡ Ok (record { value = part; end = at + length (part_text part) })
unfolding part_at
part_back part words text rest at is few stands =
    let group = group_back part text rest at is stands in
    let within : nat_le (words + word_count part) 256 ≡ true = grind (arith, nat_tests) in
    rw (group, within)

groups_back : (parts : List Part) (words : ℕ) (text : List ℕ) (at : ℕ) → AllByRecursion IsPart parts → words + length (ranges_of parts) ≤ 256
    → drop at text ≡ flat_map part_text parts → length text ≡ at + length (flat_map part_text parts) → groups_at (map given_in parts) words text at ≡ Ok parts
unfolding groups_at
groups_back [] words text at each few stands long =
    let end : (at == length text) ≡ true = grind (arith, nat_tests) in
    rw end
groups_back (part ∷ parts) words text at each few stands long =
    let count : (words + word_count part) + length (ranges_of parts) ≤ 256 = subst (λ n. n ≤ 256) (sym (counted words part parts)) few in
    let group = part_back part words text (flat_map part_text parts) at each.0 (omega arith) stands in
    let more = groups_back parts (words + word_count part) text (at + length (part_text part)) each.1 count (rest_behind text (part_text part) (flat_map part_text parts) at stands) (omega (arith, long, length-append (part_text part) (flat_map part_text parts))) in
    rw (group, more)

domain_back : (params : List Given) (parts : List Part) → ArePartsOf params 0 parts → domain_of params (domain_text parts) ≡ Ok parts
unfolding domain_of
domain_back params parts are = subst (λ ps. domain_of ps (domain_text parts) ≡ Ok parts) are.same (by_parts parts are.each are.few)
  where
    by_parts : (parts : List Part) → AllByRecursion IsPart parts → 0 + length (ranges_of parts) ≤ 256 → domain_of (map given_in parts) (domain_text parts) ≡ Ok parts
    by_parts [] each few = refl
    by_parts (part ∷ parts) each few = groups_back (part ∷ parts) 0 (domain_text (part ∷ parts)) 0 each few refl (omega arith)

-- what a reading says of the domain that it gave
pub params_from_gives : (result : Result (List Part) DomainFault) (params : List Given) (text : List ℕ) → AllByRecursion IsGiven params → Gives result (domain_of params text) → IfOk result (λ parts. map given_in parts ≡ params)
params_from_gives (Ok parts) params text are gives = (domain_is params text parts are gives).same
params_from_gives (Err fault) params text are gives = tt

pub back_from_gives : (result : Result (List Part) DomainFault) (params : List Given) (text : List ℕ) → AllByRecursion IsGiven params → Gives result (domain_of params text)
    → IfOk result (λ parts. domain_of params (domain_text parts) ≡ Ok parts)
back_from_gives (Ok parts) params text are gives = domain_back params parts (domain_is params text parts are gives)
back_from_gives (Err fault) params text are gives = tt
