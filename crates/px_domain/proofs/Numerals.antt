-- Decimals: they are read back as their number.
use Rattle.std.proofs.Common.{◌≡◌, ℕ, suc, ◌+◌, ◌<◌, ◌^◌, ◌==◌, List, [], ◌∷◌, Bool, true, false, Some, None, refl, sym, ap, ◌∙◌, subst, arith, ℤ, pos, negsuc, neg_ℤ, ◌≤ℤ◌, if◌then◌else◌, FitsSigned}
use Rattle.std.specs.Int.{w128, IsInRange}
use lib.Signed.{mag}
use Rattle.std.specs.Prelude.{Result, Ok, Err, MatchResult}
use Rattle.std.specs.Result.{result_ok}
use Rattle.std.specs.Fmt.{decimal, signed_decimal}
use Rattle.std.specs.Str.{IsAscii, bytes_eq}
use Rattle.std.specs.Str.Parse.{IsNumeral, ParsesSigned, digits_value, signed_digits_value, without_leading_sign}
use Rattle.std.proofs.lemmas.Bool.Decides.{nat_tests}
use Rattle.std.proofs.lemmas.Fmt.{decimal_is_IsNumeral_wide, IsAscii-from_digits}
use Rattle.std.proofs.lemmas.Int.{ints}
use Rattle.std.proofs.lemmas.Slice.Eq.{bytes_eq-Decides}
use Rattle.std.proofs.lemmas.Str.Ascii.{IsAscii-cons}
use Rattle.std.proofs.lemmas.Str.Parse.{digit_at}
use Rattle.px_program.specs.declared.program.Place.{Place}
use Rattle.px_program.specs.declared.program.Place.TheVariants as places
use Rattle.px_domain.specs.declared.range.Range.{Range}
use Rattle.px_domain.specs.Domain.{IsRange}
use Rattle.px_domain.specs.Place.{low_end, high_end}
use Rattle.px_domain.specs.Grammar.{in_range, is_in, number_of_text}

-- the text is a number's decimal, and `parse` reads it
pub record IsWritten (number : ℤ) (text : List ℕ) : Type 0 where
  pub numeral : IsNumeral 10 (without_leading_sign text)
  pub value : signed_digits_value 10 text ≡ number
  pub ascii : IsAscii text

plain : (digits : List ℕ) → IsNumeral 10 digits → (without_leading_sign digits ≡ digits) × (signed_digits_value 10 digits ≡ pos (digits_value 10 digits))
plain [] numeral = absurd (omega arith)
plain (c ∷ digits) numeral = let first : IsInRange 48 57 c = digit_at (c ∷ digits) 0 numeral.1 (omega arith) in
    let minus : (c == 45) ≡ false = grind (arith, nat_tests) in
    let plus : (c == 43) ≡ false = grind (arith, nat_tests) in
    (rw (minus, plus), rw (minus, plus))

pub wide : (z : ℤ) → FitsSigned w128 z → mag z + 1 < 10 ^ 64
wide z fits = omega (arith, fits.sfits)

pub written : (z : ℤ) → FitsSigned w128 z → IsWritten z (signed_decimal z)
written (pos n) fits =
    let is : IsNumeral 10 (decimal n) × (digits_value 10 (decimal n) ≡ n) = decimal_is_IsNumeral_wide n (omega (arith, wide (pos n) fits)) in
    let same : (without_leading_sign (decimal n) ≡ decimal n) × (signed_digits_value 10 (decimal n) ≡ pos (digits_value 10 (decimal n))) = plain (decimal n) is.0 in
    record {
      numeral = subst (λ digits. IsNumeral 10 digits) (sym same.0) is.0;
      value = same.1 ∙ ap pos is.1;
      ascii = IsAscii-from_digits (decimal n) is.0.1;
    }
written (negsuc n) fits =
    let is : IsNumeral 10 (decimal (suc n)) × (digits_value 10 (decimal (suc n)) ≡ suc n) = decimal_is_IsNumeral_wide (suc n) (omega (arith, wide (negsuc n) fits)) in
    record {
      numeral = is.0;
      value = ap (λ m. neg_ℤ (pos m)) is.1;
      ascii = IsAscii-cons 45 (decimal (suc n)) (omega arith) (IsAscii-from_digits (decimal (suc n)) is.0.1);
    }

pub within_fits : (place : Place) (z : ℤ) → low_end place ≤ℤ z → z ≤ℤ high_end place → FitsSigned w128 z
within_fits places.Bool z low high = omega (arith, ints)
within_fits places.Char z low high = omega (arith, ints)
within_fits places.I1 z low high = omega (arith, ints)
within_fits places.U1 z low high = omega (arith, ints)
within_fits places.I2 z low high = omega (arith, ints)
within_fits places.U2 z low high = omega (arith, ints)
within_fits places.I4 z low high = omega (arith, ints)
within_fits places.U4 z low high = omega (arith, ints)
within_fits places.I8 z low high = omega (arith, ints)
within_fits places.U8 z low high = omega (arith, ints)
within_fits places.N z low high = omega (arith, ints)
within_fits places.UN z low high = omega (arith, ints)
within_fits (places.Ref class) z low high = omega (arith, ints)

between : (first low z high last : ℤ) → first ≤ℤ low → low ≤ℤ z → z ≤ℤ high → high ≤ℤ last → (first ≤ℤ z) × (z ≤ℤ last)
between first low z high last a b c d = (omega (arith, ints), omega (arith, ints))

pub range_fits : (range : Range) (z : ℤ) → IsRange range → range.low ≤ℤ z → z ≤ℤ range.high → FitsSigned w128 z
range_fits range z is low high =
    let ends : (low_end range.place ≤ℤ z) × (z ≤ℤ high_end range.place) = between (low_end range.place) range.low z range.high (high_end range.place) is.0 low high is.2 in
    within_fits range.place z ends.0 ends.1

pub within_ends : (range : Range) (z : ℤ) → is_in range z ≡ true → (range.low ≤ℤ z) × (z ≤ℤ range.high)
within_ends range z is = (grind (arith, ints), grind (arith, ints))

-- a text that `parse` refuses is of no number of a range
no_number : (range : Range) (text : List ℕ) (z : ℤ) (same within : Bool) → IsRange range → same ≡ bytes_eq (signed_decimal z) text → within ≡ is_in range z
    → (IsWritten z text → FitsSigned w128 z → ⊥) → in_range range None ≡ in_range range (if same then Some z else None)
no_number range text z false within ranged same_is within_is refused = refl
no_number range text z true false ranged same_is within_is refused = ap (λ within. if within then Some z else None) within_is
no_number range text z true true ranged same_is within_is refused =
    let ends : (range.low ≤ℤ z) × (z ≤ℤ range.high) = within_ends range z (sym within_is) in
    let fits : FitsSigned w128 z = range_fits range z ranged ends.0 ends.1 in
    let same : signed_decimal z ≡ text = (bytes_eq-Decides (signed_decimal z) text).0 (sym same_is) in
    absurd (refused (subst (λ bs. IsWritten z bs) same (written z fits)) fits)

pub refused_number : (range : Range) (text : List ℕ) → IsRange range → (IsWritten (signed_digits_value 10 text) text → FitsSigned w128 (signed_digits_value 10 text) → ⊥) → in_range range None ≡ in_range range (number_of_text text)
refused_number range text ranged refused = no_number range text (signed_digits_value 10 text) (bytes_eq (signed_decimal (signed_digits_value 10 text)) text) (is_in range (signed_digits_value 10 text)) ranged refl refl refused

-- what `ok` made None was an error
pub not_ok : {T E : Type 0} (r : Result T E) (P : T → Type 0) (Q : E → Type 0) → None ≡ result_ok r → MatchResult r P Q → (e : E) × Q e
not_ok (Ok x) P Q none cases = absurd (cc)
not_ok (Err e) P Q none cases = (e, cases)

pub not_parsed : {E : Type 0} (r : Result ℤ E) (text read : List ℕ) → None ≡ result_ok r → ParsesSigned w128 10 read r → read ≡ text → IsNumeral 10 (without_leading_sign text) → FitsSigned w128 (signed_digits_value 10 text) → ⊥
not_parsed (Ok x) text read none parses same numeral fits = absurd (cc)
not_parsed (Err e) text read none parses same numeral fits =
    let P : List ℕ → Type 0 = λ bs. IsNumeral 10 (without_leading_sign bs) × FitsSigned w128 (signed_digits_value 10 bs) in
    parses (subst P (sym same) (numeral, fits))
