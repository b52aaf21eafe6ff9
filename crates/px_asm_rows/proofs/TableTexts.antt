-- Texts that heaps of strings can have.
use Rattle.std.proofs.Common.{◌≡◌, ◌≢◌, ℕ, zero, suc, ◌+◌, ◌<◌, ◌^◌, Bool, true, List, [], ◌∷◌, ◌++◌, length, take, drop, subst, arith, decimal}
use Rattle.std.specs.Prelude.{nat_lt, ◌&&◌, slice_index}
use Rattle.std.specs.List.{AllByRecursion, list_all}
use Rattle.std.specs.Char.{digit_value}
use Rattle.std.specs.Str.Parse.{AllDigits}
use Rattle.std.proofs.lemmas.Fmt.{decimal_is_IsNumeral}
use Rattle.std.specs.Str.{IsAscii}
use Rattle.std.proofs.lemmas.Bool.{and_parts, ltb-true}
use Rattle.std.proofs.lemmas.List.Elements.{All-append, All-drop, All-from_recursion, All-take}
use Rattle.std.proofs.lemmas.Str.{IsUtf8-append, IsUtf8-drop, IsUtf8-from_ascii, IsUtf8-take, IsCharBoundary-after_ascii}
use Rattle.px_asm_described.specs.Writable.{IsText}

-- a byte of ASCII that is no zero
abbrev pub is_plain : ℕ → Bool
is_plain byte = nat_lt 0 byte && nat_lt byte 128

no_zeros : (text : List ℕ) → list_all is_plain text ≡ true → AllByRecursion (λ byte. byte ≢ 0) text
no_zeros [] plain = tt
no_zeros (byte ∷ text) plain =
    let both = and_parts (is_plain byte) (list_all is_plain text) plain in
    let some : 0 < byte = ltb-true 0 byte (and_parts (nat_lt 0 byte) (nat_lt byte 128) both.0).0 in
    ((λ e. omega arith), no_zeros text both.1)

few : (text : List ℕ) → list_all is_plain text ≡ true → (i : ℕ) → slice_index text i < 128
few [] plain i = omega arith
few (byte ∷ text) plain zero =
    let both = and_parts (is_plain byte) (list_all is_plain text) plain in
    ltb-true byte 128 (and_parts (nat_lt 0 byte) (nat_lt byte 128) both.0).1
few (byte ∷ text) plain (suc i) = few text (and_parts (is_plain byte) (list_all is_plain text) plain).1 i

pub table_plain_text : (text : List ℕ) → list_all is_plain text ≡ true → IsText text
table_plain_text text plain = record {
  no_zero = All-from_recursion (λ byte. byte ≢ 0) text (no_zeros text plain);
  utf8 = IsUtf8-from_ascii text (few text plain);
}

pub table_text_append : (front back : List ℕ) → IsText front → IsText back → IsText (front ++ back)
table_text_append front back first second = record {
  no_zero = All-append (λ byte. byte ≢ 0) front back first.no_zero second.no_zero;
  utf8 = IsUtf8-append front back first.utf8 second.utf8;
}

-- what stands before a byte of ASCII
pub table_text_before : (text : List ℕ) (at : ℕ) → at < length text → slice_index text at ≡ 46 → IsText text → IsText (take at text)
table_text_before text at within dot is = record {
  no_zero = All-take (λ byte. byte ≢ 0) at text is.no_zero;
  utf8 = IsUtf8-take text at is.utf8 (omega arith, λ less high. omega (arith, dot));
}

-- what stands behind one
pub table_text_behind : (text : List ℕ) (at : ℕ) → at < length text → slice_index text at ≡ 46 → IsText text → IsText (drop (at + 1) text)
table_text_behind text at within dot is = record {
  no_zero = All-drop (λ byte. byte ≢ 0) (at + 1) text is.no_zero;
  utf8 = IsUtf8-drop text (at + 1) is.utf8 (IsCharBoundary-after_ascii text at is.utf8 within (omega (arith, dot)));
}

digits_some : (text : List ℕ) → AllDigits 10 text → AllByRecursion (λ byte. byte ≢ 0) text
digits_some [] digits = tt
digits_some (c ∷ text) digits = ((λ e. (let bad : digit_value 0 < 10 = subst (λ d. digit_value d < 10) e digits.0 in omega (arith, bad))), digits_some text digits.1)

-- the decimal digits of a number
pub table_digits : (n : ℕ) → n < 2 ^ 64 → IsAscii (decimal n) → IsText (decimal n)
table_digits n fits ascii = record {
  no_zero = All-from_recursion (λ byte. byte ≢ 0) (decimal n) (digits_some (decimal n) (decimal_is_IsNumeral n fits).0.1);
  utf8 = IsUtf8-from_ascii (decimal n) ascii;
}
