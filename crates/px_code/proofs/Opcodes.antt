-- What follows the opcodes of an interval, all of which have it alike.
use Rattle.std.proofs.Common.{◌≡◌, ℕ, ◌≤◌, List, [], ◌∷◌, Some, None, Bool, true, refl, sym, ◌∙◌, arith}
use Rattle.std.specs.Prelude.{nat_lt, nat_le, ◌==◌, ◌&&◌, ◌||◌}
use Rattle.std.proofs.lemmas.Bool.{and_parts}
use Rattle.std.specs.List.{list_all}
use Rattle.std.proofs.lemmas.Bool.Decides.{nat_tests}
use Rattle.px_code.specs.Body.{is_among, is_from_to, operand_of, with_byte, with_eight_bytes, with_four_bytes, with_long_target, with_short_target, with_token, with_two_bytes, without_operand}
use Rattle.px_code.specs.declared.body.Operand.TheVariants.{Number, Target}

-- a range has all of the interval or none of it
abbrev is_apart : ℕ → ℕ → ℕ × ℕ → Bool
is_apart low high range = nat_lt high range.0 || nat_lt range.1 low || nat_le range.0 low && nat_le high range.1

-- each range does
abbrev is_steady : ℕ → ℕ → List (ℕ × ℕ) → Bool
is_steady low high [] = true
is_steady low high (range ∷ ranges) = is_apart low high range && is_steady low high ranges

alike : (low high n first last : ℕ) → is_apart low high (first, last) ≡ true → low ≤ n → n ≤ high → is_from_to first last n ≡ is_from_to first last low
alike low high n first last apart ge le = grind (arith, nat_tests)

alike_all : (low high n : ℕ) (ranges : List (ℕ × ℕ)) → is_steady low high ranges ≡ true → low ≤ n → n ≤ high → is_among ranges n ≡ is_among ranges low
alike_all low high n [] steady ge le = refl
alike_all low high n (range ∷ ranges) steady ge le =
    let parts = and_parts (is_apart low high range) (is_steady low high ranges) steady in
    rw (alike low high n range.0 range.1 parts.0 ge le, alike_all low high n ranges parts.1 ge le) refl

-- the kinds of opcodes
abbrev kinds : List (List (ℕ × ℕ))
kinds =
    without_operand ∷ with_byte ∷ with_two_bytes ∷ with_four_bytes ∷ with_token ∷ with_eight_bytes ∷ with_short_target ∷ with_long_target
    ∷ ((0x45, 0x45) ∷ []) ∷ []

is_switch : (n : ℕ) → (n == 0x45) ≡ is_among ((0x45, 0x45) ∷ []) n
is_switch n = grind (arith, nat_tests)

-- no kind has only a part of the interval
as_first : (low high n : ℕ) → list_all (is_steady low high) kinds ≡ true → low ≤ n → n ≤ high → operand_of low ≡ operand_of n
unfolding operand_of
as_first low high n steady ge le =
    let a = and_parts (is_steady low high without_operand) _ steady in
    let b = and_parts (is_steady low high with_byte) _ a.1 in
    let c = and_parts (is_steady low high with_two_bytes) _ b.1 in
    let d = and_parts (is_steady low high with_four_bytes) _ c.1 in
    let e = and_parts (is_steady low high with_token) _ d.1 in
    let f = and_parts (is_steady low high with_eight_bytes) _ e.1 in
    let g = and_parts (is_steady low high with_short_target) _ f.1 in
    let h = and_parts (is_steady low high with_long_target) _ g.1 in
    let i = and_parts (is_steady low high ((0x45, 0x45) ∷ [])) _ h.1 in
    rw (
      alike_all low high n without_operand a.0 ge le,
      alike_all low high n with_byte b.0 ge le,
      alike_all low high n with_two_bytes c.0 ge le,
      alike_all low high n with_four_bytes d.0 ge le,
      alike_all low high n with_token e.0 ge le,
      alike_all low high n with_eight_bytes f.0 ge le,
      alike_all low high n with_short_target g.0 ge le,
      alike_all low high n with_long_target h.0 ge le,
      is_switch n ∙ alike_all low high n ((0x45, 0x45) ∷ []) i.0 ge le ∙ sym (is_switch low),
    ) refl

pub none_24 : (n : ℕ) → 0x24 ≤ n → n ≤ 0x24 → None ≡ operand_of n
unfolding operand_of
none_24 n = as_first 0x24 0x24 n refl

pub none_77 : (n : ℕ) → 0x77 ≤ n → n ≤ 0x78 → None ≡ operand_of n
unfolding operand_of
none_77 n = as_first 0x77 0x78 n refl

pub none_A6 : (n : ℕ) → 0xA6 ≤ n → n ≤ 0xB2 → None ≡ operand_of n
unfolding operand_of
none_A6 n = as_first 0xA6 0xB2 n refl

pub none_BB : (n : ℕ) → 0xBB ≤ n → n ≤ 0xC1 → None ≡ operand_of n
unfolding operand_of
none_BB n = as_first 0xBB 0xC1 n refl

pub none_C4 : (n : ℕ) → 0xC4 ≤ n → n ≤ 0xC5 → None ≡ operand_of n
unfolding operand_of
none_C4 n = as_first 0xC4 0xC5 n refl

pub none_C7 : (n : ℕ) → 0xC7 ≤ n → n ≤ 0xCF → None ≡ operand_of n
unfolding operand_of
none_C7 n = as_first 0xC7 0xCF n refl

pub none_E1 : (n : ℕ) → 0xE1 ≤ n → n ≤ 0xFDFF → None ≡ operand_of n
unfolding operand_of
none_E1 n = as_first 0xE1 0xFDFF n refl

pub none_FE08 : (n : ℕ) → 0xFE08 ≤ n → n ≤ 0xFE08 → None ≡ operand_of n
unfolding operand_of
none_FE08 n = as_first 0xFE08 0xFE08 n refl

pub none_FE10 : (n : ℕ) → 0xFE10 ≤ n → n ≤ 0xFE10 → None ≡ operand_of n
unfolding operand_of
none_FE10 n = as_first 0xFE10 0xFE10 n refl

pub none_FE1B : (n : ℕ) → 0xFE1B ≤ n → n ≤ 0xFE1B → None ≡ operand_of n
unfolding operand_of
none_FE1B n = as_first 0xFE1B 0xFE1B n refl

pub none_FE1F : (n : ℕ) → 0xFE1F ≤ n → n ≤ 0xFFFF → None ≡ operand_of n
unfolding operand_of
none_FE1F n = as_first 0xFE1F 0xFFFF n refl

pub four_20 : (n : ℕ) → 0x20 ≤ n → n ≤ 0x20 → Some (Number 4) ≡ operand_of n
unfolding operand_of
four_20 n = as_first 0x20 0x20 n refl

pub four_22 : (n : ℕ) → 0x22 ≤ n → n ≤ 0x22 → Some (Number 4) ≡ operand_of n
unfolding operand_of
four_22 n = as_first 0x22 0x22 n refl

pub four_27 : (n : ℕ) → 0x27 ≤ n → n ≤ 0x29 → Some (Number 4) ≡ operand_of n
unfolding operand_of
four_27 n = as_first 0x27 0x29 n refl

pub four_6F : (n : ℕ) → 0x6F ≤ n → n ≤ 0x75 → Some (Number 4) ≡ operand_of n
unfolding operand_of
four_6F n = as_first 0x6F 0x75 n refl

pub four_79 : (n : ℕ) → 0x79 ≤ n → n ≤ 0x79 → Some (Number 4) ≡ operand_of n
unfolding operand_of
four_79 n = as_first 0x79 0x79 n refl

pub four_7B : (n : ℕ) → 0x7B ≤ n → n ≤ 0x81 → Some (Number 4) ≡ operand_of n
unfolding operand_of
four_7B n = as_first 0x7B 0x81 n refl

pub four_8C : (n : ℕ) → 0x8C ≤ n → n ≤ 0x8D → Some (Number 4) ≡ operand_of n
unfolding operand_of
four_8C n = as_first 0x8C 0x8D n refl

pub four_8F : (n : ℕ) → 0x8F ≤ n → n ≤ 0x8F → Some (Number 4) ≡ operand_of n
unfolding operand_of
four_8F n = as_first 0x8F 0x8F n refl

pub four_A3 : (n : ℕ) → 0xA3 ≤ n → n ≤ 0xA5 → Some (Number 4) ≡ operand_of n
unfolding operand_of
four_A3 n = as_first 0xA3 0xA5 n refl

pub four_C2 : (n : ℕ) → 0xC2 ≤ n → n ≤ 0xC2 → Some (Number 4) ≡ operand_of n
unfolding operand_of
four_C2 n = as_first 0xC2 0xC2 n refl

pub four_C6 : (n : ℕ) → 0xC6 ≤ n → n ≤ 0xC6 → Some (Number 4) ≡ operand_of n
unfolding operand_of
four_C6 n = as_first 0xC6 0xC6 n refl

pub four_D0 : (n : ℕ) → 0xD0 ≤ n → n ≤ 0xD0 → Some (Number 4) ≡ operand_of n
unfolding operand_of
four_D0 n = as_first 0xD0 0xD0 n refl

pub four_FE06 : (n : ℕ) → 0xFE06 ≤ n → n ≤ 0xFE07 → Some (Number 4) ≡ operand_of n
unfolding operand_of
four_FE06 n = as_first 0xFE06 0xFE07 n refl

pub four_FE15 : (n : ℕ) → 0xFE15 ≤ n → n ≤ 0xFE16 → Some (Number 4) ≡ operand_of n
unfolding operand_of
four_FE15 n = as_first 0xFE15 0xFE16 n refl

pub four_FE1C : (n : ℕ) → 0xFE1C ≤ n → n ≤ 0xFE1C → Some (Number 4) ≡ operand_of n
unfolding operand_of
four_FE1C n = as_first 0xFE1C 0xFE1C n refl

pub short_2B : (n : ℕ) → 0x2B ≤ n → n ≤ 0x37 → Some (Target 1) ≡ operand_of n
unfolding operand_of
short_2B n = as_first 0x2B 0x37 n refl

pub short_DE : (n : ℕ) → 0xDE ≤ n → n ≤ 0xDE → Some (Target 1) ≡ operand_of n
unfolding operand_of
short_DE n = as_first 0xDE 0xDE n refl

pub long_38 : (n : ℕ) → 0x38 ≤ n → n ≤ 0x44 → Some (Target 4) ≡ operand_of n
unfolding operand_of
long_38 n = as_first 0x38 0x44 n refl

pub long_DD : (n : ℕ) → 0xDD ≤ n → n ≤ 0xDD → Some (Target 4) ≡ operand_of n
unfolding operand_of
long_DD n = as_first 0xDD 0xDD n refl

pub ruleset operands = (none_24, none_77, none_A6, none_BB, none_C4, none_C7, none_E1, none_FE08, none_FE10, none_FE1B, none_FE1F, four_20, four_22, four_27, four_6F, four_79, four_7B, four_8C, four_8F, four_A3, four_C2, four_C6, four_D0, four_FE06, four_FE15, four_FE1C, short_2B, short_DE, long_38, long_DD)
