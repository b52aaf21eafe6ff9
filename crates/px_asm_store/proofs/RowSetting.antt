-- Vectors that are set at distinct numbers, each with what its place tells.
use Rattle.std.proofs.Common.{◌≡◌, ◌≢◌, ℕ, zero, suc, ◌+◌, ◌<◌, Bool, true, false, List, [], ◌∷◌, Some, length, get_or, sym, ap, ◌∙◌, subst, ⊎_elim, arith, eqb-true, eq-eqb, get_or-set_other, get_or-set_same}
use Rattle.std.specs.Prelude.{◌==◌, if◌then◌else◌, slice_get, slice_set}
use Rattle.std.specs.List.{IsDistinct}
use Rattle.std.proofs.lemmas.List.{length-set}
use Rattle.std.proofs.lemmas.Bool.{cases_Bool}
use Rattle.std.proofs.lemmas.Option.{get_or_from_slice_get, slice_get-get_or, slice_get_within}
use Rattle.px_link_methods.proofs.RowPlaces.{at_place_of}
use Rattle.px_meta.specs.Rows.{is_in}
use Rattle.px_link_methods.specs.Codes.{place_of}
use Rattle.px_program.proofs.Types.{each_at}
use Rattle.px_asm_store.specs.Kept.{HasRows}

-- DISTINCT NUMBERS

place_behind : (first other : ℕ) (numbers : List ℕ) (k : ℕ) → (first == other) ≡ false → place_of numbers other ≡ k → place_of (first ∷ numbers) other ≡ suc k
place_behind first other numbers k differs is =
    ap (λ (b : Bool). if b then 0 else 1 + place_of numbers other) differs ∙ (let more : 1 + place_of numbers other ≡ suc k = omega (arith, is) in more)

-- each number of a list of distinct ones stands at one place
pub only_place : (numbers : List ℕ) (k number : ℕ) → IsDistinct (λ one other. one == other) numbers → slice_get numbers k ≡ Some number → place_of numbers number ≡ k
unfolding IsDistinct
only_place [] k number distinct at = absurd (cc)
only_place (first ∷ numbers) zero number distinct at =
    let same : first ≡ number = cc in
    ap (λ (b : Bool). if b then 0 else 1 + place_of numbers number) (eq-eqb first number same)
only_place (first ∷ numbers) (suc k) number distinct at =
    place_behind first number numbers k (each_at (λ other. (first == other) ≡ false) numbers distinct.0 k number at) (only_place numbers k number distinct.1 at)

-- SETTING

-- at the numbers of the places before n, a vector has what the places tell
pub record AreSet (row : ℕ → ℕ) (numbers : List ℕ) (n : ℕ) (rows : List ℕ) : Type 0 where
  pub each : (k number : ℕ) → k < n → slice_get numbers k ≡ Some number → slice_get rows number ≡ Some (row k)

pub none_set : (row : ℕ → ℕ) (numbers rows : List ℕ) → AreSet row numbers 0 rows
none_set row numbers rows = record { each = λ k number less at. absurd (omega (arith, less)) }

set_there : (rows : List ℕ) (number value : ℕ) → number < length rows → slice_get (slice_set rows number value) number ≡ Some value
set_there rows number value within =
    let same = get_or-set_same rows number value 0 within in
    slice_get-get_or (slice_set rows number value) number 0 (omega (arith, within, length-set rows number value)) ∙ ap (λ v. Some v) same

set_elsewhere : (rows : List ℕ) (number value other row : ℕ) → other ≢ number → slice_get rows other ≡ Some row → slice_get (slice_set rows number value) other ≡ Some row
set_elsewhere rows number value other row differs at =
    let within = slice_get_within rows other row at in
    let same = get_or-set_other rows number other value 0 differs ∙ get_or_from_slice_get rows other row 0 at in
    slice_get-get_or (slice_set rows number value) other 0 (omega (arith, within, length-set rows number value)) ∙ ap (λ v. Some v) same

-- one more number is set
pub one_set : (row : ℕ → ℕ) (numbers rows : List ℕ) (n number value : ℕ) → IsDistinct (λ one other. one == other) numbers → slice_get numbers n ≡ Some number → number < length rows → value ≡ row n
    → AreSet row numbers n rows → AreSet row numbers (n + 1) (slice_set rows number value)
one_set row numbers rows n number value distinct at within is set = record {
  each = λ k other less at_k.
      ⊎_elim
      (λ same.
      let here : k ≡ n = eqb-true k n same in
      let both : Some other ≡ Some number = sym at_k ∙ ap (slice_get numbers) here ∙ at in
      let equal : other ≡ number = cc in
      subst (λ m. slice_get (slice_set rows number value) m ≡ Some (row k)) (sym equal) (set_there rows number value within ∙ ap (λ v. Some v) (is ∙ ap row (sym here))))
      (λ differs.
      let apart : k ≡ n → ⊥ = λ e. (let same = eq-eqb k n e in absurd (cc)) in
      let before : k < n = omega (arith, apart, less) in
      let elsewhere : other ≢ number = λ equal. apart (sym (only_place numbers k other distinct at_k) ∙ ap (place_of numbers) equal ∙ only_place numbers n number distinct at) in
      set_elsewhere rows number value other (row k) elsewhere (set.each k other before at_k))
      (cases_Bool (k == n));
}

-- all numbers are set
pub all_set : (row : ℕ → ℕ) (numbers rows : List ℕ) → AreSet row numbers (length numbers) rows → HasRows (λ number. is_in numbers number ≡ true) (λ number. row (place_of numbers number)) rows
all_set row numbers rows set number there =
    let at = at_place_of numbers number there in
    set.each (place_of numbers number) number (slice_get_within numbers (place_of numbers number) number at) at

-- what stands at a number of a vector is what is read there
pub row_at : (rows : List ℕ) (number row read : ℕ) → slice_get rows number ≡ Some row → read ≡ get_or rows number read → read ≡ row
row_at rows number row read at is = is ∙ get_or_from_slice_get rows number row read at
