-- A chain that ends is no longer than there are types.
use Rattle.std.proofs.Common.{◌≡◌, ◌≢◌, ◌⊎◌, ℕ, zero, suc, ◌-◌, ◌*◌, ◌<◌, ◌≤◌, Bool, true, false, cond, List, [], ◌∷◌, length, get_or, set, replicate, Option, Some, refl, sym, ap, ◌∙◌, subst, inl, inr, ⊎_elim, arith, get_or-set_other, length-set}
use Rattle.std.specs.Prelude.{count_by}
use Rattle.std.proofs.lemmas.List.Folds.{sum_by-replicate}
use Rattle.std.proofs.lemmas.List.Sums.{sum_by-set}
use Rattle.px_tables.specs.Metadata.{View}
use Rattle.px_meta.specs.Chains.{Ends, GoesOn, IsChain}
use Rattle.px_meta.specs.Rows.{IsRow, count_of, type_defs}
use Rattle.px_meta.proofs.Verdicts.{Stays}

unique : (next : ℕ → Option ℕ) (row : ℕ) (xs ys : List ℕ) → IsChain next row xs → IsChain next row ys → xs ≡ ys
unique next row [] [] _ _ = refl
unique next row [] (y ∷ ys) (Ends _ none) (GoesOn _ _ _ on chain) = absurd (cc)
unique next row (x ∷ xs) [] (GoesOn _ _ _ on chain) (Ends _ none) = absurd (cc)
unique next row (x ∷ xs) (y ∷ ys) (GoesOn _ _ _ on chain) (GoesOn _ _ _ other_on other) =
    let same : x ≡ y = cc in
    let rest : xs ≡ ys = unique next x xs ys chain (subst (λ n. IsChain next n ys) (sym same) other) in
    cc

abbrev In : ℕ → List ℕ → Type 0
In x [] = ⊥
In x (y ∷ ys) = (x ≡ y) ⊎ In x ys

suffix : (next : ℕ → Option ℕ) (row : ℕ) (xs : List ℕ) (y : ℕ) → IsChain next row xs → In y xs → (s : List ℕ) × IsChain next y s × (length s < length xs)
suffix next row [] y chain within = absurd within
suffix next row (x ∷ xs) y (GoesOn _ _ _ on chain) within =
    ⊎_elim
    (λ e. (xs, subst (λ n. IsChain next n xs) (sym e) chain, omega arith))
    (λ later. let s = suffix next x xs y chain later in (s.0, s.1, omega (arith, s.2)))
    within

not_again : (next : ℕ → Option ℕ) (row : ℕ) (xs : List ℕ) → IsChain next row xs → In row xs → ⊥
not_again next row xs chain within =
    let s = suffix next row xs row chain within in
    let e = unique next row s.0 xs s.1 chain in
    omega (arith, s.2, ap length e)

-- each type of a chain has a mark of its own
marked : (next : ℕ → Option ℕ) (row : ℕ) (xs : List ℕ) (marks : List Bool) → IsChain next row xs → ((y : ℕ) → In y xs → (1 ≤ y) × (y ≤ length marks) × (get_or marks (y - 1) false ≡ true)) → length xs ≤ count_by (λ b. b) marks
marked next row [] marks chain free = omega arith
marked next row (x ∷ xs) marks (GoesOn _ _ _ on chain) free =
    let here = free x (inl refl) in
    let some : 1 ≤ x = here.0 in
    let few : x ≤ length marks = here.1 in
    let fewer = sum_by-set (λ (b : Bool). cond {A = ℕ} b 1 0) marks (x - 1) false false (omega arith) in
    let one : ◌≡◌ {A = ℕ} (cond (get_or marks (x - 1) false) 1 0) 1 = ap (λ b. cond b 1 0) here.2 in
    let size = length-set marks (x - 1) false in
    let rest = marked next x xs (set marks (x - 1) false) chain (λ y later.
    let there = free y (inr later) in
    let from : 1 ≤ y = there.0 in
    let other : y ≢ x = λ e. not_again next x xs chain (subst (λ n. In n xs) e later) in
    (there.0, omega (arith, there.1), get_or-set_other marks (x - 1) (y - 1) false false (λ e. other (omega arith)) ∙ there.2)) in
    omega arith

all_marked : (n : ℕ) → count_by (λ b. b) (replicate n true) ≡ n
all_marked n = let e : n * 1 ≡ n = omega arith in sum_by-replicate (λ (b : Bool). cond {A = ℕ} b 1 0) n true ∙ e

has_mark : (n k : ℕ) → k < n → get_or (replicate n true) k false ≡ true
has_mark zero k less = absurd (omega arith)
has_mark (suc n) zero less = refl
has_mark (suc n) (suc k) less = has_mark n k (omega arith)

length-marks : (n : ℕ) → length (replicate n true) ≡ n
length-marks zero = refl
length-marks (suc n) = let e = length-marks n in omega arith

row_in_chain : (v : View) (next : ℕ → Option ℕ) (row : ℕ) (xs : List ℕ) (y : ℕ) → Stays v next → IsChain next row xs → In y xs → IsRow v type_defs y
row_in_chain v next row [] y stays chain within = absurd within
row_in_chain v next row (x ∷ xs) y stays (GoesOn _ _ _ on chain) within =
    ⊎_elim (λ e. stays row y (on ∙ ap (λ n. Some n) (sym e))) (λ later. row_in_chain v next x xs y stays chain later) within

pub no_longer : (v : View) (next : ℕ → Option ℕ) (row : ℕ) (xs : List ℕ) → Stays v next → IsChain next row xs → length xs ≤ count_of v type_defs
no_longer v next row xs stays chain =
    let most = marked next row xs (replicate (count_of v type_defs) true) chain (λ y within.
    let is = row_in_chain v next row xs y stays chain within in
    (is.some, subst (λ n. y ≤ n) (sym (length-marks (count_of v type_defs))) is.few, has_mark (count_of v type_defs) (y - 1) (omega (arith, is.some, is.few)))) in
    omega (arith, most, all_marked (count_of v type_defs))
