-- The number that a list of literals spells: of parts, of complements, of one literal repeated, and of a shift.
use Rattle.std.proofs.Common.{◌≡◌, ℕ, zero, suc, ◌+◌, ◌*◌, ◌/◌, ◌%◌, ◌^◌, ◌<◌, ◌≤◌, Bool, true, false, not, List, [], ◌∷◌, ◌++◌, length, map, take, drop, refl, sym, ap, ap₂, ◌∙◌, subst, arith, length-take}
use Rattle.std.specs.Prelude.{replicate}
use Rattle.std.proofs.Math.Nat.{pow-suc}
use Rattle.std.proofs.lemmas.List.{length-replicate, take-append-drop}
use Rattle.std.proofs.lemmas.Nat.{div-mul-add, mod-mul-add}
use Rattle.px_chain.specs.Clause.{Valuation, IsOver, holds}
use Rattle.px_gates.specs.Circuit.{Agree}
use Rattle.px_gates.specs.Spelling.{bit, complements, spelled}
use Rattle.px_gates.proofs.Literals.{holds-agree, holds-complement}

bit-not : (b : Bool) → bit (not b) + bit b ≡ 1
bit-not true = refl
bit-not false = refl

pub bit-small : (b : Bool) → bit b ≤ 1
bit-small true = omega arith
bit-small false = omega arith

take_length : (k : ℕ) (xs : List ℕ) → k ≤ length xs → length (take k xs) ≡ k
take_length k xs le = simp length-take (omega arith)

repeat_step : (s b p q : ℕ) → q ≡ p * 2 → s + b ≡ b * p → b + 2 * s + b ≡ b * q
repeat_step s b p q e f = rw e (omega arith)

none : (s b p : ℕ) → b ≡ 0 → s + b ≡ b * p → s ≡ 0
none s b p e f = let g : s + 0 ≡ 0 * p = subst (λ c. s + c ≡ c * p) e f in omega arith

every : (s b p : ℕ) → b ≡ 1 → s + b ≡ b * p → s + 1 ≡ p
every s b p e f = let g : s + 1 ≡ 1 * p = subst (λ c. s + c ≡ c * p) e f in omega arith

zero_add : (n : ℕ) → 0 + n ≡ n
zero_add n = omega arith

add_nothing : (s p : ℕ) → s + p * 0 ≡ s
add_nothing s p = omega arith

same_digit : (u v : Bool) (m n : ℕ) → bit u + 2 * m ≡ bit v + 2 * n → (u ≡ v) × (m ≡ n)
same_digit true true m n e = (refl, omega arith)
same_digit true false m n e = absurd (omega arith)
same_digit false true m n e = absurd (omega arith)
same_digit false false m n e = (refl, omega arith)

-- ---- parts

append_step : (b s p y q r : ℕ) → q ≡ p * 2 → r ≡ s + p * y → b + 2 * r ≡ b + 2 * s + q * y
append_step b s p y q r e f = rw (e, f) (omega arith)

-- two parts, of which the second has the higher bits
pub spelled-append : (a : Valuation) (xs ys : List ℕ) → spelled a (xs ++ ys) ≡ spelled a xs + 2 ^ length xs * spelled a ys
spelled-append a [] ys = omega arith
spelled-append a (x ∷ xs) ys =
    append_step (bit (holds a x)) (spelled a xs) (2 ^ length xs) (spelled a ys) (2 ^ suc (length xs)) (spelled a (xs ++ ys)) (pow-suc 2 (length xs)) (spelled-append a xs ys)

-- one more bit at the top
pub spelled-push : (a : Valuation) (xs : List ℕ) (l : ℕ) → spelled a (xs ++ l ∷ []) ≡ spelled a xs + 2 ^ length xs * bit (holds a l)
spelled-push a xs l = let one : spelled a (l ∷ []) ≡ bit (holds a l) = omega arith in spelled-append a xs (l ∷ []) ∙ ap (λ n. spelled a xs + 2 ^ length xs * n) one

-- a number of so many bits
pub spelled-below : (a : Valuation) (xs : List ℕ) → spelled a xs < 2 ^ length xs
spelled-below a [] = omega arith
spelled-below a (x ∷ xs) = let rest = spelled-below a xs in let p = pow-suc 2 (length xs) in let b = bit-small (holds a x) in omega arith

-- ---- complements

pub spelled-complements : (a : Valuation) (xs : List ℕ) → spelled a (complements xs) + spelled a xs + 1 ≡ 2 ^ length xs
spelled-complements a [] = refl
spelled-complements a (x ∷ xs) =
    let rest = spelled-complements a xs in
    let p = pow-suc 2 (length xs) in
    let one = bit-not (holds a x) in
    let here = ap bit (holds-complement a x) in
    omega arith

-- ---- front and back

quotient : (s p n d : ℕ) → s < p → n ≡ s + p * d → (n % p ≡ s) × (n / p ≡ d)
quotient s p n d lt e =
    let f : n ≡ d * p + s = omega arith in
    (ap (λ m. m % p) f ∙ mod-mul-add d p s lt, ap (λ m. m / p) f ∙ div-mul-add d p s lt)

pub spelled-split : (a : Valuation) (k : ℕ) (xs : List ℕ) → k ≤ length xs → spelled a xs ≡ spelled a (take k xs) + 2 ^ k * spelled a (drop k xs)
spelled-split a k xs le =
    let size : length (take k xs) ≡ k = take_length k xs le in
    ap (spelled a) (sym (take-append-drop k xs)) ∙ spelled-append a (take k xs) (drop k xs) ∙ ap (λ n. spelled a (take k xs) + 2 ^ n * spelled a (drop k xs)) size

front_below : (a : Valuation) (k : ℕ) (xs : List ℕ) → k ≤ length xs → spelled a (take k xs) < 2 ^ k
front_below a k xs le = subst (λ n. spelled a (take k xs) < 2 ^ n) (take_length k xs le) (spelled-below a (take k xs))

-- the low bits
pub spelled-take : (a : Valuation) (k : ℕ) (xs : List ℕ) → k ≤ length xs → spelled a (take k xs) ≡ spelled a xs % 2 ^ k
spelled-take a k xs le = sym (quotient (spelled a (take k xs)) (2 ^ k) (spelled a xs) (spelled a (drop k xs)) (front_below a k xs le) (spelled-split a k xs le)).0

-- the bits above
pub spelled-drop : (a : Valuation) (k : ℕ) (xs : List ℕ) → k ≤ length xs → spelled a (drop k xs) ≡ spelled a xs / 2 ^ k
spelled-drop a k xs le = sym (quotient (spelled a (take k xs)) (2 ^ k) (spelled a xs) (spelled a (drop k xs)) (front_below a k xs le) (spelled-split a k xs le)).1

-- ---- one literal repeated

pub spelled-replicate : (a : Valuation) (n l : ℕ) → spelled a (replicate n l) + bit (holds a l) ≡ bit (holds a l) * 2 ^ n
spelled-replicate a zero l = omega arith
spelled-replicate a (suc n) l = repeat_step (spelled a (replicate n l)) (bit (holds a l)) (2 ^ n) (2 ^ suc n) (pow-suc 2 n) (spelled-replicate a n l)

pub spelled-false : (a : Valuation) (n l : ℕ) → holds a l ≡ false → spelled a (replicate n l) ≡ 0
spelled-false a n l fails = let b : bit (holds a l) ≡ 0 = ap bit fails in none (spelled a (replicate n l)) (bit (holds a l)) (2 ^ n) b (spelled-replicate a n l)

pub spelled-true : (a : Valuation) (n l : ℕ) → holds a l ≡ true → spelled a (replicate n l) + 1 ≡ 2 ^ n
spelled-true a n l held = let b : bit (holds a l) ≡ 1 = ap bit held in every (spelled a (replicate n l)) (bit (holds a l)) (2 ^ n) b (spelled-replicate a n l)

-- so many false bits below
pub spelled-shift : (a : Valuation) (k l : ℕ) (xs : List ℕ) → holds a l ≡ false → spelled a (replicate k l ++ xs) ≡ 2 ^ k * spelled a xs
spelled-shift a k l xs fails =
    spelled-append a (replicate k l) xs ∙ ap₂ (λ m n. m + 2 ^ n * spelled a xs) (spelled-false a k l fails) (length-replicate k l) ∙ zero_add (2 ^ k * spelled a xs)

-- so many false bits above
pub spelled-extend : (a : Valuation) (k l : ℕ) (xs : List ℕ) → holds a l ≡ false → spelled a (xs ++ replicate k l) ≡ spelled a xs
spelled-extend a k l xs fails =
    spelled-append a xs (replicate k l) ∙ ap (λ n. spelled a xs + 2 ^ length xs * n) (spelled-false a k l fails) ∙ add_nothing (spelled a xs) (2 ^ length xs)

-- ---- two assignments, and two lists

-- assignments that agree on the literals' variables
pub spelled-agree : (n : ℕ) (a b : Valuation) → Agree n a b → (xs : List ℕ) → IsOver n xs → spelled a xs ≡ spelled b xs
spelled-agree n a b agree [] over = refl
spelled-agree n a b agree (x ∷ xs) over =
    ap₂ (λ v m. bit v + 2 * m) (holds-agree n a b agree x over.0) (spelled-agree n a b agree xs over.1)

-- lists of one length that spell one number hold bit by bit
pub spelled-unique : (a b : Valuation) (xs ys : List ℕ) → length xs ≡ length ys → spelled a xs ≡ spelled b ys → map (holds a) xs ≡ map (holds b) ys
spelled-unique a b [] [] size e = refl
spelled-unique a b [] (y ∷ ys) size e = absurd (omega arith)
spelled-unique a b (x ∷ xs) [] size e = absurd (omega arith)
spelled-unique a b (x ∷ xs) (y ∷ ys) size e =
    let f = same_digit (holds a x) (holds b y) (spelled a xs) (spelled b ys) e in
    ap₂ (λ v vs. v ∷ vs) f.0 (spelled-unique a b xs ys (omega arith) f.1)
