-- The sum circuit: its size, its variables, and that its bits and its carry spell the sum.
use Rattle.std.proofs.Common.{◌≡◌, ℕ, zero, suc, ◌+◌, ◌*◌, ◌^◌, ◌<◌, ◌≤◌, Bool, true, false, not, ◌&&◌, ◌||◌, cond, List, [], ◌∷◌, length, refl, sym, ap, ap₂, ◌∙◌, subst, arith}
use Rattle.std.proofs.Math.Nat.{pow-suc}
use Rattle.px_chain.specs.Clause.{Valuation, Formula, IsOver, MeetsAll, holds, variable_of}
use Rattle.px_chain.specs.Resolution.{positive}
use Rattle.px_gates.specs.declared.gate.Gate.TheVariants.{Xor, Majority}
use Rattle.px_gates.specs.Circuit.{IsCircuit, Output, with_circuit}
use Rattle.px_gates.specs.Gate.{with_gate}
use Rattle.px_gates.specs.Spelling.{bit, spelled}
use Rattle.px_gates.specs.Sum.{sum_bits, sum_carry, sum_circuit}
use Rattle.px_gates.proofs.Circuits.{MeetsAll-before}
use Rattle.px_gates.proofs.GateValues.{gate-value}
use Rattle.px_gates.proofs.Literals.{IsOver-more, variable_of-positive}

-- ---- its size and its variables

pub length-sum_circuit : (n : ℕ) (xs ys : List ℕ) (carry : ℕ) → length xs ≡ length ys → length (sum_circuit n xs ys carry) ≡ 3 * length xs
length-sum_circuit n [] ys carry size = refl
length-sum_circuit n (x ∷ xs) [] carry size = absurd (omega arith)
length-sum_circuit n (x ∷ xs) (y ∷ ys) carry size = let rest = length-sum_circuit (n + 3) xs ys (positive (n + 2)) (omega arith) in omega arith

pub length-sum_bits : (n width : ℕ) → length (sum_bits n width) ≡ width
length-sum_bits n zero = refl
length-sum_bits n (suc width) = ap suc (length-sum_bits (n + 3) width)

pub sum_bits-over : (n width more : ℕ) → n + 3 * width ≤ more → IsOver more (sum_bits n width)
sum_bits-over n zero more le = tt
sum_bits-over n (suc width) more le = let v = variable_of-positive (n + 1) in (omega arith, sum_bits-over (n + 3) width more (omega arith))

pub sum_carry-over : (n width carry more : ℕ) → n + 3 * width ≤ more → variable_of carry < more → variable_of (sum_carry n width carry) < more
sum_carry-over n zero carry more le lt = lt
sum_carry-over n (suc width) carry more le lt = let v = variable_of-positive (n + 2) in sum_carry-over (n + 3) width (positive (n + 2)) more (omega arith) (omega arith)

-- a sum is a circuit over the variables of its numbers
pub IsCircuit-sum : (n : ℕ) (xs ys : List ℕ) (carry : ℕ) → IsOver n xs → IsOver n ys → IsOver n (carry ∷ []) → IsCircuit n (sum_circuit n xs ys carry)
IsCircuit-sum n [] ys carry ox oy oc = tt
IsCircuit-sum n (x ∷ xs) [] carry ox oy oc = tt
IsCircuit-sum n (x ∷ xs) (y ∷ ys) carry ox oy oc =
    let u = variable_of-positive n in
    let m = variable_of-positive (n + 2) in
    let three : n + 3 ≡ n + 1 + 1 + 1 = omega arith in
    let rest = IsCircuit-sum (n + 3) xs ys (positive (n + 2)) (IsOver-more n (n + 3) xs (omega arith) ox.1) (IsOver-more n (n + 3) ys (omega arith) oy.1) (omega arith, tt) in
    let ax = ox.0 in let ay = oy.0 in let ac = oc.0 in (
      (ax, (ay, tt)),
      (
        (omega arith, (omega arith, tt)),
        (
          (omega arith, (omega arith, (omega arith, tt))),
          subst (λ k. IsCircuit k (sum_circuit (n + 3) xs ys (positive (n + 2)))) three rest,
        ),
      ),
    )

-- ---- its meaning

adder_table : (x y c : Bool) → bit (cond (cond x (not y) y) (not c) c) + 2 * bit (((x && y) || (x && c)) || (y && c)) ≡ bit x + bit y + bit c
adder_table true true true = refl
adder_table true true false = refl
adder_table true false true = refl
adder_table true false false = refl
adder_table false true true = refl
adder_table false true false = refl
adder_table false false true = refl
adder_table false false false = refl

-- one place: a full adder
full_adder : (x y c u s m : Bool) → u ≡ cond x (not y) y → s ≡ cond u (not c) c → m ≡ (((x && y) || (x && c)) || (y && c)) → bit s + 2 * bit m ≡ bit x + bit y + bit c
full_adder x y c u s m eu es em = ap₂ (λ v w. bit v + 2 * bit w) (es ∙ ap (λ v. cond v (not c) c) eu) em ∙ adder_table x y c

-- a place, and the places above
sum_step : (s m x y c rest xs ys p q top : ℕ) → s + 2 * m ≡ x + y + c → rest + p * top ≡ xs + ys + m → q ≡ p * 2
    → s + 2 * rest + q * top ≡ x + 2 * xs + (y + 2 * ys) + c
sum_step s m x y c rest xs ys p q top e f g = rw g (omega arith)

sum_from : (f : Formula) (n : ℕ) (xs ys : List ℕ) (carry : ℕ) (a : Valuation) → n ≡ f.vars → length xs ≡ length ys
    → MeetsAll a (with_circuit f (sum_circuit n xs ys carry)).clauses
    → spelled a (sum_bits n (length xs)) + 2 ^ length xs * bit (holds a (sum_carry n (length xs) carry)) ≡ spelled a xs + spelled a ys + bit (holds a carry)
sum_from f n [] [] carry a same size met = omega arith
sum_from f n [] (y ∷ ys) carry a same size met = absurd (omega arith)
sum_from f n (x ∷ xs) [] carry a same size met = absurd (omega arith)
sum_from f n (x ∷ xs) (y ∷ ys) carry a same size met =
    let rest = sum_circuit (n + 3) xs ys (positive (n + 2)) in
    let one = with_gate f (Xor x y) in
    let two = with_gate one (Xor (positive n) carry) in
    let three = with_gate two (Majority x y carry) in
    let second = ap positive (let e : f.vars + 1 ≡ n + 1 = omega arith in e) in
    let third = ap positive (let e : f.vars + 1 + 1 ≡ n + 2 = omega arith in e) in
    let m3 = MeetsAll-before a three rest met in
    let m2 = MeetsAll-before a two (Output (Majority x y carry) ∷ []) m3 in
    let m1 = MeetsAll-before a one (Output (Xor (positive n) carry) ∷ []) m2 in
    let u = ap (holds a) (ap positive same) ∙ gate-value f (Xor x y) a m1 in
    let s = ap (holds a) (sym second) ∙ gate-value one (Xor (positive n) carry) a m2 in
    let m = ap (holds a) (sym third) ∙ gate-value two (Majority x y carry) a m3 in
    let adder = full_adder (holds a x) (holds a y) (holds a carry) (holds a (positive n)) (holds a (positive (n + 1))) (holds a (positive (n + 2))) u s m in
    let above = sum_from three (n + 3) xs ys (positive (n + 2)) a (omega arith) (omega arith) met in
    let w = length xs in
    sum_step (bit (holds a (positive (n + 1)))) (bit (holds a (positive (n + 2)))) (bit (holds a x)) (bit (holds a y)) (bit (holds a carry))
    (spelled a (sum_bits (n + 3) w)) (spelled a xs) (spelled a ys) (2 ^ w) (2 ^ suc w) (bit (holds a (sum_carry (n + 3) w (positive (n + 2))))) adder above (pow-suc 2 w)

-- where an assignment meets the clauses of a sum, its bits and its carry spell the sum of the numbers and the carry
pub sum-meets : (f : Formula) (xs ys : List ℕ) (carry : ℕ) (a : Valuation) → length xs ≡ length ys
    → MeetsAll a (with_circuit f (sum_circuit f.vars xs ys carry)).clauses
    → spelled a (sum_bits f.vars (length xs)) + 2 ^ length xs * bit (holds a (sum_carry f.vars (length xs) carry)) ≡ spelled a xs + spelled a ys + bit (holds a carry)
sum-meets f xs ys carry a size met = sum_from f f.vars xs ys carry a refl size met
