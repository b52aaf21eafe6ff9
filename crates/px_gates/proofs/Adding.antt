-- How far a sum has come: the formula has the gates of the places below k, and what is left goes on from there.
use Rattle.std.proofs.Common.{◌≡◌, ℕ, suc, ◌+◌, ◌*◌, ◌<◌, ◌≤◌, List, [], ◌∷◌, ◌++◌, length, drop, get_or, refl, sym, ap, ap₂, ◌∙◌, subst, arith, append_assoc, append-nil, add-one, drop-cons}
use Rattle.px_chain.specs.Clause.{Formula, IsOver, variable_of}
use Rattle.px_chain.specs.Resolution.{positive}
use Rattle.px_gates.specs.Circuit.{with_circuit}
use Rattle.px_gates.specs.Gate.{KeepsFormula}
use Rattle.px_gates.specs.Sum.{sum_bits, sum_carry, sum_circuit}
use Rattle.px_gates.proofs.Circuits.{KeepsFormula-circuit}
use Rattle.px_gates.proofs.Formulas.{KeepsFormula-same, KeepsFormula-trans, all_read}
use Rattle.px_gates.proofs.Literals.{variable_of-positive}

pub record HasAdded (old : Formula) (xs ys : List ℕ) (first k : ℕ) (f : Formula) (bits : List ℕ) (carry : ℕ) : Type 0 where
  pub vars : f.vars ≡ old.vars + 3 * k
  pub circuit : with_circuit f (sum_circuit f.vars (drop k xs) (drop k ys) carry) ≡ with_circuit old (sum_circuit old.vars xs ys first)
  pub low : bits ++ sum_bits f.vars (length (drop k xs)) ≡ sum_bits old.vars (length xs)
  pub last : sum_carry f.vars (length (drop k xs)) carry ≡ sum_carry old.vars (length xs) first
  pub over : variable_of carry < f.vars
  pub keeps : KeepsFormula old f

pub HasAdded-none : (old : Formula) (xs ys : List ℕ) (first : ℕ) → variable_of first < old.vars → HasAdded old xs ys first 0 old [] first
HasAdded-none old xs ys first lt = record { vars = omega arith; circuit = refl; low = refl; last = refl; over = lt; keeps = KeepsFormula-same old }

next_circuit : (f g : Formula) (x y : ℕ) (xs ys : List ℕ) (carry : ℕ) → g ≡ with_circuit f (sum_circuit f.vars (x ∷ []) (y ∷ []) carry)
    → with_circuit g (sum_circuit g.vars xs ys (positive (f.vars + 2))) ≡ with_circuit f (sum_circuit f.vars (x ∷ xs) (y ∷ ys) carry)
next_circuit f g x y xs ys carry e =
    let vars : g.vars ≡ f.vars + 3 = ap (λ (h : Formula). h.vars) e ∙ three f.vars in
    ap₂ (λ h n. with_circuit h (sum_circuit n xs ys (positive (f.vars + 2)))) e vars
  where
    three : (n : ℕ) → n + 1 + 1 + 1 ≡ n + 3
    three n = omega arith

next_place : (xs : List ℕ) (k x : ℕ) → k < length xs → x ≡ get_or xs k 0 → drop k xs ≡ x ∷ drop (k + 1) xs
next_place xs k x lt e = rw (add-one, drop-cons xs k 0) (ap (λ y. y ∷ drop (suc k) xs) (sym e))

-- one place more
module _ (old : Formula) (xs ys : List ℕ) (first k : ℕ) (f : Formula) (bits : List ℕ) (carry x y bit above : ℕ) (g : Formula)
    (is : HasAdded old xs ys first k f bits carry) (x_in : k < length xs) (y_in : k < length ys) (x_is : x ≡ get_or xs k 0) (y_is : y ≡ get_or ys k 0)
    (bit_is : bit ≡ positive (f.vars + 1)) (above_is : above ≡ positive (f.vars + 2))
    (g_is : g ≡ with_circuit f (sum_circuit f.vars (x ∷ []) (y ∷ []) carry)) where
  more_vars : g.vars ≡ f.vars + 3
  more_vars = let three : f.vars + 1 + 1 + 1 ≡ f.vars + 3 = omega arith in ap (λ (h : Formula). h.vars) g_is ∙ three

  more_circuit : with_circuit g (sum_circuit g.vars (drop (k + 1) xs) (drop (k + 1) ys) above) ≡ with_circuit old (sum_circuit old.vars xs ys first)
  more_circuit =
      let now = next_circuit f g x y (drop (k + 1) xs) (drop (k + 1) ys) carry g_is in
      ap (λ c. with_circuit g (sum_circuit g.vars (drop (k + 1) xs) (drop (k + 1) ys) c)) above_is ∙ now
      ∙ ap₂ (λ us vs. with_circuit f (sum_circuit f.vars us vs carry)) (sym (next_place xs k x x_in x_is)) (sym (next_place ys k y y_in y_is)) ∙ is.circuit

  more_low : (bits ++ bit ∷ []) ++ sum_bits g.vars (length (drop (k + 1) xs)) ≡ sum_bits old.vars (length xs)
  more_low =
      let rest = length (drop (k + 1) xs) in
      append_assoc bits (bit ∷ []) (sum_bits g.vars rest) ∙ ap₂ (λ b n. bits ++ b ∷ sum_bits n rest) bit_is more_vars
      ∙ ap (λ us. bits ++ sum_bits f.vars (length us)) (sym (next_place xs k x x_in x_is)) ∙ is.low

  more_last : sum_carry g.vars (length (drop (k + 1) xs)) above ≡ sum_carry old.vars (length xs) first
  more_last =
      let rest = length (drop (k + 1) xs) in
      ap₂ (λ n c. sum_carry n rest c) more_vars above_is ∙ ap (λ us. sum_carry f.vars (length us) carry) (sym (next_place xs k x x_in x_is)) ∙ is.last

  pub HasAdded-more : HasAdded old xs ys first (k + 1) g (bits ++ bit ∷ []) above
  HasAdded-more =
      let v = more_vars in
      let w = is.vars in
      let u = variable_of-positive (f.vars + 2) in
      let a = ap variable_of above_is in
      let kept = subst (KeepsFormula f) (sym g_is) (KeepsFormula-circuit f (sum_circuit f.vars (x ∷ []) (y ∷ []) carry)) in
      record {
        vars = omega arith;
        circuit = more_circuit;
        low = more_low;
        last = more_last;
        over = omega arith;
        keeps = KeepsFormula-trans old f g is.keeps kept;
      }

-- what a full adder asks of its bits and its carry
pub adder_over : (old : Formula) (xs ys : List ℕ) (first k : ℕ) (f : Formula) (bits : List ℕ) (carry x y : ℕ) → HasAdded old xs ys first k f bits carry
    → IsOver old.vars xs → IsOver old.vars ys → k < length xs → k < length ys → x ≡ get_or xs k 0 → y ≡ get_or ys k 0 → IsOver f.vars (x ∷ y ∷ carry ∷ [])
adder_over old xs ys first k f bits carry x y is ox oy x_in y_in x_is y_is =
    let wider : old.vars ≤ f.vars = let v = is.vars in omega arith in
    let at_x = all_read (λ l. variable_of l < old.vars) xs k 0 ox x_in in
    let at_y = all_read (λ l. variable_of l < old.vars) ys k 0 oy y_in in
    let vx = ap variable_of x_is in
    let vy = ap variable_of y_is in
    (omega arith, (omega arith, (is.over, tt)))

-- where no place is left
pub HasAdded-all : (old : Formula) (xs ys : List ℕ) (first k : ℕ) (f : Formula) (bits : List ℕ) (carry : ℕ) → HasAdded old xs ys first k f bits carry → drop k xs ≡ []
    → (bits ≡ sum_bits old.vars (length xs)) × (carry ≡ sum_carry old.vars (length xs) first) × (f ≡ with_circuit old (sum_circuit old.vars xs ys first))
HasAdded-all old xs ys first k f bits carry is none = (
  sym (append-nil bits) ∙ (rw none at is.low),
  (rw none at is.last),
  (rw none at is.circuit),
)
