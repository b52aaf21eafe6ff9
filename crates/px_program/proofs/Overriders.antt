-- A search over pairs in the order of their first numbers finds what a scan finds.
use Rattle.std.proofs.Common.{◌≡◌, inl, inr, ℕ, zero, suc, ◌<◌, ◌≤◌, List, [], ◌∷◌, Bool, true, false, Some, None, refl, sym, ap, arith, length, get_or, nat_cmp, Ok, Err}
use Rattle.std.specs.Prelude.{◌==◌, find}
use Rattle.std.specs.List.{All}
use Rattle.std.specs.List.Sorted.{IsBinarySearchResult, IsPartitionPoint}
use Rattle.std.specs.Ordering.{ordering_index}
use Rattle.std.specs.declared.cmp.Ordering.TheVariants.{Less, Equal, Greater}
use Rattle.std.proofs.lemmas.Bool.{cases_lt}
use Rattle.std.proofs.lemmas.Bool.Decides.{nat_tests}
use Rattle.px_program.specs.Overriding.{AreByFirst, second_in}

index_rises : (a b x : ℕ) → a ≤ b → ordering_index (nat_cmp a x) ≤ ordering_index (nat_cmp b x)
index_rises a b x le = grind (arith, nat_tests)

equal : (a x : ℕ) → nat_cmp a x ≡ Equal → (a == x) ≡ true
equal a x e = grind (arith, nat_tests)

same : (a x : ℕ) → nat_cmp a x ≡ Equal → a ≡ x
same a x e = grind (arith, nat_tests)

less : (a x : ℕ) → nat_cmp a x ≡ Less → (a == x) ≡ false
less a x e = grind (arith, nat_tests)

greater : (a x : ℕ) → nat_cmp a x ≡ Greater → (a == x) ≡ false
greater a x e = grind (arith, nat_tests)

apart : (m n : ℕ) → m < n → (m == n) ≡ false
apart m n h = grind arith

-- those that follow a pair are above it
above : (pair : ℕ × ℕ) (rest : List (ℕ × ℕ)) → AreByFirst (pair ∷ rest) → (k : ℕ) (d : ℕ × ℕ) → k < length rest → pair.0 < (get_or rest k d).0
above pair [] by k d h = absurd (omega arith)
above pair (next ∷ rest) by zero d h = by.0
above pair (next ∷ rest) by (suc k) d h = let later : next.0 < (get_or rest k d).0 = above next rest by.1 k d (omega arith) in omega (arith, by.0, later)

rest_by : (pair : ℕ × ℕ) (rest : List (ℕ × ℕ)) → AreByFirst (pair ∷ rest) → AreByFirst rest
rest_by pair [] by = tt
rest_by pair (next ∷ rest) by = by.1

ascends : (pairs : List (ℕ × ℕ)) → AreByFirst pairs → (i j : ℕ) (d : ℕ × ℕ) → i ≤ j → j < length pairs → (get_or pairs i d).0 ≤ (get_or pairs j d).0
ascends [] by i j d le h = absurd (omega arith)
ascends (pair ∷ rest) by zero zero d le h = omega arith
ascends (pair ∷ rest) by zero (suc j) d le h = let later : pair.0 < (get_or rest j d).0 = above pair rest by j d (omega arith) in omega (arith, later)
ascends (pair ∷ rest) by (suc i) zero d le h = absurd (omega arith)
ascends (pair ∷ rest) by (suc i) (suc j) d le h = ascends rest (rest_by pair rest by) i j d (omega arith) (omega arith)

first_at : (pairs : List (ℕ × ℕ)) → AreByFirst pairs → (k : ℕ) (d : ℕ × ℕ) (method : ℕ) → k < length pairs → ((get_or pairs k d).0 == method) ≡ true → (get_or pairs k d).0 ≡ method → find (λ pair. pair.0 == method) pairs ≡ Some (get_or pairs k d)
first_at [] by k d method h e o = absurd (omega arith)
first_at (pair ∷ rest) by zero d method h e o = rw e refl
first_at (pair ∷ rest) by (suc k) d method h e o =
    let later : pair.0 < (get_or rest k d).0 = above pair rest by k d (omega arith) in
    let other : (pair.0 == method) ≡ false = apart pair.0 method (omega (arith, later, o)) in
    rw other (first_at rest (rest_by pair rest by) k d method (omega arith) e o)

found_none : {X : Type 0} (p : X → Bool) (xs : List X) → All (λ x. p x ≡ false) xs → find p xs ≡ None
found_none p [] all = refl
found_none p (x ∷ xs) all =
    let here : p x ≡ false = all 0 x (omega arith) in
    rw here (found_none p xs (λ k d h. all (suc k) d (omega arith)))

none_by : (pairs : List (ℕ × ℕ)) (at k : ℕ) → IsPartitionPoint (λ pair. nat_cmp pair.0 at ≡ Less) (λ pair. nat_cmp pair.0 at ≡ Greater) pairs k → All (λ pair. (pair.0 == at) ≡ false) pairs
none_by pairs at k parts j d h = elim (cases_lt j k) [
  | inl before ↦ less (get_or pairs j d).0 at (parts.0 j d (omega arith) before)
  | inr later ↦ greater (get_or pairs j d).0 at (parts.1 j d later h)
]

-- what a search says that finds a pair
pub overrider_found : (pairs : List (ℕ × ℕ)) (method k : ℕ) → AreByFirst pairs → k < length pairs → IsBinarySearchResult (λ pair. nat_cmp pair.0 method) pairs (Ok k) → Some (get_or pairs k (0, 0)).1 ≡ second_in (find (λ pair. pair.0 == method) pairs)
overrider_found pairs method k by range here =
    let d : ℕ × ℕ = (0, 0) in
    sym (ap second_in (first_at pairs by k d method range (equal (get_or pairs k d).0 method (here d)) (same (get_or pairs k d).0 method (here d))))

-- and one that finds none
pub overrider_missing : (pairs : List (ℕ × ℕ)) (method k : ℕ) → AreByFirst pairs → IsBinarySearchResult (λ pair. nat_cmp pair.0 method) pairs (Err k) → None ≡ second_in (find (λ pair. pair.0 == method) pairs)
overrider_missing pairs method k by split =
    sym (ap second_in (found_none (λ pair. pair.0 == method) pairs (none_by pairs method k
    (split (λ i j d le h. index_rises (get_or pairs i d).0 (get_or pairs j d).0 method (ascends pairs by i j d le h))))))
