-- Lists side by side, lists in order, and ranges.
use Rattle.std.proofs.Common.{◌≡◌, ℕ, zero, suc, ◌+◌, ◌-◌, ◌*◌, ◌/◌, ◌%◌, ◌^◌, ◌<◌, ◌≤◌, Bool, true, false, cond, List, [], ◌∷◌, ◌++◌, length, take, Some, refl, sym, ap, ◌∙◌, subst, ⊎_elim, arith, eqb-true, eq-eqb}
use Rattle.std.specs.Prelude.{◌==◌, ◌||◌, nat_lt, filter, find, slice_get}
use Rattle.std.specs.List.{AllByRecursion, AllZip, IsDistinct, flat_map, list_any, range_with_len}
use Rattle.std.proofs.lemmas.Bool.{cases_Bool, cases_eq, cases_lt, cond-false, cond-true, cond_both, le-ltb, lt-ltb, ltb-true, or_cases}
use Rattle.std.proofs.lemmas.List.{length-append}
use Rattle.std.proofs.lemmas.Map.Steps.{length-le_from_distinct_below}
use Rattle.std.proofs.lemmas.Option.{same_Some, slice_get_within}
use Rattle.px_meta.specs.Rows.{is_in}

-- SIDE BY SIDE

pub zip_length : {X Y : Type 0} (R : X → Y → Type 0) (xs : List X) (ys : List Y) → AllZip R xs ys → length ys ≡ length xs
zip_length R [] [] zipped = refl
zip_length R [] (y ∷ ys) zipped = absurd zipped
zip_length R (x ∷ xs) [] zipped = absurd zipped
zip_length R (x ∷ xs) (y ∷ ys) zipped = ap suc (zip_length R xs ys zipped.1)

-- what stands before a place of the second list
pub before : {X Y : Type 0} (R : X → Y → Type 0) (xs : List X) (ys : List Y) → AllZip R xs ys → (k : ℕ) (y : Y) → slice_get ys k ≡ Some y → (x : X) × ((slice_get xs k ≡ Some x) × R x y)
before R [] [] zipped k y at = absurd (cc)
before R [] (b ∷ ys) zipped k y at = absurd zipped
before R (a ∷ xs) [] zipped k y at = absurd zipped
before R (a ∷ xs) (b ∷ ys) zipped zero y at = let same : b ≡ y = cc in (a, (refl, subst (λ z. R a z) same zipped.0))
before R (a ∷ xs) (b ∷ ys) zipped (suc k) y at = before R xs ys zipped.1 k y at

pub zip_weaken : {X Y : Type 0} (R S : X → Y → Type 0) (P : X → Type 0) → ((x : X) (y : Y) → P x → R x y → S x y) → (xs : List X) (ys : List Y) → AllByRecursion P xs → AllZip R xs ys → AllZip S xs ys
zip_weaken R S P goes [] [] each zipped = tt
zip_weaken R S P goes [] (y ∷ ys) each zipped = absurd zipped
zip_weaken R S P goes (x ∷ xs) [] each zipped = absurd zipped
zip_weaken R S P goes (x ∷ xs) (y ∷ ys) each zipped = (goes x y each.0 zipped.0, zip_weaken R S P goes xs ys each.1 zipped.1)

pub item_at : {X : Type 0} (xs : List X) (n : ℕ) → n < length xs → (x : X) × (slice_get xs n ≡ Some x)
item_at [] n less = absurd (omega arith)
item_at (x ∷ xs) zero less = (x, refl)
item_at (x ∷ xs) (suc n) less = item_at xs n (omega arith)

pub left_at : {X : Type 0} (xs ys : List X) (k : ℕ) → k < length xs → slice_get (xs ++ ys) k ≡ slice_get xs k
left_at [] ys k less = absurd (omega arith)
left_at (x ∷ xs) ys zero less = refl
left_at (x ∷ xs) ys (suc k) less = left_at xs ys k (omega arith)

pub right_at : {X : Type 0} (xs ys : List X) (k n : ℕ) → n ≡ length xs + k → slice_get (xs ++ ys) n ≡ slice_get ys k
right_at [] ys k n e = let same : n ≡ k = omega arith in ap (slice_get ys) same
right_at (x ∷ xs) ys k zero e = absurd (omega arith)
right_at (x ∷ xs) ys k (suc n) e = right_at xs ys k n (omega arith)

-- LISTS JOINED

pub flat_more : {X Y : Type 0} (f : X → List Y) (xs : List X) (i : ℕ) (x : X) → slice_get xs i ≡ Some x → length (flat_map f (take (suc i) xs)) ≡ length (flat_map f (take i xs)) + length (f x)
flat_more f [] i x at = absurd (cc)
flat_more f (y ∷ xs) zero x at =
    let same : y ≡ x = cc in let joined = length-append (f y) [] in let level = ap (λ z. length (f z)) same in
    let none : length (flat_map f (take 0 xs)) ≡ 0 = refl in omega arith
flat_more f (y ∷ xs) (suc i) x at =
    let later = flat_more f xs i x at in
    let first = length-append (f y) (flat_map f (take (suc i) xs)) in
    let other = length-append (f y) (flat_map f (take i xs)) in
    omega arith

pub flat_rises : {X Y : Type 0} (f : X → List Y) (xs : List X) (i j : ℕ) → i ≤ j → length (flat_map f (take i xs)) ≤ length (flat_map f (take j xs))
flat_rises f xs zero j up = omega arith
flat_rises f [] (suc i) j up = omega arith
flat_rises f (x ∷ xs) (suc i) zero up = absurd (omega arith)
flat_rises f (x ∷ xs) (suc i) (suc j) up =
    let later : length (flat_map f (take i xs)) ≤ length (flat_map f (take j xs)) = flat_rises f xs i j (omega arith) in
    let first = length-append (f x) (flat_map f (take i xs)) in
    let other = length-append (f x) (flat_map f (take j xs)) in
    omega arith

pub flat_at : {X Y : Type 0} (f : X → List Y) (xs : List X) (i k n : ℕ) (x : X) (y : Y) → slice_get xs i ≡ Some x → slice_get (f x) k ≡ Some y → n ≡ length (flat_map f (take i xs)) + k → slice_get (flat_map f xs) n ≡ Some y
flat_at f [] i k n x y at is e = absurd (cc)
flat_at f (z ∷ xs) zero k n x y at is e =
    let same : z ≡ x = cc in
    let within = slice_get_within (f x) k y is in
    let level = ap (λ w. length (f w)) same in
    let place : n ≡ k = omega arith in
    ap (slice_get (f z ++ flat_map f xs)) place ∙ left_at (f z) (flat_map f xs) k (omega arith) ∙ ap (λ w. slice_get (f w) k) same ∙ is
flat_at f (z ∷ xs) (suc i) k n x y at is e =
    let joined = length-append (f z) (flat_map f (take i xs)) in
    right_at (f z) (flat_map f xs) (length (flat_map f (take i xs)) + k) n (omega arith) ∙ flat_at f xs i k (length (flat_map f (take i xs)) + k) x y at is refl

-- what a joined list has at a place, one of the lists has
pub record IsFrom {X Y : Type 0} (f : X → List Y) (xs : List X) (n : ℕ) (y : Y) : Type 0 where
  pub i : ℕ
  pub x : X
  pub at : slice_get xs i ≡ Some x
  pub k : ℕ
  pub own : slice_get (f x) k ≡ Some y
  pub place : n ≡ length (flat_map f (take i xs)) + k

pub flat_from : {X Y : Type 0} (f : X → List Y) (xs : List X) (n : ℕ) (y : Y) → slice_get (flat_map f xs) n ≡ Some y → IsFrom f xs n y
flat_from f [] n y at = absurd (cc)
flat_from f (x ∷ xs) n y at =
    ⊎_elim
    (λ here. record { i = 0; x = x; at = refl; k = n; own = sym (left_at (f x) (flat_map f xs) n here) ∙ at; place = omega arith })
    (λ behind.
    let later = flat_from f xs (n - length (f x)) y (sym (right_at (f x) (flat_map f xs) (n - length (f x)) n (omega arith)) ∙ at) in
    let joined = length-append (f x) (flat_map f (take later.i xs)) in
    record { i = suc later.i; x = later.x; at = later.at; k = later.k; own = later.own; place = let e = later.place in omega arith })
    (cases_lt n (length (f x)))

-- DISTINCT NUMBERS BELOW A BOUND

below_each : (bound : ℕ) (numbers : List ℕ) → AllByRecursion (λ number. number < bound) numbers → (number : ℕ) → list_any (λ other. number == other) numbers ≡ true → number < bound
below_each bound [] below number there = absurd (cc)
below_each bound (other ∷ numbers) below number there =
    ⊎_elim
    (λ same. let e = eqb-true number other same in omega (arith, e, below.0))
    (λ later. below_each bound numbers below.1 number later)
    (or_cases (number == other) (list_any (λ other. number == other) numbers) there)

-- there are no more of them than below the bound
pub few_distinct : (numbers : List ℕ) (bound : ℕ) → IsDistinct (λ one other. one == other) numbers → AllByRecursion (λ number. number < bound) numbers → length numbers ≤ bound
few_distinct numbers bound distinct below = length-le_from_distinct_below numbers bound distinct (below_each bound numbers below)

absent : (number : ℕ) (numbers : List ℕ) → is_in numbers number ≡ false → AllByRecursion (λ other. (number == other) ≡ false) numbers
absent number [] out = tt
absent number (other ∷ numbers) out = (
  ⊎_elim
      (λ same. let e : other ≡ number = sym (eqb-true number other same) in let here = eq-eqb other number e in absurd (cc))
      (λ differs. differs)
      (cases_Bool (number == other)),
  absent number numbers (later (other == number) (is_in numbers number) out),
)
  where
    later : (one other : Bool) → (one || other) ≡ false → other ≡ false
    later true other e = absurd (cc)
    later false other e = e

-- as many of them as there are below the bound are all of these
pub all_there : (numbers : List ℕ) (bound number : ℕ) → IsDistinct (λ one other. one == other) numbers → AllByRecursion (λ other. other < bound) numbers → length numbers ≡ bound → number < bound → is_in numbers number ≡ true
unfolding IsDistinct
all_there numbers bound number distinct below count less =
    ⊎_elim
    (λ there. there)
    (λ out. absurd (let more = few_distinct (number ∷ numbers) bound (absent number numbers out, distinct) (less, below) in omega (arith, more, count)))
    (cases_Bool (is_in numbers number))

-- LISTS IN ORDER

-- how many have a key below another
abbrev pub below : (ℕ → ℕ) → List ℕ → ℕ → ℕ
below key xs i = length (filter (λ x. nat_lt (key x) i) xs)

pub below_few : (key : ℕ → ℕ) (xs : List ℕ) (i j : ℕ) → ((k x : ℕ) → j ≤ k → slice_get xs k ≡ Some x → i ≤ key x) → below key xs i ≤ j
below_few key [] i j above = omega arith
below_few key (x ∷ xs) i zero above =
    let out : nat_lt (key x) i ≡ false = le-ltb (key x) i (above 0 x (omega arith) refl) in
    let same = ap length (cond-false (nat_lt (key x) i) (x ∷ filter (λ y. nat_lt (key y) i) xs) (filter (λ y. nat_lt (key y) i) xs) out) in
    let later : below key xs i ≤ 0 = below_few key xs i 0 (λ k y more at. above (suc k) y (omega arith) at) in
    omega arith
below_few key (x ∷ xs) i (suc j) above =
    let later : below key xs i ≤ j = below_few key xs i j (λ k y more at. above (suc k) y (omega arith) at) in
    cond_both (nat_lt (key x) i) (x ∷ filter (λ y. nat_lt (key y) i) xs) (filter (λ y. nat_lt (key y) i) xs) (λ l. length l ≤ suc j) (λ in'. omega arith) (λ out. omega arith)

pub below_many : (key : ℕ → ℕ) (xs : List ℕ) (i j : ℕ) → j ≤ length xs → ((k x : ℕ) → k < j → slice_get xs k ≡ Some x → key x < i) → j ≤ below key xs i
below_many key xs i zero few under = omega arith
below_many key [] i (suc j) few under = absurd (omega arith)
below_many key (x ∷ xs) i (suc j) few under =
    let in' : nat_lt (key x) i ≡ true = lt-ltb (key x) i (under 0 x (omega arith) refl) in
    let same = ap length (cond-true (nat_lt (key x) i) (x ∷ filter (λ y. nat_lt (key y) i) xs) (filter (λ y. nat_lt (key y) i) xs) in') in
    let later : j ≤ below key xs i = below_many key xs i j (omega arith) (λ k y less at. under (suc k) y (omega arith) at) in
    omega arith

pub below_rises : (key : ℕ → ℕ) (xs : List ℕ) (i j : ℕ) → i ≤ j → below key xs i ≤ below key xs j
below_rises key [] i j more = omega arith
below_rises key (x ∷ xs) i j more =
    let later : below key xs i ≤ below key xs j = below_rises key xs i j more in
    cond_both (nat_lt (key x) i) (x ∷ filter (λ y. nat_lt (key y) i) xs) (filter (λ y. nat_lt (key y) i) xs) (λ l. length l ≤ below key (x ∷ xs) j)
    (λ in'.
    let under : key x < i = ltb-true (key x) i in' in
    let same = ap length (cond-true (nat_lt (key x) j) (x ∷ filter (λ y. nat_lt (key y) j) xs) (filter (λ y. nat_lt (key y) j) xs) (lt-ltb (key x) j (omega arith))) in omega arith)
    (λ out. cond_both (nat_lt (key x) j) (x ∷ filter (λ y. nat_lt (key y) j) xs) (filter (λ y. nat_lt (key y) j) xs) (λ l. below key xs i ≤ length l) (λ also. omega arith) (λ neither. later))

-- RANGES

pub range_length : (a n : ℕ) → length (range_with_len a n) ≡ n
range_length a zero = refl
range_length a (suc n) = ap suc (range_length (a + 1) n)

pub range_at : (a n k : ℕ) → k < n → slice_get (range_with_len a n) k ≡ Some (a + k)
range_at a zero k less = absurd (omega arith)
range_at a (suc n) zero less = let same : a ≡ a + 0 = omega arith in ap (λ x. Some x) same
range_at a (suc n) (suc k) less = let same : a + 1 + k ≡ a + suc k = omega arith in range_at (a + 1) n k (omega arith) ∙ ap (λ x. Some x) same

pub range_at_is : (a n k x : ℕ) → slice_get (range_with_len a n) k ≡ Some x → (x ≡ a + k) × (k < n)
range_at_is a zero k x at = absurd (cc)
range_at_is a (suc n) zero x at = let same : a ≡ x = same_Some a x at in (omega arith, omega arith)
range_at_is a (suc n) (suc k) x at = let later = range_at_is (a + 1) n k x at in (omega (arith, later.0), omega (arith, later.1))

-- what is first found in a range
pub first_found : (p : ℕ → Bool) (a n k : ℕ) → a ≤ k → k < a + n → p k ≡ true → ((r : ℕ) → a ≤ r → r < k → p r ≡ false) → find p (range_with_len a n) ≡ Some k
first_found p a zero k some few passes fails = absurd (omega arith)
first_found p a (suc n) k some few passes fails =
    ⊎_elim
    (λ same. cond-true (p a) (Some a) (find p (range_with_len (a + 1) n)) (subst (λ r. p r ≡ true) (sym same) passes) ∙ ap (λ r. Some r) same)
    (λ differs.
    cond-false (p a) (Some a) (find p (range_with_len (a + 1) n)) (fails a (omega arith) (omega (arith, differs)))
    ∙ first_found p (a + 1) n k (omega (arith, differs)) (omega arith) passes (λ r more less. fails r (omega arith) less))
    (cases_eq a k)

pub filter_joined : (p : ℕ → Bool) (a m n : ℕ) → filter p (range_with_len a (m + n)) ≡ filter p (range_with_len a m) ++ filter p (range_with_len (a + m) n)
filter_joined p a zero n = let zero_more : 0 + n ≡ n = omega arith in let same : a ≡ a + 0 = omega arith in ap (λ k. filter p (range_with_len a k)) zero_more ∙ ap (λ k. filter p (range_with_len k n)) same
filter_joined p a (suc m) n =
    let more : suc m + n ≡ suc (m + n) = omega arith in let same : a + 1 + m ≡ a + suc m = omega arith in
    ap (λ k. filter p (range_with_len a k)) more
    ∙ cond_both (p a) (a ∷ filter p (range_with_len (a + 1) m)) (filter p (range_with_len (a + 1) m)) (λ l. cond (p a) (a ∷ filter p (range_with_len (a + 1) (m + n))) (filter p (range_with_len (a + 1) (m + n))) ≡ l ++ filter p (range_with_len (a + suc m) n))
    (λ passes. cond-true (p a) (a ∷ filter p (range_with_len (a + 1) (m + n))) (filter p (range_with_len (a + 1) (m + n))) passes ∙ ap (λ l. a ∷ l) (filter_joined p (a + 1) m n ∙ ap (λ k. filter p (range_with_len (a + 1) m) ++ filter p (range_with_len k n)) same))
    (λ fails. cond-false (p a) (a ∷ filter p (range_with_len (a + 1) (m + n))) (filter p (range_with_len (a + 1) (m + n))) fails ∙ (filter_joined p (a + 1) m n ∙ ap (λ k. filter p (range_with_len (a + 1) m) ++ filter p (range_with_len k n)) same))

pub none_pass : (p : ℕ → Bool) (a n : ℕ) → ((r : ℕ) → a ≤ r → r < a + n → p r ≡ false) → filter p (range_with_len a n) ≡ []
none_pass p a zero fails = refl
none_pass p a (suc n) fails = cond-false (p a) (a ∷ filter p (range_with_len (a + 1) n)) (filter p (range_with_len (a + 1) n)) (fails a (omega arith) (omega arith)) ∙ none_pass p (a + 1) n (λ r more less. fails r (omega arith) (omega arith))

pub all_pass : (p : ℕ → Bool) (a n : ℕ) → ((r : ℕ) → a ≤ r → r < a + n → p r ≡ true) → filter p (range_with_len a n) ≡ range_with_len a n
all_pass p a zero passes = refl
all_pass p a (suc n) passes = cond-true (p a) (a ∷ filter p (range_with_len (a + 1) n)) (filter p (range_with_len (a + 1) n)) (passes a (omega arith) (omega arith)) ∙ ap (λ l. a ∷ l) (all_pass p (a + 1) n (λ r more less. passes r (omega arith) (omega arith)))

-- TOKENS

pub token_table : (table row : ℕ) → row < 2 ^ 24 → (table * 2 ^ 24 + row) / 2 ^ 24 ≡ table
token_table table row few = omega arith

pub token_row : (table row : ℕ) → row < 2 ^ 24 → (table * 2 ^ 24 + row) % 2 ^ 24 ≡ row
token_row table row few = omega arith
