-- Counts of methods by their owners, and places in lists without repeats.
use Rattle.std.proofs.Common.{◌≡◌, ℕ, zero, suc, ◌+◌, ◌<◌, ◌≤◌, Bool, true, false, cond, List, [], ◌∷◌, length, get_or, map, Some, refl, sym, ap, ◌∙◌, subst, ⊎_elim, arith, ltb}
use Rattle.std.specs.Prelude.{filter, nat_lt, slice_get, ◌==◌, if◌then◌else◌}
use Rattle.std.specs.List.{AllByRecursion, AllPairs, IsDistinct}
use Rattle.std.specs.List.Sorted.{IsPartitionedBy, IsPartitionPoint}
use Rattle.std.proofs.lemmas.Bool.{cases_lt, eq-eqb, ltb-true, ltb-false, true≢false}
use borrow.Author.Tests.{lt-ltb, le-ltb}
use Rattle.std.proofs.lemmas.List.{get_or-map, length-map}
use Rattle.px_link_methods.specs.Codes.{place_of}

-- those in front of a cut pass and those behind it fail
pub cut_counts : (p : ℕ → Bool) (xs : List ℕ) (cut : ℕ) → cut ≤ length xs → ((k : ℕ) → k < cut → p (get_or xs k 0) ≡ true) → ((k : ℕ) → cut ≤ k → k < length xs → p (get_or xs k 0) ≡ false) → length (filter p xs) ≡ cut
cut_counts p [] cut within pass fail = omega arith
cut_counts p (x ∷ xs) zero within pass fail =
    let out : p x ≡ false = fail 0 (omega arith) (omega arith) in
    subst (λ b. length (cond b (x ∷ filter p xs) (filter p xs)) ≡ 0) (sym out)
    (cut_counts p xs 0 (omega arith) (λ k less. absurd (omega arith)) (λ k from less. fail (suc k) (omega arith) (omega arith)))
cut_counts p (x ∷ xs) (suc cut) within pass fail =
    let in' : p x ≡ true = pass 0 (omega arith) in
    let rest = cut_counts p xs cut (omega arith) (λ k less. pass (suc k) (omega arith)) (λ k from less. fail (suc k) (omega arith) (omega arith)) in
    subst (λ b. length (cond b (x ∷ filter p xs) (filter p xs)) ≡ suc cut) (sym in') (ap suc rest)

rise_at : (f : ℕ → ℕ) (xs : List ℕ) (i j : ℕ) → AllPairs (λ x later. f x ≤ f later) xs → i ≤ j → j < length xs → f (get_or xs i 0) ≤ f (get_or xs j 0)
rise_at f xs i j rise order less =
    ⊎_elim (λ first. rise i j 0 first less) (λ last. let same : i ≡ j = omega arith in subst (λ k. f (get_or xs i 0) ≤ f (get_or xs k 0)) same (omega arith)) (cases_lt i j)

-- the row of the owner of the method at a place
owner_at : (f : ℕ → ℕ) (xs owners : List ℕ) (k d : ℕ) → owners ≡ map (λ x. f x + 2) xs → k < length xs → get_or owners k d ≡ f (get_or xs k 0) + 2
owner_at f xs owners k d e less = ap (λ l. get_or l k d) e ∙ get_or-map (λ x. f x + 2) xs k 0 d less

pub as_many : (f : ℕ → ℕ) (xs owners : List ℕ) → owners ≡ map (λ x. f x + 2) xs → length owners ≡ length xs
as_many f xs owners e = ap length e ∙ length-map xs (λ x. f x + 2)

-- no row of an owner that comes before a row stands behind one that does not
pub table_owners_rise : (f : ℕ → ℕ) (xs owners : List ℕ) (row : ℕ) → owners ≡ map (λ x. f x + 2) xs → AllPairs (λ x later. f x ≤ f later) xs → IsPartitionedBy (λ y. ltb y row) owners
table_owners_rise f xs owners row e rise = λ i j d order less passes.
    (let many = as_many f xs owners e in
    let below : get_or owners j d < row = ltb-true (get_or owners j d) row passes in
    let at_j : get_or owners j d ≡ f (get_or xs j 0) + 2 = owner_at f xs owners j d e (omega (arith, many)) in
    let at_i : get_or owners i d ≡ f (get_or xs i 0) + 2 = owner_at f xs owners i d e (omega (arith, many)) in
    let rising : f (get_or xs i 0) ≤ f (get_or xs j 0) = rise_at f xs i j rise order (omega (arith, many)) in
    lt-ltb (get_or owners i d) row (omega (arith, below, at_j, at_i, rising)))

-- where the rows of owners are cut at a row, so many methods have an owner before it
pub table_cut_at : (f : ℕ → ℕ) (xs owners : List ℕ) (row place cut : ℕ) → owners ≡ map (λ x. f x + 2) xs → row ≡ place + 2 → cut ≤ length owners → IsPartitionPoint (λ y. ltb y row ≡ true) (λ y. ltb y row ≡ false) owners cut → length (filter (λ x. nat_lt (f x) place) xs) ≡ cut
table_cut_at f xs owners row place cut e row_is within parted =
    let many = as_many f xs owners e in
    cut_counts (λ x. nat_lt (f x) place) xs cut (omega (arith, many))
    (λ k less. let at = owner_at f xs owners k 0 e (omega (arith, many)) in lt-ltb (f (get_or xs k 0)) place (omega (arith, at, row_is, ltb-true (get_or owners k 0) row (parted.0 k 0 (omega arith) less))))
    (λ k from less. let at = owner_at f xs owners k 0 e less in le-ltb (f (get_or xs k 0)) place (omega (arith, at, row_is, ltb-false (get_or owners k 0) row (parted.1 k 0 from (omega (arith, many))))))

-- PLACES

placed : (other number i : ℕ) (types : List ℕ) (first : Bool) → (other == number) ≡ first → (first ≡ true → i ≡ 0) → (first ≡ false → 1 + place_of types number ≡ i) → (if first then 0 else 1 + place_of types number) ≡ i
placed other number i types true e first_is later_is = sym (first_is refl)
placed other number i types false e first_is later_is = later_is refl

differ : (other number i : ℕ) (types : List ℕ) → AllByRecursion (λ y. (other == y) ≡ false) types → slice_get types i ≡ Some number → (other == number) ≡ false
differ other number i [] each at = absurd (cc)
differ other number zero (x ∷ types) each at = let same : x ≡ number = cc in subst (λ y. (other == y) ≡ false) same each.0
differ other number (suc i) (x ∷ types) each at = differ other number i types each.1 at

-- of a list without repeats an item stands where it stands
pub table_place_at : (types : List ℕ) (i number : ℕ) → IsDistinct (λ type other. type == other) types → slice_get types i ≡ Some number → place_of types number ≡ i
unfolding IsDistinct
table_place_at [] i number once at = absurd (cc)
table_place_at (other ∷ types) zero number once at = let same : other ≡ number = cc in placed other number 0 types (other == number) refl (λ e. refl) (λ e. absurd (true≢false (sym (eq-eqb other number same) ∙ e)))
table_place_at (other ∷ types) (suc i) number once at =
    placed other number (suc i) types (other == number) refl
    (λ e. absurd (true≢false (sym e ∙ differ other number i types once.0 at)))
    (λ e. omega (arith, table_place_at types i number once.1 at))
