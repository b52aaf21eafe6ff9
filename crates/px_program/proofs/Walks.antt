-- Walks along chains of numbers: from each number there is one chain, and it is no longer than there are numbers that lead on.
use Rattle.std.proofs.Common.{◌≡◌, inl, inr, ℕ, zero, suc, ◌+◌, ◌<◌, ◌≤◌, List, [], ◌∷◌, Option, Some, None, true, false, eqb, refl, sym, ap, subst, arith, length, zero-add}
use Rattle.std.specs.List.{AllByRecursion, IsDistinct, list_any}
use Rattle.std.proofs.lemmas.Bool.Decides.{eqb_tells}
use Rattle.std.proofs.lemmas.Map.Steps.{length-le_from_distinct_below}
use Rattle.px_program.specs.Formed.{HasEnd, IsBehind, IsChain}

-- ONE CHAIN

-- a number has one chain at most
pub chain_is_one : (next : ℕ → Option ℕ) (at : ℕ) (xs ys : List ℕ) → IsChain next at xs → IsChain next at ys → xs ≡ ys
chain_is_one next at [] [] first second = refl
chain_is_one next at [] (y ∷ ys) first second = let some : next at ≡ Some y = second.0 in absurd (cc)
chain_is_one next at (x ∷ xs) [] first second = let some : next at ≡ Some x = first.0 in absurd (cc)
chain_is_one next at (x ∷ xs) (y ∷ ys) first second =
    let one : next at ≡ Some x = first.0 in
    let other : next at ≡ Some y = second.0 in
    let same : x ≡ y = cc in
    let rest : IsChain next y xs = subst (λ n. IsChain next n xs) same first.1 in
    let rests : xs ≡ ys = chain_is_one next y xs ys rest second.1 in
    cc

-- the numbers of a chain that lead on
before : ℕ → List ℕ → List ℕ
before at [] = []
before at (x ∷ xs) = at ∷ before x xs

length_before : (at : ℕ) (xs : List ℕ) → length (before at xs) ≡ length xs
unfolding before
length_before at [] = refl
length_before at (x ∷ xs) = ap suc (length_before x xs)

each_leads : (next : ℕ → Option ℕ) (bound : ℕ) → ((n m : ℕ) → next n ≡ Some m → n < bound) → (at : ℕ) (xs : List ℕ) → IsChain next at xs → AllByRecursion (λ n. n < bound) (before at xs)
unfolding before
each_leads next bound within at [] chain = tt
each_leads next bound within at (x ∷ xs) chain = (within at x chain.0, each_leads next bound within x xs chain.1)

is_below : (bound : ℕ) (xs : List ℕ) → AllByRecursion (λ n. n < bound) xs → (n : ℕ) → list_any (eqb n) xs ≡ true → n < bound
is_below bound [] each n is = absurd (cc)
is_below bound (x ∷ xs) each n is = elim (eqb_tells n x) [
  | inl same ↦ omega (arith, same.1, each.0)
  | inr apart ↦ is_below bound xs each.1 n (rw apart.0 at is)
]

-- a number is none of those whose chains are shorter
apart_from : (next : ℕ → Option ℕ) (at : ℕ) (all : List ℕ) → IsChain next at all → (x : ℕ) (xs : List ℕ) → IsChain next x xs → length xs < length all → AllByRecursion (λ n. eqb at n ≡ false) (before x xs)
unfolding before
apart_from next at all of_all x [] chain less = tt
apart_from next at all of_all x (y ∷ xs) chain less =
    let here : eqb at x ≡ false = elim (eqb_tells at x) [
      | inl same ↦
          let lengths : length all ≡ suc (length xs) = ap length (chain_is_one next x all (y ∷ xs) (subst (λ n. IsChain next n all) same.1 of_all) chain) in
          absurd (omega arith)
      | inr apart ↦ apart.0
    ] in
    (here, apart_from next at all of_all y xs chain.1 (omega arith))

all_apart : (next : ℕ → Option ℕ) (at : ℕ) (xs : List ℕ) → IsChain next at xs → IsDistinct eqb (before at xs)
unfolding before IsDistinct
all_apart next at [] chain = tt
all_apart next at (x ∷ xs) chain = (apart_from next at (x ∷ xs) chain x xs chain.1 (omega arith), all_apart next x xs chain.1)

-- where only numbers below a bound lead on, no chain is longer than it
pub chain_is_short : (next : ℕ → Option ℕ) (bound : ℕ) → ((n m : ℕ) → next n ≡ Some m → n < bound) → (at : ℕ) (xs : List ℕ) → IsChain next at xs → length xs ≤ bound
chain_is_short next bound within at xs chain =
    let few : length (before at xs) ≤ bound = length-le_from_distinct_below (before at xs) bound (all_apart next at xs chain) (is_below bound (before at xs) (each_leads next bound within at xs chain)) in
    omega (arith, length_before at xs)

-- STEPS THAT ARE LEFT

-- how many numbers a walk still comes to, counted up to a limit
abbrev pub steps_left : (ℕ → Option ℕ) → ℕ → Option ℕ → ℕ
steps_left next limit None = 0
steps_left next zero (Some at) = 0
steps_left next (suc limit) (Some at) = suc (steps_left next limit (next at))

steps_are : (next : ℕ → Option ℕ) (limit at : ℕ) (xs : List ℕ) → IsChain next at xs → length xs < limit → steps_left next limit (Some at) ≡ suc (length xs)
steps_are next zero at xs chain less = absurd (omega arith)
steps_are next (suc limit) at [] chain less = let end : next at ≡ None = chain in rw end refl
steps_are next (suc limit) at (x ∷ xs) chain less =
    let goes : next at ≡ Some x = chain.0 in
    let rest : steps_left next limit (Some x) ≡ suc (length xs) = steps_are next limit x xs chain.1 (omega arith) in
    rw (goes, rest) refl

fall_along : (next : ℕ → Option ℕ) (limit at : ℕ) (xs : List ℕ) → IsChain next at xs → length xs < limit → steps_left next limit (next at) < steps_left next limit (Some at)
fall_along next limit at [] chain less =
    let end : next at ≡ None = chain in
    let now : steps_left next limit (Some at) ≡ 1 = steps_are next limit at [] chain less in
    rw (end, now) (omega arith)
fall_along next limit at (x ∷ xs) chain less =
    let goes : next at ≡ Some x = chain.0 in
    let now : steps_left next limit (Some at) ≡ suc (suc (length xs)) = steps_are next limit at (x ∷ xs) chain less in
    let then : steps_left next limit (Some x) ≡ suc (length xs) = steps_are next limit x xs chain.1 (omega arith) in
    rw (goes, now, then) (omega arith)

-- where all chains end and only numbers below a bound lead on, each step leaves fewer
pub steps_fall : (next : ℕ → Option ℕ) (bound : ℕ) → ((n m : ℕ) → next n ≡ Some m → n < bound) → ((n : ℕ) → HasEnd next n) → (at : ℕ) → steps_left next (suc bound) (next at) < steps_left next (suc bound) (Some at)
steps_fall next bound within ends at =
    let short : length (ends at).behind ≤ bound = chain_is_short next bound within at (ends at).behind (ends at).chain in
    fall_along next (suc bound) at (ends at).behind (ends at).chain (omega arith)

-- WAYS

-- two ways, one after the other
pub way_through : (next : ℕ → Option ℕ) (n m from between to : ℕ) → IsBehind next n from between → IsBehind next m between to → IsBehind next (n + m) from to
way_through next zero m from between to first second = rw zero-add (subst (λ x. IsBehind next m x to) (sym first) second)
way_through next (suc n) m from between to first second =
    let sums : suc n + m ≡ suc (n + m) = omega arith in
    rw sums (first.0, first.1, way_through next n m first.0 between to first.2 second)
