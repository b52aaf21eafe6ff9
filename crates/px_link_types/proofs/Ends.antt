-- A chain within finitely many numbers ends, where it isn't so that it doesn't.
use Rattle.std.proofs.Common.{◌≡◌, ℕ, zero, suc, ◌<◌, ◌≤◌, List, [], ◌∷◌, length, get_or, drop, Option, Some, None, refl, sym, ap, ◌∙◌, subst, arith, length-drop}
use Rattle.indexmap.proofs.IndexTableLemmas.Probe.{pigeonhole}
use Rattle.px_meta.specs.Chains.{Ends, GoesOn, HasEnd, IsChain}

-- each number that has a next one leads to one below the bound
abbrev pub LeadsBelow : ℕ → (ℕ → Option ℕ) → Type 0
LeadsBelow bound next = (number behind : ℕ) → next number ≡ Some behind → behind < bound

abbrev on_to : ℕ → Option (List ℕ) → Option (List ℕ)
on_to behind None = None
on_to behind (Some rest) = Some (behind ∷ rest)

abbrev behind_by : (ℕ → Option (List ℕ)) → Option ℕ → Option (List ℕ)
behind_by chain None = Some []
behind_by chain (Some behind) = on_to behind (chain behind)

-- what is behind a number, where its chain ends within so many steps
abbrev pub chain_within : (ℕ → Option ℕ) → ℕ → ℕ → Option (List ℕ)
chain_within next zero number = None
chain_within next (suc steps) number = behind_by (chain_within next steps) (next number)

-- ENDING IN TIME

tail_of : (behind : ℕ) (rest : Option (List ℕ)) (chain : List ℕ) → on_to behind rest ≡ Some chain → (tail : List ℕ) × ((rest ≡ Some tail) × (behind ∷ tail ≡ chain))
tail_of behind None chain e = absurd (cc)
tail_of behind (Some tail) chain e = (tail, (refl, (let same : behind ∷ tail ≡ chain = cc in same)))

is_behind : (next : ℕ → Option ℕ) (steps number : ℕ) (behind : Option ℕ) → next number ≡ behind → ((other : ℕ) (chain : List ℕ) → chain_within next steps other ≡ Some chain → IsChain next other chain)
    → (chain : List ℕ) → behind_by (chain_within next steps) behind ≡ Some chain → IsChain next number chain
is_behind next steps number None is within chain e = let same : [] ≡ chain = cc in subst (λ c. IsChain next number c) same (Ends number is)
is_behind next steps number (Some behind) is within chain e =
    let parts = tail_of behind (chain_within next steps behind) chain e in
    subst (λ c. IsChain next number c) parts.1.1 (GoesOn number behind parts.0 is (within behind parts.0 parts.1.0))

is_within : (next : ℕ → Option ℕ) (steps number : ℕ) (chain : List ℕ) → chain_within next steps number ≡ Some chain → IsChain next number chain
is_within next zero number chain e = absurd (cc)
is_within next (suc steps) number chain e = is_behind next steps number (next number) refl (is_within next steps) chain e

-- a chain is the only one of its first number
only_chain : (next : ℕ → Option ℕ) (number : ℕ) (one other : List ℕ) → IsChain next number one → IsChain next number other → one ≡ other
only_chain next number [] [] (Ends _ a) (Ends _ b) = refl
only_chain next number [] (c ∷ cs) (Ends _ a) (GoesOn _ _ _ b rest) = absurd (cc)
only_chain next number (b ∷ bs) [] (GoesOn _ _ _ a rest) (Ends _ b') = absurd (cc)
only_chain next number (b ∷ bs) (c ∷ cs) (GoesOn _ _ _ a rest) (GoesOn _ _ _ b' rest') =
    let same : b ≡ c = cc in
    let later = only_chain next b bs cs rest (subst (λ n. IsChain next n cs) (sym same) rest') in
    cc

-- a chain that ends ends within more steps than are behind
in_time : (next : ℕ → Option ℕ) (steps number : ℕ) (chain : List ℕ) → IsChain next number chain → length chain < steps → chain_within next steps number ≡ Some chain
in_time next zero number chain is few = absurd (omega arith)
in_time next (suc steps) number [] (Ends _ none) few = ap (behind_by (chain_within next steps)) none
in_time next (suc steps) number (b ∷ rest) (GoesOn _ _ _ on chain) few =
    ap (behind_by (chain_within next steps)) on ∙ ap (on_to b) (in_time next steps b rest chain (omega arith))

-- FEW NUMBERS

-- what is behind a number of a chain
chain_at : (next : ℕ → Option ℕ) (number : ℕ) (chain : List ℕ) → IsChain next number chain → (k : ℕ) → k < length chain → IsChain next (get_or chain k 0) (drop (suc k) chain)
chain_at next number [] is k less = absurd (omega arith)
chain_at next number (b ∷ rest) (GoesOn _ _ _ on chain) zero less = chain
chain_at next number (b ∷ rest) (GoesOn _ _ _ on chain) (suc k) less = chain_at next b rest chain k (omega arith)

apart : (next : ℕ → Option ℕ) (number : ℕ) (chain : List ℕ) → IsChain next number chain → (i j : ℕ) → i < length chain → j < length chain → get_or chain i 0 ≡ get_or chain j 0 → i ≡ j
apart next number chain is i j below below' e =
    let here = chain_at next number chain is i below in
    let there = chain_at next number chain is j below' in
    let same = only_chain next (get_or chain j 0) (drop (suc i) chain) (drop (suc j) chain) (subst (λ n. IsChain next n (drop (suc i) chain)) e here) there in
    omega (arith, ap length same, length-drop (suc i) chain, length-drop (suc j) chain)

below_at : (next : ℕ → Option ℕ) (bound number : ℕ) (chain : List ℕ) → LeadsBelow bound next → IsChain next number chain → (k : ℕ) → k < length chain → get_or chain k 0 < bound
below_at next bound number [] below is k less = absurd (omega arith)
below_at next bound number (b ∷ rest) below (GoesOn _ _ _ on chain) zero less = below number b on
below_at next bound number (b ∷ rest) below (GoesOn _ _ _ on chain) (suc k) less = below_at next bound b rest below chain k (omega arith)

short : (next : ℕ → Option ℕ) (bound number : ℕ) (chain : List ℕ) → LeadsBelow bound next → IsChain next number chain → length chain ≤ bound
short next bound number chain below is = pigeonhole (length chain) bound (λ k. get_or chain k 0) (below_at next bound number chain below is) (apart next number chain is)

-- every chain that ends does so within one step more than there are numbers
pub in_bound : (next : ℕ → Option ℕ) (bound number : ℕ) → LeadsBelow bound next → (end : HasEnd next number) → chain_within next (suc bound) number ≡ Some end.behind
in_bound next bound number below end = in_time next (suc bound) number end.behind end.chain (omega (arith, short next bound number end.behind below end.chain))

end_by : (next : ℕ → Option ℕ) (bound number : ℕ) (chain : Option (List ℕ)) → chain_within next (suc bound) number ≡ chain → LeadsBelow bound next → ((HasEnd next number → ⊥) → ⊥) → HasEnd next number
end_by next bound number None e below ends = absurd (ends (λ end. let is = in_bound next bound number below end in absurd (cc)))
end_by next bound number (Some chain) e below ends = record { behind = chain; chain = is_within next (suc bound) number chain e }

-- a chain ends where it isn't so that it doesn't
pub has_end : (next : ℕ → Option ℕ) (bound number : ℕ) → LeadsBelow bound next → ((HasEnd next number → ⊥) → ⊥) → HasEnd next number
has_end next bound number below ends = end_by next bound number (chain_within next (suc bound) number) refl below ends

-- THE LENGTHS OF CHAINS

abbrev length_of : Option (List ℕ) → ℕ
length_of None = 0
length_of (Some chain) = length chain

-- how many numbers are behind one, where that is fewer than a bound allows
abbrev pub steps_left : (ℕ → Option ℕ) → ℕ → ℕ → ℕ
steps_left next bound number = length_of (chain_within next (suc bound) number)

behind_end : (next : ℕ → Option ℕ) (number behind : ℕ) (chain : List ℕ) → IsChain next number chain → next number ≡ Some behind → (rest : List ℕ) × (IsChain next behind rest × (length chain ≡ suc (length rest)))
behind_end next number behind [] (Ends _ none) on = absurd (cc)
behind_end next number behind (b ∷ rest) (GoesOn _ _ _ on' chain) on = let same : b ≡ behind = cc in (rest, (subst (λ n. IsChain next n rest) same chain, refl))

-- the next number has fewer behind it
pub fewer_left : (next : ℕ → Option ℕ) (bound number behind : ℕ) → LeadsBelow bound next → HasEnd next number → next number ≡ Some behind → steps_left next bound behind < steps_left next bound number
fewer_left next bound number behind below end on =
    let rest = behind_end next number behind end.behind end.chain on in
    let later : HasEnd next behind = record { behind = rest.0; chain = rest.1.0 } in
    let here = ap length_of (in_bound next bound number below end) in
    let there = ap length_of (in_bound next bound behind below later) in
    omega (arith, here, there, rest.1.1)
