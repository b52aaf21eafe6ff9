-- Chains of numbers end where each number leads to one of lower rank, as that of a type to a base with a lower number.
use Rattle.std.proofs.Common.{◌≡◌, ℕ, zero, suc, ◌+◌, ◌<◌, List, [], ◌∷◌, ◌++◌, Option, Some, None, refl, subst, arith, length}
use Rattle.std.specs.Prelude.{IfSome, slice_get}
use Rattle.px_program.specs.Formed.{HasEnd, base_in, base_of, element_in, element_of}
use Rattle.px_program.specs.declared.program.TypeInfo.{TypeInfo}

-- each number that has a next one leads to one of lower rank
abbrev pub FallsBy : (ℕ → ℕ) → (ℕ → Option ℕ) → Type 0
FallsBy rank next = (number behind : ℕ) → next number ≡ Some behind → rank behind < rank number

chain_from : (next : ℕ → Option ℕ) (number : ℕ) (behind : Option ℕ) → next number ≡ behind → IfSome behind (HasEnd next) → HasEnd next number
chain_from next number None is end = record { behind = []; chain = is }
chain_from next number (Some behind) is end = record { behind = behind ∷ end.behind; chain = (is, end.chain) }

-- what is known of all numbers of lower rank is known of the next one
of_next : (rank : ℕ → ℕ) (next : ℕ → Option ℕ) → FallsBy rank next → (number : ℕ) (behind : Option ℕ) → next number ≡ behind → ((lower : ℕ) → rank lower < rank number → HasEnd next lower) → IfSome behind (HasEnd next)
of_next rank next falls number None is ends = tt
of_next rank next falls number (Some behind) is ends = ends behind (falls number behind is)

end_within : (rank : ℕ → ℕ) (next : ℕ → Option ℕ) → FallsBy rank next → (bound number : ℕ) → rank number < bound → HasEnd next number
end_within rank next falls zero number less = absurd (omega arith)
end_within rank next falls (suc bound) number less =
    chain_from next number (next number) refl
    (of_next rank next falls number (next number) refl (λ lower below. end_within rank next falls bound lower (omega arith)))

-- where the ranks fall, every chain ends
pub every_chain_ends : (rank : ℕ → ℕ) (next : ℕ → Option ℕ) → FallsBy rank next → (number : ℕ) → HasEnd next number
every_chain_ends rank next falls number = end_within rank next falls (suc (rank number)) number (omega arith)

-- what is read of each type of a list that begins at a number is lower than the type's own number
abbrev pub AreBelow : (Option TypeInfo → Option ℕ) → ℕ → List TypeInfo → Type 0
AreBelow read number [] = Unit {0}
AreBelow read number (type ∷ types) = IfSome (read (Some type)) (λ other. other < number) × AreBelow read (suc number) types

pub AreBelow-append : (read : Option TypeInfo → Option ℕ) (number : ℕ) (types more : List TypeInfo) → AreBelow read number types → AreBelow read (number + length types) more → AreBelow read number (types ++ more)
AreBelow-append read number [] more below rest = let same : number + 0 ≡ number = omega arith in subst (λ n. AreBelow read n more) same rest
AreBelow-append read number (type ∷ types) more below rest =
    let same : number + suc (length types) ≡ suc number + length types = omega arith in
    (below.0, AreBelow-append read (suc number) types more below.1 (subst (λ n. AreBelow read n more) same rest))

lower_at : (read : Option TypeInfo → Option ℕ) → read None ≡ None → (number : ℕ) (types : List TypeInfo) → AreBelow read number types → (place other : ℕ) → read (slice_get types place) ≡ Some other → other < number + place
lower_at read none number [] below place other is = absurd (cc)
lower_at read none number (type ∷ types) below zero other is =
    let lower : other < number = subst (λ o. IfSome o (λ n. n < number)) is below.0 in omega arith
lower_at read none number (type ∷ types) below (suc place) other is =
    let lower : other < suc number + place = lower_at read none (suc number) types below.1 place other is in omega arith

-- then it leads from each number to a lower one
pub falls_below : (read : Option TypeInfo → Option ℕ) → read None ≡ None → (types : List TypeInfo) → AreBelow read 0 types → FallsBy (λ number. number) (λ place. read (slice_get types place))
falls_below read none types below place other is = let lower : other < 0 + place = lower_at read none 0 types below place other is in omega arith

-- where each base is lower, every chain of bases ends
pub bases_end : (types : List TypeInfo) → AreBelow base_in 0 types → (type : ℕ) → HasEnd (base_of types) type
bases_end types below = every_chain_ends (λ number. number) (base_of types) (falls_below base_in refl types below)

-- the same of the types of elements
pub elements_end : (types : List TypeInfo) → AreBelow element_in 0 types → (type : ℕ) → HasEnd (element_of types) type
elements_end types below = every_chain_ends (λ number. number) (element_of types) (falls_below element_in refl types below)
