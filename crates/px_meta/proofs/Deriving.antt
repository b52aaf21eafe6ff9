-- Going up from type to base.
use Rattle.std.proofs.Common.{◌≡◌, ◌≢◌, ℕ, ◌+◌, ◌≤◌, List, [], ◌∷◌, length, Some, None, ap, ◌∙◌, subst, arith}
use Rattle.px_tables.specs.Metadata.{View}
use Rattle.px_meta.specs.Chains.{Ends, GoesOn, HasEnd, IsChain, base_in}
use Rattle.px_meta.specs.Overriding.{Derives, Directly, Through}
use Rattle.px_meta.specs.Rows.{IsRow, count_of, type_defs}
use Rattle.px_meta.proofs.Lengths.{no_longer}
use Rattle.px_meta.proofs.Verdicts.{base_stays}

-- the chain that is left, which grows shorter with each turn
pub record IsLeft (v : View) (turn at : ℕ) : Type 0 where
  pub row : IsRow v type_defs at
  pub rest : List ℕ
  pub chain : IsChain (base_in v) at rest
  pub short : length rest + turn ≤ count_of v type_defs

pub left_begun : (v : View) (at : ℕ) → IsRow v type_defs at → HasEnd (base_in v) at → IsLeft v 0 at
left_begun v at is e = record { row = is; rest = e.behind; chain = e.chain; short = let short = no_longer v (base_in v) at e.behind (base_stays v) e.chain in omega arith }

left_behind : (v : View) (turn at base : ℕ) (rest : List ℕ) → IsChain (base_in v) at rest → length rest + turn ≤ count_of v type_defs → base_in v at ≡ Some base → IsLeft v (turn + 1) base
left_behind v turn at base [] (Ends _ none) short is = absurd (cc)
left_behind v turn at base (b ∷ rest) (GoesOn _ _ _ on chain) short is =
    let same : b ≡ base = cc in
    record {
      row = base_stays v at base is;
      rest = rest;
      chain = subst (λ n. IsChain (base_in v) n rest) same chain;
      short = omega arith;
    }

pub left_more : (v : View) (turn at base : ℕ) → IsLeft v turn at → base_in v at ≡ Some base → IsLeft v (turn + 1) base
left_more v turn at base left is = left_behind v turn at base left.rest left.chain left.short is

no_base : (v : View) (at : ℕ) (rest : List ℕ) → IsChain (base_in v) at rest → length rest ≤ 0 → base_in v at ≡ None
no_base v at [] (Ends _ none) short = none
no_base v at (b ∷ rest) (GoesOn _ _ _ on chain) short = absurd (omega arith)

-- behind the last turn the chain is at its end
pub left_none : (v : View) (turn at : ℕ) → IsLeft v turn at → count_of v type_defs ≤ turn → base_in v at ≡ None
left_none v turn at left all = no_base v at left.rest left.chain (omega (arith, left.short))

-- a climb that hasn't come to an ancestor yet
pub record IsClimbing (v : View) (from ancestor turn at : ℕ) : Type 0 where
  pub left : IsLeft v turn at
  pub there : Derives v at ancestor → Derives v from ancestor
  pub back : Derives v from ancestor → Derives v at ancestor

pub climb_begun : (v : View) (from ancestor : ℕ) → IsRow v type_defs from → HasEnd (base_in v) from → IsClimbing v from ancestor 0 from
climb_begun v from ancestor is e = record { left = left_begun v from is e; there = λ d. d; back = λ d. d }

behind_base : (v : View) (at ancestor base : ℕ) → base_in v at ≡ Some base → base ≢ ancestor → Derives v at ancestor → Derives v base ancestor
behind_base v at ancestor base is other (Directly _ _ on) = absurd (other (let e : base ≡ ancestor = cc in e))
behind_base v at ancestor base is other (Through _ between _ on derives) = subst (λ n. Derives v n ancestor) (let e : between ≡ base = cc in e) derives

pub climb_more : (v : View) (from ancestor turn at base : ℕ) → IsClimbing v from ancestor turn at → base_in v at ≡ Some base → base ≢ ancestor → IsClimbing v from ancestor (turn + 1) base
climb_more v from ancestor turn at base climb is other = record {
  left = left_more v turn at base climb.left is;
  there = λ d. climb.there (Through at base ancestor is d);
  back = λ d. behind_base v at ancestor base is other (climb.back d);
}

pub climb_found : (v : View) (from ancestor turn at base : ℕ) → IsClimbing v from ancestor turn at → base_in v at ≡ Some base → base ≡ ancestor → Derives v from ancestor
climb_found v from ancestor turn at base climb is same = climb.there (Directly at ancestor (is ∙ ap (λ n. Some n) same))

underived : (v : View) (at ancestor : ℕ) → base_in v at ≡ None → Derives v at ancestor → ⊥
underived v at ancestor none (Directly _ _ on) = cc
underived v at ancestor none (Through _ between _ on derives) = cc

pub climb_ended : (v : View) (from ancestor turn at : ℕ) → IsClimbing v from ancestor turn at → base_in v at ≡ None → Derives v from ancestor → ⊥
climb_ended v from ancestor turn at climb none d = underived v at ancestor none (climb.back d)

pub climb_over : (v : View) (from ancestor turn at : ℕ) → IsClimbing v from ancestor turn at → count_of v type_defs ≤ turn → Derives v from ancestor → ⊥
climb_over v from ancestor turn at climb all = climb_ended v from ancestor turn at climb (left_none v turn at climb.left all)
