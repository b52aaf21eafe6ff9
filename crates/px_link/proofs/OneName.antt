-- A type and a method have one full name, and no two methods come before each other.
use Rattle.std.proofs.Common.{◌≡◌, ℕ, ◌<◌, List, [], ◌∷◌, ◌++◌, codes, Option, refl, sym, ap, ◌∙◌, subst, arith}
use Rattle.std.specs.Cmp.Lexicographic.{slice_cmp}
use Rattle.std.specs.Ordering.{MatchOrdering, nat_cmp, ordering_reverse}
use Rattle.std.specs.declared.cmp.Ordering.{Ordering}
use Rattle.std.specs.declared.cmp.Ordering.TheVariants.{Less, Equal, Greater}
use Rattle.std.proofs.lemmas.Cmp.{nat_list_cmp_total}
use Rattle.px_meta.specs.Chains.{Ends, GoesOn, IsChain}
use Rattle.px_meta.specs.FullNames.{IsTypeName, type_name}
use Rattle.px_meta.specs.Members.{owner_of}
use Rattle.px_meta.specs.Rows.{cell, methods, text_at}
use Rattle.px_link_methods.specs.Methods.{IsMethodName}
use Rattle.px_link_reach.specs.Overriders.{IsBefore}
use Rattle.px_tables.specs.Metadata.{View}

-- a row has one chain
pub one_chain : (next : ℕ → Option ℕ) (row : ℕ) (behind others : List ℕ) → IsChain next row behind → IsChain next row others → behind ≡ others
one_chain next row [] [] chain other = refl
one_chain next row [] (o ∷ others) (Ends _ none) (GoesOn _ _ _ on rest) = absurd (cc)
one_chain next row (b ∷ behind) [] (GoesOn _ _ _ on rest) (Ends _ none) = absurd (cc)
one_chain next row (b ∷ behind) (o ∷ others) (GoesOn _ _ _ on rest) (GoesOn _ _ _ other_on other_rest) =
    let same : o ≡ b = cc in
    let later = one_chain next b behind others rest (subst (λ r. IsChain next r others) same other_rest) in
    cc

-- and one name
pub one_name : (v : View) (row : ℕ) (name other : List ℕ) → IsTypeName v row name → IsTypeName v row other → name ≡ other
one_name v row name other is other_is = is.is ∙ ap (type_name v row) (one_chain _ row is.outers other_is.outers is.chain other_is.chain) ∙ sym other_is.is

-- so has a method
pub one_method_name : (v : View) (method : ℕ) (name other : List ℕ) → IsMethodName v method name → IsMethodName v method other → name ≡ other
one_method_name v method name other is other_is =
    is.is
    ∙ ap (λ type. type ++ codes "::" ++ text_at v (cell v methods method 3)) (one_name v (owner_of v methods method) is.type other_is.type is.type_is other_is.type_is)
    ∙ sym other_is.is

-- of two methods one at most comes before the other
not_both_ways : (order back : Ordering) (one other : ℕ) → order ≡ ordering_reverse back → MatchOrdering order (Unit {0}) (one < other) ⊥ → MatchOrdering back (Unit {0}) (other < one) ⊥ → ⊥
not_both_ways Less Less one other turned before later = absurd (cc)
not_both_ways Less Equal one other turned before later = absurd (cc)
not_both_ways Less Greater one other turned before later = absurd later
not_both_ways Equal Less one other turned before later = absurd (cc)
not_both_ways Equal Equal one other turned before later = omega arith
not_both_ways Equal Greater one other turned before later = absurd later
not_both_ways Greater back one other turned before later = absurd before

pub never_both_ways : (v : View) (one other : ℕ) → IsBefore v one other → IsBefore v other one → ⊥
never_both_ways v one other before later =
    let type : later.other_type ≡ before.type = one_name v (owner_of v methods one) later.other_type before.type later.other_type_is before.type_is in
    let other_type : later.type ≡ before.other_type = one_name v (owner_of v methods other) later.type before.other_type later.type_is before.other_type_is in
    let back : MatchOrdering (slice_cmp nat_cmp before.other_type before.type) (Unit {0}) (other < one) ⊥ =
    subst (λ t. MatchOrdering (slice_cmp nat_cmp before.other_type t) (Unit {0}) (other < one) ⊥) type
    (subst (λ t. MatchOrdering (slice_cmp nat_cmp t later.other_type) (Unit {0}) (other < one) ⊥) other_type later.before) in
    not_both_ways (slice_cmp nat_cmp before.type before.other_type) (slice_cmp nat_cmp before.other_type before.type) one other
    (nat_list_cmp_total.antisymm before.type before.other_type) before.before back
