-- What merges do to stacks.
use Rattle.std.proofs.Common.{◌≡◌, ◌⊎◌, inl, inr, ℕ, suc, ◌+◌, ◌<◌, ◌≤◌, List, [], ◌∷◌, Option, Some, None, Bool, true, false, refl, sym, ap, ◌∙◌, subst, arith, length}
use Rattle.std.specs.Prelude.{◌==◌, ◌||◌, if◌then◌else◌}
use Rattle.px_program.specs.Formed.{AreTypes, IsChain, base_of}
use Rattle.px_program.specs.declared.program.TypeInfo.{TypeInfo}
use Rattle.px_program.proofs.Fitting.{fits_itself, fits_kind as kind_fits, fits_object, fits_through, kind_through}
use Rattle.px_program.proofs.Walks.{chain_is_short}
use Rattle.px_verify_kinds.specs.Heights.{Absorbs, AbsorbsOn, CommonAbove, FitsAreOrdered, GivenIsAbsorbed, HeightIsBounded, MergesFall, kind_height, met, met_with, most_height, stack_height}
use Rattle.px_verify_kinds.specs.Kinds.{FitAll, common, fits, fits_kind, is_in, is_kind_of, line_of, merge, merge_kind, nearest, put_on}
use Rattle.px_verify_kinds.specs.declared.kind.Kind.{Kind}
use Rattle.px_verify_kinds.specs.declared.kind.Kind.TheVariants as kinds
use Rattle.px_verify_kinds.proofs.Lines.{by_bool, by_option, common_itself, fits_is, is_fit, is_kind, is_same, kind_is, line_is, line_last, line_step, same_is, types_within, walk_finds}

-- COMMON BASES

object_base : (types : List TypeInfo) → AreTypes types → base_of types 0 ≡ None
object_base [] are = refl
object_base (type ∷ types) are = let bases = are.library in cc

nearest_cases : (line others : List ℕ) → ((is_in line (nearest line others) ≡ true) × (is_in others (nearest line others) ≡ true)) ⊎ (nearest line others ≡ 0)
nearest_cases [] others = inr refl
nearest_cases (type ∷ bases) others = by_bool (λ b. ((is_in (type ∷ bases) (if b then type else nearest bases others) ≡ true) × (is_in others (if b then type else nearest bases others) ≡ true)) ⊎ ((if b then type else nearest bases others) ≡ 0)) (is_in others type)
    (λ here. inl (let same : (type == type) ≡ true = is_same type type refl in ap (λ b. b || is_in bases type) same, here))
    (λ apart. later (nearest_cases bases others))
  where
    or_right : (a b : Bool) → b ≡ true → (a || b) ≡ true
    or_right true b h = refl
    or_right false b h = h

    later : ((is_in bases (nearest bases others) ≡ true) × (is_in others (nearest bases others) ≡ true)) ⊎ (nearest bases others ≡ 0) → ((is_in (type ∷ bases) (nearest bases others) ≡ true) × (is_in others (nearest bases others) ≡ true)) ⊎ (nearest bases others ≡ 0)
    later (inl both) = inl (or_right (type == nearest bases others) (is_in bases (nearest bases others)) both.0, both.1)
    later (inr none) = inr none

-- the common base is one of both, or `Object`
common_cases : (types : List TypeInfo) (type other : ℕ) → ((is_kind_of types type (common types type other) ≡ true) × (is_kind_of types other (common types type other) ≡ true)) ⊎ (common types type other ≡ 0)
common_cases types type other = nearest_cases (line_of types type) (line_of types other)

common_object : (types : List TypeInfo) → AreTypes types → (other : ℕ) → common types 0 other ≡ 0
common_object types are other = ap (λ line. nearest line (line_of types other)) (line_last types are 0 (object_base types are)) ∙ both (is_in (line_of types other) 0)
  where
    both : (b : Bool) → (let zeros : ℕ = if b then 0 else 0 in zeros ≡ 0)
    both true = refl
    both false = refl

common_of_zero : (types : List TypeInfo) → AreTypes types → (type other : ℕ) → type ≡ 0 → common types type other ≡ type
common_of_zero types are type other none = ap (λ t. common types t other) none ∙ common_object types are other ∙ sym none

kind_common : (types : List TypeInfo) → AreTypes types → (type other : ℕ) → is_kind_of types other type ≡ true → common types type other ≡ type
kind_common types are type other kind = walk_finds types are type other kind

through : (types : List TypeInfo) → AreTypes types → (type between other : ℕ) → is_kind_of types type between ≡ true → is_kind_of types between other ≡ true → is_kind_of types type other ≡ true
through types are type between other first second = is_kind types are type other (kind_through types type between other (kind_is types are type between first) (kind_is types are between other second))

-- what was given is absorbed
common_given : (types : List TypeInfo) → AreTypes types → (type other : ℕ) → common types (common types type other) other ≡ common types type other
common_given types are type other = elim (common_cases types type other) [
  | inl both ↦ kind_common types are (common types type other) other both.1
  | inr none ↦ common_of_zero types are (common types type other) other none
]

-- and stays so
common_on : (types : List TypeInfo) → AreTypes types → (type given other : ℕ) → common types type given ≡ type → common types (common types type other) given ≡ common types type other
common_on types are type given other absorbs = elim (common_cases types type other) [
  | inl both ↦ elim (common_cases types type given) [
    | inl mine ↦
        let kind : is_kind_of types given type ≡ true = subst (λ t. is_kind_of types given t ≡ true) absorbs mine.1 in
        kind_common types are (common types type other) given (through types are given type (common types type other) kind both.0)
    | inr none ↦
        let object : type ≡ 0 = sym absorbs ∙ none in
        let lower : common types type other ≡ 0 = common_of_zero types are type other object ∙ object in
        common_of_zero types are (common types type other) given lower
  ]
  | inr none ↦ common_of_zero types are (common types type other) given none
]

-- HEIGHTS

shorter_by : (types : List TypeInfo) → AreTypes types → (type : ℕ) (behind : List ℕ) (other : ℕ) → IsChain (base_of types) type behind → is_in (type ∷ behind) other ≡ true → (other ≡ type) ⊎ (length (line_of types other) < length (line_of types type))
shorter_by types are type [] other chain is = by_bool (λ b. (b || false) ≡ true → (other ≡ type) ⊎ (length (line_of types other) < length (line_of types type))) (type == other)
    (λ same h. inl (sym (same_is type other same)))
    (λ apart h. absurd (cc))
    is
shorter_by types are type (base ∷ behind) other chain is = by_bool (λ b. (b || is_in (base ∷ behind) other) ≡ true → (other ≡ type) ⊎ (length (line_of types other) < length (line_of types type))) (type == other)
    (λ same h. inl (sym (same_is type other same)))
    (λ apart h. later (shorter_by types are base behind other chain.1 h))
    is
  where
    goes : base_of types type ≡ Some base
    goes = chain.0

    longer : length (line_of types type) ≡ suc (length (line_of types base))
    longer = ap length (line_step types are type base goes)

    later : (other ≡ base) ⊎ (length (line_of types other) < length (line_of types base)) → (other ≡ type) ⊎ (length (line_of types other) < length (line_of types type))
    later (inl same) = inr (let as_long : length (line_of types other) ≡ length (line_of types base) = ap (λ t. length (line_of types t)) same in omega (arith, longer, as_long))
    later (inr less) = inr (omega (arith, longer, less))

shorter : (types : List TypeInfo) → AreTypes types → (type other : ℕ) → is_kind_of types type other ≡ true → (other ≡ type) ⊎ (length (line_of types other) < length (line_of types type))
shorter types are type other is =
    let end = are.bases type in
    shorter_by types are type end.behind other end.chain (subst (λ line. is_in line other ≡ true) (line_is types are type) is)

line_some : (types : List TypeInfo) → AreTypes types → (type : ℕ) → 0 < length (line_of types type)
line_some types are type = omega (arith, ap length (line_is types are type))

line_short : (types : List TypeInfo) → AreTypes types → (type : ℕ) → length (line_of types type) ≤ suc (length types)
line_short types are type =
    let end = are.bases type in
    let short : length end.behind ≤ length types = chain_is_short (base_of types) (length types) (types_within types) type end.behind end.chain in
    omega (arith, short, ap length (line_is types are type))

ref_height : (types : List TypeInfo) (type : ℕ) → (type ≡ 0) × (kind_height types (kinds.Ref type) ≡ 0) ⊎ ((type ≡ 0 → ⊥) × (kind_height types (kinds.Ref type) ≡ length (line_of types type)))
ref_height types type = by_bool (λ b. (type == 0) ≡ b → (type ≡ 0) × ((if b then 0 else length (line_of types type)) ≡ 0) ⊎ ((type ≡ 0 → ⊥) × ((if b then 0 else length (line_of types type)) ≡ length (line_of types type)))) (type == 0)
    (λ object h. inl (same_is type 0 object, refl))
    (λ some h. inr ((λ object. let same : (type == 0) ≡ true = is_same type 0 object in absurd (cc)), refl))
    refl

height_low : (types : List TypeInfo) → AreTypes types → (kind : Kind) → kind_height types kind ≤ most_height types
height_low types are kinds.I = omega arith
height_low types are kinds.L = omega arith
height_low types are kinds.N = omega arith
height_low types are kinds.Null = omega arith
height_low types are (kinds.Ref type) = elim (ref_height types type) [
  | inl object ↦ omega (arith, object.1)
  | inr some ↦ omega (arith, some.1, line_short types are type)
]

ref_below_null : (types : List TypeInfo) → AreTypes types → (type : ℕ) → kind_height types (kinds.Ref type) < most_height types
ref_below_null types are type = elim (ref_height types type) [
  | inl object ↦ omega (arith, object.1)
  | inr some ↦ omega (arith, some.1, line_short types are type)
]

common_falls : (types : List TypeInfo) → AreTypes types → (type other : ℕ) → (common types type other ≡ type) ⊎ (kind_height types (kinds.Ref (common types type other)) < kind_height types (kinds.Ref type))
common_falls types are type other = elim (ref_height types type) [
  | inl object ↦ inl (common_of_zero types are type other object.0)
  | inr some ↦ elim (ref_height types (common types type other)) [
    | inl zero_one ↦ inr (omega (arith, zero_one.1, some.1, line_some types are type))
    | inr one ↦ elim (common_cases types type other) [
      | inl both ↦ elim (shorter types are type (common types type other) both.0) [
        | inl same ↦ inl same
        | inr less ↦ inr (omega (arith, less, some.1, one.1))
      ]
      | inr none ↦ absurd (one.0 none)
    ]
  ]
]

-- KINDS

kind_given : (types : List TypeInfo) → AreTypes types → (standing given merged : Kind) → merge_kind types standing given ≡ Some merged → merge_kind types merged given ≡ Some merged
kind_given types are kinds.I kinds.I merged is = let same : kinds.I ≡ merged = cc in subst (λ k. merge_kind types k kinds.I ≡ Some k) same refl
kind_given types are kinds.L kinds.L merged is = let same : kinds.L ≡ merged = cc in subst (λ k. merge_kind types k kinds.L ≡ Some k) same refl
kind_given types are kinds.N kinds.N merged is = let same : kinds.N ≡ merged = cc in subst (λ k. merge_kind types k kinds.N ≡ Some k) same refl
kind_given types are kinds.Null kinds.Null merged is = let same : kinds.Null ≡ merged = cc in subst (λ k. merge_kind types k kinds.Null ≡ Some k) same refl
kind_given types are kinds.Null (kinds.Ref type) merged is = let same : kinds.Ref type ≡ merged = cc in subst (λ k. merge_kind types k (kinds.Ref type) ≡ Some k) same (ap (λ t. Some (kinds.Ref t)) (common_itself types are type))
kind_given types are (kinds.Ref type) kinds.Null merged is = let same : kinds.Ref type ≡ merged = cc in subst (λ k. merge_kind types k kinds.Null ≡ Some k) same refl
kind_given types are (kinds.Ref type) (kinds.Ref other) merged is = let same : kinds.Ref (common types type other) ≡ merged = cc in subst (λ k. merge_kind types k (kinds.Ref other) ≡ Some k) same (ap (λ t. Some (kinds.Ref t)) (common_given types are type other))
kind_given types are kinds.I kinds.L merged is = absurd (cc)
kind_given types are kinds.I kinds.N merged is = absurd (cc)
kind_given types are kinds.I kinds.Null merged is = absurd (cc)
kind_given types are kinds.I (kinds.Ref other) merged is = absurd (cc)
kind_given types are kinds.L kinds.I merged is = absurd (cc)
kind_given types are kinds.L kinds.N merged is = absurd (cc)
kind_given types are kinds.L kinds.Null merged is = absurd (cc)
kind_given types are kinds.L (kinds.Ref other) merged is = absurd (cc)
kind_given types are kinds.N kinds.I merged is = absurd (cc)
kind_given types are kinds.N kinds.L merged is = absurd (cc)
kind_given types are kinds.N kinds.Null merged is = absurd (cc)
kind_given types are kinds.N (kinds.Ref other) merged is = absurd (cc)
kind_given types are kinds.Null kinds.I merged is = absurd (cc)
kind_given types are kinds.Null kinds.L merged is = absurd (cc)
kind_given types are kinds.Null kinds.N merged is = absurd (cc)
kind_given types are (kinds.Ref type) kinds.I merged is = absurd (cc)
kind_given types are (kinds.Ref type) kinds.L merged is = absurd (cc)
kind_given types are (kinds.Ref type) kinds.N merged is = absurd (cc)

the_type : (type other : ℕ) → (let first : Option Kind = Some (kinds.Ref type) in first ≡ Some (kinds.Ref other)) → type ≡ other
the_type type other is = cc

-- a kind that is absorbed stays absorbed
kind_on : (types : List TypeInfo) → AreTypes types → (standing given other merged : Kind) → merge_kind types standing given ≡ Some standing → merge_kind types standing other ≡ Some merged → merge_kind types merged given ≡ Some merged
kind_on types are kinds.I kinds.I kinds.I merged absorbs is = let same : kinds.I ≡ merged = cc in subst (λ k. merge_kind types k kinds.I ≡ Some k) same refl
kind_on types are kinds.I kinds.I kinds.L merged absorbs is = absurd (cc)
kind_on types are kinds.I kinds.I kinds.N merged absorbs is = absurd (cc)
kind_on types are kinds.I kinds.I kinds.Null merged absorbs is = absurd (cc)
kind_on types are kinds.I kinds.I (kinds.Ref third) merged absorbs is = absurd (cc)
kind_on types are kinds.I kinds.L other merged absorbs is = absurd (cc)
kind_on types are kinds.I kinds.N other merged absorbs is = absurd (cc)
kind_on types are kinds.I kinds.Null other merged absorbs is = absurd (cc)
kind_on types are kinds.I (kinds.Ref second) other merged absorbs is = absurd (cc)
kind_on types are kinds.L kinds.I other merged absorbs is = absurd (cc)
kind_on types are kinds.L kinds.L kinds.I merged absorbs is = absurd (cc)
kind_on types are kinds.L kinds.L kinds.L merged absorbs is = let same : kinds.L ≡ merged = cc in subst (λ k. merge_kind types k kinds.L ≡ Some k) same refl
kind_on types are kinds.L kinds.L kinds.N merged absorbs is = absurd (cc)
kind_on types are kinds.L kinds.L kinds.Null merged absorbs is = absurd (cc)
kind_on types are kinds.L kinds.L (kinds.Ref third) merged absorbs is = absurd (cc)
kind_on types are kinds.L kinds.N other merged absorbs is = absurd (cc)
kind_on types are kinds.L kinds.Null other merged absorbs is = absurd (cc)
kind_on types are kinds.L (kinds.Ref second) other merged absorbs is = absurd (cc)
kind_on types are kinds.N kinds.I other merged absorbs is = absurd (cc)
kind_on types are kinds.N kinds.L other merged absorbs is = absurd (cc)
kind_on types are kinds.N kinds.N kinds.I merged absorbs is = absurd (cc)
kind_on types are kinds.N kinds.N kinds.L merged absorbs is = absurd (cc)
kind_on types are kinds.N kinds.N kinds.N merged absorbs is = let same : kinds.N ≡ merged = cc in subst (λ k. merge_kind types k kinds.N ≡ Some k) same refl
kind_on types are kinds.N kinds.N kinds.Null merged absorbs is = absurd (cc)
kind_on types are kinds.N kinds.N (kinds.Ref third) merged absorbs is = absurd (cc)
kind_on types are kinds.N kinds.Null other merged absorbs is = absurd (cc)
kind_on types are kinds.N (kinds.Ref second) other merged absorbs is = absurd (cc)
kind_on types are kinds.Null kinds.I other merged absorbs is = absurd (cc)
kind_on types are kinds.Null kinds.L other merged absorbs is = absurd (cc)
kind_on types are kinds.Null kinds.N other merged absorbs is = absurd (cc)
kind_on types are kinds.Null kinds.Null kinds.I merged absorbs is = absurd (cc)
kind_on types are kinds.Null kinds.Null kinds.L merged absorbs is = absurd (cc)
kind_on types are kinds.Null kinds.Null kinds.N merged absorbs is = absurd (cc)
kind_on types are kinds.Null kinds.Null kinds.Null merged absorbs is = let same : kinds.Null ≡ merged = cc in subst (λ k. merge_kind types k kinds.Null ≡ Some k) same refl
kind_on types are kinds.Null kinds.Null (kinds.Ref third) merged absorbs is = let same : kinds.Ref third ≡ merged = cc in subst (λ k. merge_kind types k kinds.Null ≡ Some k) same refl
kind_on types are kinds.Null (kinds.Ref second) other merged absorbs is = absurd (cc)
kind_on types are (kinds.Ref type) kinds.I other merged absorbs is = absurd (cc)
kind_on types are (kinds.Ref type) kinds.L other merged absorbs is = absurd (cc)
kind_on types are (kinds.Ref type) kinds.N other merged absorbs is = absurd (cc)
kind_on types are (kinds.Ref type) kinds.Null kinds.I merged absorbs is = absurd (cc)
kind_on types are (kinds.Ref type) kinds.Null kinds.L merged absorbs is = absurd (cc)
kind_on types are (kinds.Ref type) kinds.Null kinds.N merged absorbs is = absurd (cc)
kind_on types are (kinds.Ref type) kinds.Null kinds.Null merged absorbs is = let same : kinds.Ref type ≡ merged = cc in subst (λ k. merge_kind types k kinds.Null ≡ Some k) same refl
kind_on types are (kinds.Ref type) kinds.Null (kinds.Ref third) merged absorbs is = let same : kinds.Ref (common types type third) ≡ merged = cc in subst (λ k. merge_kind types k kinds.Null ≡ Some k) same refl
kind_on types are (kinds.Ref type) (kinds.Ref second) kinds.I merged absorbs is = absurd (cc)
kind_on types are (kinds.Ref type) (kinds.Ref second) kinds.L merged absorbs is = absurd (cc)
kind_on types are (kinds.Ref type) (kinds.Ref second) kinds.N merged absorbs is = absurd (cc)
kind_on types are (kinds.Ref type) (kinds.Ref second) kinds.Null merged absorbs is = let same : kinds.Ref type ≡ merged = cc in subst (λ k. merge_kind types k (kinds.Ref second) ≡ Some k) same absorbs
kind_on types are (kinds.Ref type) (kinds.Ref second) (kinds.Ref third) merged absorbs is = let same : kinds.Ref (common types type third) ≡ merged = cc in subst (λ k. merge_kind types k (kinds.Ref second) ≡ Some k) same (let mine : common types type second ≡ type = the_type (common types type second) type absorbs in ap (λ t. Some (kinds.Ref t)) (common_on types are type second third mine))

-- a clash stays a clash
kind_clash : (types : List TypeInfo) → (standing given other merged : Kind) → merge_kind types standing given ≡ None → merge_kind types standing other ≡ Some merged → merge_kind types merged given ≡ None
kind_clash types kinds.I kinds.I other merged clash is = absurd (cc)
kind_clash types kinds.I kinds.L kinds.I merged clash is = let same : kinds.I ≡ merged = cc in subst (λ k. merge_kind types k kinds.L ≡ None) same refl
kind_clash types kinds.I kinds.L kinds.L merged clash is = absurd (cc)
kind_clash types kinds.I kinds.L kinds.N merged clash is = absurd (cc)
kind_clash types kinds.I kinds.L kinds.Null merged clash is = absurd (cc)
kind_clash types kinds.I kinds.L (kinds.Ref third) merged clash is = absurd (cc)
kind_clash types kinds.I kinds.N kinds.I merged clash is = let same : kinds.I ≡ merged = cc in subst (λ k. merge_kind types k kinds.N ≡ None) same refl
kind_clash types kinds.I kinds.N kinds.L merged clash is = absurd (cc)
kind_clash types kinds.I kinds.N kinds.N merged clash is = absurd (cc)
kind_clash types kinds.I kinds.N kinds.Null merged clash is = absurd (cc)
kind_clash types kinds.I kinds.N (kinds.Ref third) merged clash is = absurd (cc)
kind_clash types kinds.I kinds.Null kinds.I merged clash is = let same : kinds.I ≡ merged = cc in subst (λ k. merge_kind types k kinds.Null ≡ None) same refl
kind_clash types kinds.I kinds.Null kinds.L merged clash is = absurd (cc)
kind_clash types kinds.I kinds.Null kinds.N merged clash is = absurd (cc)
kind_clash types kinds.I kinds.Null kinds.Null merged clash is = absurd (cc)
kind_clash types kinds.I kinds.Null (kinds.Ref third) merged clash is = absurd (cc)
kind_clash types kinds.I (kinds.Ref second) kinds.I merged clash is = let same : kinds.I ≡ merged = cc in subst (λ k. merge_kind types k (kinds.Ref second) ≡ None) same refl
kind_clash types kinds.I (kinds.Ref second) kinds.L merged clash is = absurd (cc)
kind_clash types kinds.I (kinds.Ref second) kinds.N merged clash is = absurd (cc)
kind_clash types kinds.I (kinds.Ref second) kinds.Null merged clash is = absurd (cc)
kind_clash types kinds.I (kinds.Ref second) (kinds.Ref third) merged clash is = absurd (cc)
kind_clash types kinds.L kinds.I kinds.I merged clash is = absurd (cc)
kind_clash types kinds.L kinds.I kinds.L merged clash is = let same : kinds.L ≡ merged = cc in subst (λ k. merge_kind types k kinds.I ≡ None) same refl
kind_clash types kinds.L kinds.I kinds.N merged clash is = absurd (cc)
kind_clash types kinds.L kinds.I kinds.Null merged clash is = absurd (cc)
kind_clash types kinds.L kinds.I (kinds.Ref third) merged clash is = absurd (cc)
kind_clash types kinds.L kinds.L other merged clash is = absurd (cc)
kind_clash types kinds.L kinds.N kinds.I merged clash is = absurd (cc)
kind_clash types kinds.L kinds.N kinds.L merged clash is = let same : kinds.L ≡ merged = cc in subst (λ k. merge_kind types k kinds.N ≡ None) same refl
kind_clash types kinds.L kinds.N kinds.N merged clash is = absurd (cc)
kind_clash types kinds.L kinds.N kinds.Null merged clash is = absurd (cc)
kind_clash types kinds.L kinds.N (kinds.Ref third) merged clash is = absurd (cc)
kind_clash types kinds.L kinds.Null kinds.I merged clash is = absurd (cc)
kind_clash types kinds.L kinds.Null kinds.L merged clash is = let same : kinds.L ≡ merged = cc in subst (λ k. merge_kind types k kinds.Null ≡ None) same refl
kind_clash types kinds.L kinds.Null kinds.N merged clash is = absurd (cc)
kind_clash types kinds.L kinds.Null kinds.Null merged clash is = absurd (cc)
kind_clash types kinds.L kinds.Null (kinds.Ref third) merged clash is = absurd (cc)
kind_clash types kinds.L (kinds.Ref second) kinds.I merged clash is = absurd (cc)
kind_clash types kinds.L (kinds.Ref second) kinds.L merged clash is = let same : kinds.L ≡ merged = cc in subst (λ k. merge_kind types k (kinds.Ref second) ≡ None) same refl
kind_clash types kinds.L (kinds.Ref second) kinds.N merged clash is = absurd (cc)
kind_clash types kinds.L (kinds.Ref second) kinds.Null merged clash is = absurd (cc)
kind_clash types kinds.L (kinds.Ref second) (kinds.Ref third) merged clash is = absurd (cc)
kind_clash types kinds.N kinds.I kinds.I merged clash is = absurd (cc)
kind_clash types kinds.N kinds.I kinds.L merged clash is = absurd (cc)
kind_clash types kinds.N kinds.I kinds.N merged clash is = let same : kinds.N ≡ merged = cc in subst (λ k. merge_kind types k kinds.I ≡ None) same refl
kind_clash types kinds.N kinds.I kinds.Null merged clash is = absurd (cc)
kind_clash types kinds.N kinds.I (kinds.Ref third) merged clash is = absurd (cc)
kind_clash types kinds.N kinds.L kinds.I merged clash is = absurd (cc)
kind_clash types kinds.N kinds.L kinds.L merged clash is = absurd (cc)
kind_clash types kinds.N kinds.L kinds.N merged clash is = let same : kinds.N ≡ merged = cc in subst (λ k. merge_kind types k kinds.L ≡ None) same refl
kind_clash types kinds.N kinds.L kinds.Null merged clash is = absurd (cc)
kind_clash types kinds.N kinds.L (kinds.Ref third) merged clash is = absurd (cc)
kind_clash types kinds.N kinds.N other merged clash is = absurd (cc)
kind_clash types kinds.N kinds.Null kinds.I merged clash is = absurd (cc)
kind_clash types kinds.N kinds.Null kinds.L merged clash is = absurd (cc)
kind_clash types kinds.N kinds.Null kinds.N merged clash is = let same : kinds.N ≡ merged = cc in subst (λ k. merge_kind types k kinds.Null ≡ None) same refl
kind_clash types kinds.N kinds.Null kinds.Null merged clash is = absurd (cc)
kind_clash types kinds.N kinds.Null (kinds.Ref third) merged clash is = absurd (cc)
kind_clash types kinds.N (kinds.Ref second) kinds.I merged clash is = absurd (cc)
kind_clash types kinds.N (kinds.Ref second) kinds.L merged clash is = absurd (cc)
kind_clash types kinds.N (kinds.Ref second) kinds.N merged clash is = let same : kinds.N ≡ merged = cc in subst (λ k. merge_kind types k (kinds.Ref second) ≡ None) same refl
kind_clash types kinds.N (kinds.Ref second) kinds.Null merged clash is = absurd (cc)
kind_clash types kinds.N (kinds.Ref second) (kinds.Ref third) merged clash is = absurd (cc)
kind_clash types kinds.Null kinds.I kinds.I merged clash is = absurd (cc)
kind_clash types kinds.Null kinds.I kinds.L merged clash is = absurd (cc)
kind_clash types kinds.Null kinds.I kinds.N merged clash is = absurd (cc)
kind_clash types kinds.Null kinds.I kinds.Null merged clash is = let same : kinds.Null ≡ merged = cc in subst (λ k. merge_kind types k kinds.I ≡ None) same refl
kind_clash types kinds.Null kinds.I (kinds.Ref third) merged clash is = let same : kinds.Ref third ≡ merged = cc in subst (λ k. merge_kind types k kinds.I ≡ None) same refl
kind_clash types kinds.Null kinds.L kinds.I merged clash is = absurd (cc)
kind_clash types kinds.Null kinds.L kinds.L merged clash is = absurd (cc)
kind_clash types kinds.Null kinds.L kinds.N merged clash is = absurd (cc)
kind_clash types kinds.Null kinds.L kinds.Null merged clash is = let same : kinds.Null ≡ merged = cc in subst (λ k. merge_kind types k kinds.L ≡ None) same refl
kind_clash types kinds.Null kinds.L (kinds.Ref third) merged clash is = let same : kinds.Ref third ≡ merged = cc in subst (λ k. merge_kind types k kinds.L ≡ None) same refl
kind_clash types kinds.Null kinds.N kinds.I merged clash is = absurd (cc)
kind_clash types kinds.Null kinds.N kinds.L merged clash is = absurd (cc)
kind_clash types kinds.Null kinds.N kinds.N merged clash is = absurd (cc)
kind_clash types kinds.Null kinds.N kinds.Null merged clash is = let same : kinds.Null ≡ merged = cc in subst (λ k. merge_kind types k kinds.N ≡ None) same refl
kind_clash types kinds.Null kinds.N (kinds.Ref third) merged clash is = let same : kinds.Ref third ≡ merged = cc in subst (λ k. merge_kind types k kinds.N ≡ None) same refl
kind_clash types kinds.Null kinds.Null other merged clash is = absurd (cc)
kind_clash types kinds.Null (kinds.Ref second) other merged clash is = absurd (cc)
kind_clash types (kinds.Ref type) kinds.I kinds.I merged clash is = absurd (cc)
kind_clash types (kinds.Ref type) kinds.I kinds.L merged clash is = absurd (cc)
kind_clash types (kinds.Ref type) kinds.I kinds.N merged clash is = absurd (cc)
kind_clash types (kinds.Ref type) kinds.I kinds.Null merged clash is = let same : kinds.Ref type ≡ merged = cc in subst (λ k. merge_kind types k kinds.I ≡ None) same refl
kind_clash types (kinds.Ref type) kinds.I (kinds.Ref third) merged clash is = let same : kinds.Ref (common types type third) ≡ merged = cc in subst (λ k. merge_kind types k kinds.I ≡ None) same refl
kind_clash types (kinds.Ref type) kinds.L kinds.I merged clash is = absurd (cc)
kind_clash types (kinds.Ref type) kinds.L kinds.L merged clash is = absurd (cc)
kind_clash types (kinds.Ref type) kinds.L kinds.N merged clash is = absurd (cc)
kind_clash types (kinds.Ref type) kinds.L kinds.Null merged clash is = let same : kinds.Ref type ≡ merged = cc in subst (λ k. merge_kind types k kinds.L ≡ None) same refl
kind_clash types (kinds.Ref type) kinds.L (kinds.Ref third) merged clash is = let same : kinds.Ref (common types type third) ≡ merged = cc in subst (λ k. merge_kind types k kinds.L ≡ None) same refl
kind_clash types (kinds.Ref type) kinds.N kinds.I merged clash is = absurd (cc)
kind_clash types (kinds.Ref type) kinds.N kinds.L merged clash is = absurd (cc)
kind_clash types (kinds.Ref type) kinds.N kinds.N merged clash is = absurd (cc)
kind_clash types (kinds.Ref type) kinds.N kinds.Null merged clash is = let same : kinds.Ref type ≡ merged = cc in subst (λ k. merge_kind types k kinds.N ≡ None) same refl
kind_clash types (kinds.Ref type) kinds.N (kinds.Ref third) merged clash is = let same : kinds.Ref (common types type third) ≡ merged = cc in subst (λ k. merge_kind types k kinds.N ≡ None) same refl
kind_clash types (kinds.Ref type) kinds.Null other merged clash is = absurd (cc)
kind_clash types (kinds.Ref type) (kinds.Ref second) other merged clash is = absurd (cc)

kind_falls : (types : List TypeInfo) → AreTypes types → (standing given merged : Kind) → merge_kind types standing given ≡ Some merged → (merged ≡ standing) ⊎ (kind_height types merged < kind_height types standing)
kind_falls types are kinds.I kinds.I merged is = let same : kinds.I ≡ merged = cc in inl (sym same)
kind_falls types are kinds.I kinds.L merged is = absurd (cc)
kind_falls types are kinds.I kinds.N merged is = absurd (cc)
kind_falls types are kinds.I kinds.Null merged is = absurd (cc)
kind_falls types are kinds.I (kinds.Ref second) merged is = absurd (cc)
kind_falls types are kinds.L kinds.I merged is = absurd (cc)
kind_falls types are kinds.L kinds.L merged is = let same : kinds.L ≡ merged = cc in inl (sym same)
kind_falls types are kinds.L kinds.N merged is = absurd (cc)
kind_falls types are kinds.L kinds.Null merged is = absurd (cc)
kind_falls types are kinds.L (kinds.Ref second) merged is = absurd (cc)
kind_falls types are kinds.N kinds.I merged is = absurd (cc)
kind_falls types are kinds.N kinds.L merged is = absurd (cc)
kind_falls types are kinds.N kinds.N merged is = let same : kinds.N ≡ merged = cc in inl (sym same)
kind_falls types are kinds.N kinds.Null merged is = absurd (cc)
kind_falls types are kinds.N (kinds.Ref second) merged is = absurd (cc)
kind_falls types are kinds.Null kinds.I merged is = absurd (cc)
kind_falls types are kinds.Null kinds.L merged is = absurd (cc)
kind_falls types are kinds.Null kinds.N merged is = absurd (cc)
kind_falls types are kinds.Null kinds.Null merged is = let same : kinds.Null ≡ merged = cc in inl (sym same)
kind_falls types are kinds.Null (kinds.Ref second) merged is = let same : kinds.Ref second ≡ merged = cc in inr (subst (λ k. kind_height types k < most_height types) same (ref_below_null types are second))
kind_falls types are (kinds.Ref type) kinds.I merged is = absurd (cc)
kind_falls types are (kinds.Ref type) kinds.L merged is = absurd (cc)
kind_falls types are (kinds.Ref type) kinds.N merged is = absurd (cc)
kind_falls types are (kinds.Ref type) kinds.Null merged is = let same : kinds.Ref type ≡ merged = cc in inl (sym same)
kind_falls types are (kinds.Ref type) (kinds.Ref second) merged is = let same : kinds.Ref (common types type second) ≡ merged = cc in
    elim (common_falls types are type second) [
      | inl equal ↦ inl (sym same ∙ ap (λ t. kinds.Ref t) equal)
      | inr less ↦ inr (subst (λ k. kind_height types k < kind_height types (kinds.Ref type)) same less)
    ]

ref_fits : (types : List TypeInfo) → AreTypes types → (type other : ℕ) → (is_kind_of types type other ≡ true) ⊎ (other ≡ 0) → fits types type other ≡ true
ref_fits types are type other (inl kind) = fits_is types are type other (kind_fits types type other (kind_is types are type other kind))
ref_fits types are type other (inr object) = fits_is types are type other (fits_object types type other object)

ref_itself : (types : List TypeInfo) → AreTypes types → (type : ℕ) → fits types type type ≡ true
ref_itself types are type = fits_is types are type type (fits_itself types type)

common_fits : (types : List TypeInfo) → AreTypes types → (type other : ℕ) → (fits types type (common types type other) ≡ true) × (fits types other (common types type other) ≡ true)
common_fits types are type other = elim (common_cases types type other) [
  | inl both ↦ (ref_fits types are type (common types type other) (inl both.0), ref_fits types are other (common types type other) (inl both.1))
  | inr none ↦ (ref_fits types are type (common types type other) (inr none), ref_fits types are other (common types type other) (inr none))
]

kind_above : (types : List TypeInfo) → AreTypes types → (standing given merged : Kind) → merge_kind types standing given ≡ Some merged → (fits_kind types standing merged ≡ true) × (fits_kind types given merged ≡ true)
kind_above types are kinds.I kinds.I merged is = let same : kinds.I ≡ merged = cc in subst (λ k. (fits_kind types kinds.I k ≡ true) × (fits_kind types kinds.I k ≡ true)) same (refl, refl)
kind_above types are kinds.I kinds.L merged is = absurd (cc)
kind_above types are kinds.I kinds.N merged is = absurd (cc)
kind_above types are kinds.I kinds.Null merged is = absurd (cc)
kind_above types are kinds.I (kinds.Ref second) merged is = absurd (cc)
kind_above types are kinds.L kinds.I merged is = absurd (cc)
kind_above types are kinds.L kinds.L merged is = let same : kinds.L ≡ merged = cc in subst (λ k. (fits_kind types kinds.L k ≡ true) × (fits_kind types kinds.L k ≡ true)) same (refl, refl)
kind_above types are kinds.L kinds.N merged is = absurd (cc)
kind_above types are kinds.L kinds.Null merged is = absurd (cc)
kind_above types are kinds.L (kinds.Ref second) merged is = absurd (cc)
kind_above types are kinds.N kinds.I merged is = absurd (cc)
kind_above types are kinds.N kinds.L merged is = absurd (cc)
kind_above types are kinds.N kinds.N merged is = let same : kinds.N ≡ merged = cc in subst (λ k. (fits_kind types kinds.N k ≡ true) × (fits_kind types kinds.N k ≡ true)) same (refl, refl)
kind_above types are kinds.N kinds.Null merged is = absurd (cc)
kind_above types are kinds.N (kinds.Ref second) merged is = absurd (cc)
kind_above types are kinds.Null kinds.I merged is = absurd (cc)
kind_above types are kinds.Null kinds.L merged is = absurd (cc)
kind_above types are kinds.Null kinds.N merged is = absurd (cc)
kind_above types are kinds.Null kinds.Null merged is = let same : kinds.Null ≡ merged = cc in subst (λ k. (fits_kind types kinds.Null k ≡ true) × (fits_kind types kinds.Null k ≡ true)) same (refl, refl)
kind_above types are kinds.Null (kinds.Ref second) merged is = let same : kinds.Ref second ≡ merged = cc in subst (λ k. (fits_kind types kinds.Null k ≡ true) × (fits_kind types (kinds.Ref second) k ≡ true)) same (refl, ref_itself types are second)
kind_above types are (kinds.Ref type) kinds.I merged is = absurd (cc)
kind_above types are (kinds.Ref type) kinds.L merged is = absurd (cc)
kind_above types are (kinds.Ref type) kinds.N merged is = absurd (cc)
kind_above types are (kinds.Ref type) kinds.Null merged is = let same : kinds.Ref type ≡ merged = cc in subst (λ k. (fits_kind types (kinds.Ref type) k ≡ true) × (fits_kind types kinds.Null k ≡ true)) same (ref_itself types are type, refl)
kind_above types are (kinds.Ref type) (kinds.Ref second) merged is = let same : kinds.Ref (common types type second) ≡ merged = cc in subst (λ k. (fits_kind types (kinds.Ref type) k ≡ true) × (fits_kind types (kinds.Ref second) k ≡ true)) same (common_fits types are type second)

kind_itself_fits : (types : List TypeInfo) → AreTypes types → (kind : Kind) → fits_kind types kind kind ≡ true
kind_itself_fits types are kinds.I = refl
kind_itself_fits types are kinds.L = refl
kind_itself_fits types are kinds.N = refl
kind_itself_fits types are kinds.Null = refl
kind_itself_fits types are (kinds.Ref type) = ref_itself types are type

kind_fits_through : (types : List TypeInfo) → AreTypes types → (kind between other : Kind) → fits_kind types kind between ≡ true → fits_kind types between other ≡ true → fits_kind types kind other ≡ true
kind_fits_through types are kinds.I kinds.I kinds.I first second = refl
kind_fits_through types are kinds.I kinds.I kinds.L first second = absurd (cc)
kind_fits_through types are kinds.I kinds.I kinds.N first second = absurd (cc)
kind_fits_through types are kinds.I kinds.I kinds.Null first second = absurd (cc)
kind_fits_through types are kinds.I kinds.I (kinds.Ref z) first second = absurd (cc)
kind_fits_through types are kinds.I kinds.L other first second = absurd (cc)
kind_fits_through types are kinds.I kinds.N other first second = absurd (cc)
kind_fits_through types are kinds.I kinds.Null other first second = absurd (cc)
kind_fits_through types are kinds.I (kinds.Ref y) other first second = absurd (cc)
kind_fits_through types are kinds.L kinds.I other first second = absurd (cc)
kind_fits_through types are kinds.L kinds.L kinds.I first second = absurd (cc)
kind_fits_through types are kinds.L kinds.L kinds.L first second = refl
kind_fits_through types are kinds.L kinds.L kinds.N first second = absurd (cc)
kind_fits_through types are kinds.L kinds.L kinds.Null first second = absurd (cc)
kind_fits_through types are kinds.L kinds.L (kinds.Ref z) first second = absurd (cc)
kind_fits_through types are kinds.L kinds.N other first second = absurd (cc)
kind_fits_through types are kinds.L kinds.Null other first second = absurd (cc)
kind_fits_through types are kinds.L (kinds.Ref y) other first second = absurd (cc)
kind_fits_through types are kinds.N kinds.I other first second = absurd (cc)
kind_fits_through types are kinds.N kinds.L other first second = absurd (cc)
kind_fits_through types are kinds.N kinds.N kinds.I first second = absurd (cc)
kind_fits_through types are kinds.N kinds.N kinds.L first second = absurd (cc)
kind_fits_through types are kinds.N kinds.N kinds.N first second = refl
kind_fits_through types are kinds.N kinds.N kinds.Null first second = absurd (cc)
kind_fits_through types are kinds.N kinds.N (kinds.Ref z) first second = absurd (cc)
kind_fits_through types are kinds.N kinds.Null other first second = absurd (cc)
kind_fits_through types are kinds.N (kinds.Ref y) other first second = absurd (cc)
kind_fits_through types are kinds.Null kinds.I other first second = absurd (cc)
kind_fits_through types are kinds.Null kinds.L other first second = absurd (cc)
kind_fits_through types are kinds.Null kinds.N other first second = absurd (cc)
kind_fits_through types are kinds.Null kinds.Null kinds.I first second = absurd (cc)
kind_fits_through types are kinds.Null kinds.Null kinds.L first second = absurd (cc)
kind_fits_through types are kinds.Null kinds.Null kinds.N first second = absurd (cc)
kind_fits_through types are kinds.Null kinds.Null kinds.Null first second = refl
kind_fits_through types are kinds.Null kinds.Null (kinds.Ref z) first second = refl
kind_fits_through types are kinds.Null (kinds.Ref y) kinds.I first second = absurd (cc)
kind_fits_through types are kinds.Null (kinds.Ref y) kinds.L first second = absurd (cc)
kind_fits_through types are kinds.Null (kinds.Ref y) kinds.N first second = absurd (cc)
kind_fits_through types are kinds.Null (kinds.Ref y) kinds.Null first second = absurd (cc)
kind_fits_through types are kinds.Null (kinds.Ref y) (kinds.Ref z) first second = refl
kind_fits_through types are (kinds.Ref x) kinds.I other first second = absurd (cc)
kind_fits_through types are (kinds.Ref x) kinds.L other first second = absurd (cc)
kind_fits_through types are (kinds.Ref x) kinds.N other first second = absurd (cc)
kind_fits_through types are (kinds.Ref x) kinds.Null other first second = absurd (cc)
kind_fits_through types are (kinds.Ref x) (kinds.Ref y) kinds.I first second = absurd (cc)
kind_fits_through types are (kinds.Ref x) (kinds.Ref y) kinds.L first second = absurd (cc)
kind_fits_through types are (kinds.Ref x) (kinds.Ref y) kinds.N first second = absurd (cc)
kind_fits_through types are (kinds.Ref x) (kinds.Ref y) kinds.Null first second = absurd (cc)
kind_fits_through types are (kinds.Ref x) (kinds.Ref y) (kinds.Ref z) first second = fits_is types are x z (fits_through types are x y z (is_fit types are x y first) (is_fit types are y z second))

-- STACKS

-- both are there
record IsPut (top : Option Kind) (below : Option (List Kind)) (merged : List Kind) : Type 0 where
  kind : Kind
  rest : List Kind
  top_is : top ≡ Some kind
  below_is : below ≡ Some rest
  merged_is : merged ≡ kind ∷ rest

put_is : (top : Option Kind) (below : Option (List Kind)) (merged : List Kind) → put_on top below ≡ Some merged → IsPut top below merged
put_is None below merged is = absurd (cc)
put_is (Some kind) None merged is = absurd (cc)
put_is (Some kind) (Some rest) merged is = record { kind = kind; rest = rest; top_is = refl; below_is = refl; merged_is = cc }

put_none : (top : Option Kind) (below : Option (List Kind)) → put_on top below ≡ None → (top ≡ None) ⊎ (below ≡ None)
put_none None below is = inl refl
put_none (Some kind) None is = inr refl
put_none (Some kind) (Some rest) is = absurd (cc)

none_above : (top : Option Kind) (below : Option (List Kind)) → (top ≡ None) ⊎ (below ≡ None) → put_on top below ≡ None
none_above None below none = refl
none_above (Some kind) None none = refl
none_above (Some kind) (Some rest) none = absurd (elim none [ inl h ↦ cc | inr h ↦ cc ])

both_there : (top : Option Kind) (below : Option (List Kind)) (kind : Kind) (rest : List Kind) → top ≡ Some kind → below ≡ Some rest → put_on top below ≡ Some (kind ∷ rest)
both_there top below kind rest a b = ap (λ t. put_on t below) a ∙ ap (put_on (Some kind)) b

stack_given : (types : List TypeInfo) → AreTypes types → (standing given merged : List Kind) → merge types standing given ≡ Some merged → merge types merged given ≡ Some merged
stack_given types are [] [] merged is = let same : [] ≡ merged = cc in subst (λ (m : List Kind). merge types m [] ≡ Some m) same refl
stack_given types are [] (y ∷ ys) merged is = absurd (cc)
stack_given types are (x ∷ xs) [] merged is = absurd (cc)
stack_given types are (x ∷ xs) (y ∷ ys) merged is =
    let put = put_is (merge_kind types x y) (merge types xs ys) merged is in
    let top = kind_given types are x y put.kind put.top_is in
    let below = stack_given types are xs ys put.rest put.below_is in
    subst (λ (m : List Kind). merge types m (y ∷ ys) ≡ Some m) (sym put.merged_is) (both_there (merge_kind types put.kind y) (merge types put.rest ys) put.kind put.rest top below)

tops_are : (x y : Kind) (xs ys : List Kind) → (let first : List Kind = x ∷ xs in first ≡ y ∷ ys) → (x ≡ y) × (xs ≡ ys)
tops_are x y xs ys is = (cc, cc)

stack_on : (types : List TypeInfo) → AreTypes types → (standing given other merged : List Kind) → merge types standing given ≡ Some standing → merge types standing other ≡ Some merged → merge types merged given ≡ Some merged
stack_on types are [] [] [] merged absorbs is = let same : [] ≡ merged = cc in subst (λ (m : List Kind). merge types m [] ≡ Some m) same refl
stack_on types are [] [] (z ∷ zs) merged absorbs is = absurd (cc)
stack_on types are [] (y ∷ ys) other merged absorbs is = absurd (cc)
stack_on types are (x ∷ xs) [] other merged absorbs is = absurd (cc)
stack_on types are (x ∷ xs) (y ∷ ys) [] merged absorbs is = absurd (cc)
stack_on types are (x ∷ xs) (y ∷ ys) (z ∷ zs) merged absorbs is =
    let old = put_is (merge_kind types x y) (merge types xs ys) (x ∷ xs) absorbs in
    let put = put_is (merge_kind types x z) (merge types xs zs) merged is in
    let same = tops_are x old.kind xs old.rest old.merged_is in
    let top = kind_on types are x y z put.kind (old.top_is ∙ ap (λ k. Some k) (sym same.0)) put.top_is in
    let below = stack_on types are xs ys zs put.rest (old.below_is ∙ ap (λ r. Some r) (sym same.1)) put.below_is in
    subst (λ (m : List Kind). merge types m (y ∷ ys) ≡ Some m) (sym put.merged_is) (both_there (merge_kind types put.kind y) (merge types put.rest ys) put.kind put.rest top below)

stack_clash : (types : List TypeInfo) → (standing given other merged : List Kind) → merge types standing given ≡ None → merge types standing other ≡ Some merged → merge types merged given ≡ None
stack_clash types [] [] other merged clash is = absurd (cc)
stack_clash types [] (y ∷ ys) [] merged clash is = let same : [] ≡ merged = cc in subst (λ (m : List Kind). merge types m (y ∷ ys) ≡ None) same refl
stack_clash types [] (y ∷ ys) (z ∷ zs) merged clash is = absurd (cc)
stack_clash types (x ∷ xs) given [] merged clash is = absurd (cc)
stack_clash types (x ∷ xs) [] (z ∷ zs) merged clash is =
    let put = put_is (merge_kind types x z) (merge types xs zs) merged is in
    subst (λ (m : List Kind). merge types m [] ≡ None) (sym put.merged_is) refl
stack_clash types (x ∷ xs) (y ∷ ys) (z ∷ zs) merged clash is =
    let put = put_is (merge_kind types x z) (merge types xs zs) merged is in
    subst (λ (m : List Kind). merge types m (y ∷ ys) ≡ None) (sym put.merged_is) (none_above (merge_kind types put.kind y) (merge types put.rest ys) (elim (put_none (merge_kind types x y) (merge types xs ys) clash) [
      | inl top ↦ inl (kind_clash types x y z put.kind top put.top_is)
      | inr below ↦ inr (stack_clash types xs ys zs put.rest below put.below_is)
    ]))

pub merges_fall : MergesFall
merges_fall types are [] [] merged is = inl (let same : [] ≡ merged = cc in sym same)
merges_fall types are [] (y ∷ ys) merged is = absurd (cc)
merges_fall types are (x ∷ xs) [] merged is = absurd (cc)
merges_fall types are (x ∷ xs) (y ∷ ys) merged is =
    let put = put_is (merge_kind types x y) (merge types xs ys) merged is in
    let sum : stack_height types merged ≡ kind_height types put.kind + stack_height types put.rest = ap (stack_height types) put.merged_is in
    elim (kind_falls types are x y put.kind put.top_is) [
      | inl top ↦
          let tops : kind_height types put.kind ≡ kind_height types x = ap (kind_height types) top in
          elim (merges_fall types are xs ys put.rest put.below_is) [
            | inl below ↦ inl (put.merged_is ∙ ap (λ k. k ∷ put.rest) top ∙ ap (λ r. x ∷ r) below)
            | inr less ↦ inr (omega (arith, sum, tops, less))
          ]
      | inr lower ↦ elim (merges_fall types are xs ys put.rest put.below_is) [
        | inl below ↦ let rests : stack_height types put.rest ≡ stack_height types xs = ap (stack_height types) below in inr (omega (arith, sum, lower, rests))
        | inr less ↦ inr (omega (arith, sum, lower, less))
      ]
    ]

met_none : (types : List TypeInfo) (standing given : List Kind) → merge types standing given ≡ None → met types standing given ≡ standing
met_none types standing given none = ap (met_with standing) none

met_some : (types : List TypeInfo) (standing given merged : List Kind) → merge types standing given ≡ Some merged → met types standing given ≡ merged
met_some types standing given merged some = ap (met_with standing) some

pub given_is_absorbed : GivenIsAbsorbed
given_is_absorbed types are standing given = by_option (λ o. merge types standing given ≡ o → Absorbs types (met types standing given) given) (merge types standing given)
    (λ is none. subst (λ m. Absorbs types m given) (sym (met_none types standing given none)) (met_none types standing given none))
    (λ merged is some. subst (λ m. Absorbs types m given) (sym (met_some types standing given merged some)) (met_some types merged given merged (stack_given types are standing given merged some)))
    refl

pub absorbs_on : AbsorbsOn
absorbs_on types are standing given other absorbs = by_option (λ o. merge types standing other ≡ o → Absorbs types (met types standing other) given) (merge types standing other)
    (λ is none. subst (λ m. Absorbs types m given) (sym (met_none types standing other none)) absorbs)
    (λ merged is some. subst (λ m. Absorbs types m given) (sym (met_some types standing other merged some)) (still merged some))
    refl
  where
    still : (merged : List Kind) → merge types standing other ≡ Some merged → Absorbs types merged given
    still merged some = by_option (λ o. merge types standing given ≡ o → Absorbs types merged given) (merge types standing given)
        (λ is none. met_none types merged given (stack_clash types standing given other merged none some))
        (λ was is one. let stays : merge types standing given ≡ Some standing = one ∙ ap (λ m. Some m) (sym (met_some types standing given was one) ∙ absorbs) in met_some types merged given merged (stack_on types are standing given other merged stays some))
        refl

pub height_is_bounded : HeightIsBounded
height_is_bounded types are [] = omega arith
height_is_bounded types are (kind ∷ below) = omega (arith, height_low types are kind, height_is_bounded types are below)

pub common_above : CommonAbove
common_above types are [] [] merged is = let same : [] ≡ merged = cc in subst (λ (m : List Kind). FitAll types [] m × FitAll types [] m) same (tt, tt)
common_above types are [] (y ∷ ys) merged is = absurd (cc)
common_above types are (x ∷ xs) [] merged is = absurd (cc)
common_above types are (x ∷ xs) (y ∷ ys) merged is =
    let put = put_is (merge_kind types x y) (merge types xs ys) merged is in
    let top = kind_above types are x y put.kind put.top_is in
    let below = common_above types are xs ys put.rest put.below_is in
    subst (λ (m : List Kind). FitAll types (x ∷ xs) m × FitAll types (y ∷ ys) m) (sym put.merged_is) ((top.0, below.0), (top.1, below.1))

all_fit_through : (types : List TypeInfo) → AreTypes types → (stack between other : List Kind) → FitAll types stack between → FitAll types between other → FitAll types stack other
all_fit_through types are [] [] other first second = second
all_fit_through types are [] (y ∷ ys) other first second = absurd first
all_fit_through types are (x ∷ xs) [] other first second = absurd first
all_fit_through types are (x ∷ xs) (y ∷ ys) [] first second = absurd second
all_fit_through types are (x ∷ xs) (y ∷ ys) (z ∷ zs) first second = (kind_fits_through types are x y z first.0 second.0, all_fit_through types are xs ys zs first.1 second.1)

all_fit_itself : (types : List TypeInfo) → AreTypes types → (stack : List Kind) → FitAll types stack stack
all_fit_itself types are [] = tt
all_fit_itself types are (kind ∷ below) = (kind_itself_fits types are kind, all_fit_itself types are below)

pub fits_are_ordered : FitsAreOrdered
fits_are_ordered = record { itself = all_fit_itself; through = all_fit_through }
