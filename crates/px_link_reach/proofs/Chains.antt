-- Chains of methods that override each other end, since chains of bases do.
use Rattle.std.proofs.Common.{◌≡◌, ℕ, suc, ◌<◌, Some, refl, subst, arith}
use Rattle.px_meta.proofs.Alike.{owner_row}
use Rattle.px_meta.proofs.Overridden.{one_overridden, overrides_may}
use Rattle.px_meta.proofs.Verdicts.{base_stays}
use Rattle.px_meta.specs.Chains.{base_in}
use Rattle.px_meta.specs.Faults.{Bases, IsFaultless}
use Rattle.px_meta.specs.Members.{owner_of}
use Rattle.px_meta.specs.Overriding as types
use Rattle.px_meta.specs.Overriding.{Derives, Overrides}
use Rattle.px_meta.specs.Rows.{IsRow, count_of, methods, type_defs}
use Rattle.px_meta.specs.declared.fault.MetaKind.TheVariants.{CycleOfBases}
use Rattle.px_tables.specs.Metadata.{View}
use Rattle.px_link_types.proofs.Ends.{LeadsBelow, fewer_left, has_end, steps_left}
use Rattle.px_link_reach.specs.Overriders.{Directly, OverridesThrough, Through}

-- how many types are above one
abbrev bases_left : View → ℕ → ℕ
bases_left v type = steps_left (base_in v) (suc (count_of v type_defs)) type

-- how many types are above the owner of a method
abbrev pub owners_left : View → ℕ → ℕ
owners_left v method = bases_left v (owner_of v methods method)

bases_below : (v : View) → LeadsBelow (suc (count_of v type_defs)) (base_in v)
bases_below v type base is = let there = base_stays v type base is in omega (arith, there.few)

fewer_bases : (v : View) (type base : ℕ) → IsFaultless v → IsRow v type_defs type → base_in v type ≡ Some base → bases_left v base < bases_left v type
fewer_bases v type base faultless is on =
    let bound = suc (count_of v type_defs) in
    fewer_left (base_in v) bound type base (bases_below v) (has_end (base_in v) bound type (bases_below v) (λ none. faultless CycleOfBases type_defs type (Bases type is none))) on

fewer_derived : (v : View) (type base : ℕ) → IsFaultless v → IsRow v type_defs type → Derives v type base → bases_left v base < bases_left v type
fewer_derived v type base faultless is (types.Directly _ _ on) = fewer_bases v type base faultless is on
fewer_derived v type base faultless is (types.Through _ between _ on derives) =
    let first = fewer_bases v type between faultless is on in
    let rest = fewer_derived v between base faultless (base_stays v type between on) derives in
    omega arith

-- fewer types are above what a method overrides
pub fewer_owners : (v : View) (method other : ℕ) → IsFaultless v → Overrides v method other → owners_left v other < owners_left v method
fewer_owners v method other faultless over =
    let may = overrides_may v method other over in
    fewer_derived v (owner_of v methods method) (owner_of v methods other) faultless (owner_row v methods method (owner_of v methods method) refl may.owned) may.derives

fewer_through : (v : View) (method other : ℕ) → IsFaultless v → OverridesThrough v method other → owners_left v other < owners_left v method
fewer_through v method other faultless (Directly _ _ over) = fewer_owners v method other faultless over
fewer_through v method other faultless (Through _ between _ over through) =
    let first = fewer_owners v method between faultless over in
    let rest = fewer_through v between other faultless through in
    omega arith

pub never_itself : (v : View) (method : ℕ) → IsFaultless v → OverridesThrough v method method → ⊥
never_itself v method faultless through = let fewer = fewer_through v method method faultless through in omega arith

-- what a method overrides through the one that it overrides at once
pub through_parent : (v : View) (method parent other : ℕ) → Overrides v method parent → (parent ≡ other → ⊥) → OverridesThrough v method other → OverridesThrough v parent other
through_parent v method parent other over apart (Directly _ _ over') = absurd (apart (one_overridden v method parent other over over'))
through_parent v method parent other over apart (Through _ between _ over' through) =
    subst (λ m. OverridesThrough v m other) (one_overridden v method between parent over' over) through

-- a method that overrides some overrides one at once
pub none_through : (v : View) (method other : ℕ) → ((o : ℕ) → Overrides v method o → ⊥) → OverridesThrough v method other → ⊥
none_through v method other nobody (Directly _ _ over) = nobody other over
none_through v method other nobody (Through _ between _ over through) = nobody between over

pub first_of : (v : View) (method other : ℕ) → OverridesThrough v method other → (o : ℕ) × Overrides v method o
first_of v method other (Directly _ _ over) = (other, over)
first_of v method other (Through _ between _ over through) = (between, over)
