-- Arrays in each other end.
use Rattle.std.proofs.Common.{◌≡◌, ℕ, zero, suc, ◌+◌, ◌<◌, ◌≤◌, List, [], ◌∷◌, Option, Some, None, length, refl, sym, ap, ◌∙◌, subst, ⊎_elim, arith}
use Rattle.std.specs.Prelude.{IfSome, nat_lt, slice_get}
use Rattle.std.proofs.lemmas.Bool.{cases_Bool, lt-ltb, ltb-true}
use Rattle.px_meta.specs.Chains as chains
use Rattle.px_program.specs.Formed.{AreTypes, FitsPlace, HasEnd, IsChain, element_in, element_of, type_in}
use Rattle.px_program.specs.declared.program.Place.{Place}
use Rattle.px_program.specs.declared.program.Place.TheVariants as places
use Rattle.px_program.specs.declared.program.Program.{Program}
use Rattle.px_program.specs.declared.program.TypeInfo.{TypeInfo}
use Rattle.px_program.proofs.Types.{each_at}
use Rattle.px_asm_described.specs.Describes.{IsTypeOf}
use Rattle.px_sig.specs.Grammar.{array_of, plain_type}
use Rattle.px_sig.specs.Parts.{arrays_of}
use Rattle.px_sig.specs.declared.sig.SigLeaf.{SigLeaf}
use Rattle.px_sig.specs.declared.sig.SigType.{SigType}
use Rattle.px_link_types.proofs.Ends.{LeadsBelow, chain_within, fewer_left, in_bound, steps_left}
use Rattle.px_asm_store.specs.Elements.{HoldsArray}

-- CHAINS

ends_too : (next : ℕ → Option ℕ) (type : ℕ) (behind : List ℕ) → IsChain next type behind → chains.IsChain next type behind
ends_too next type [] none = chains.IsChain.Ends type none
ends_too next type (first ∷ rest) on = chains.IsChain.GoesOn type first rest on.0 (ends_too next first rest on.1)

end_too : (next : ℕ → Option ℕ) (type : ℕ) → HasEnd next type → chains.HasEnd next type
end_too next type end = record { behind = end.behind; chain = ends_too next type end.behind end.chain }

-- a chain does not end within as many steps as it has numbers behind the first
not_within : (next : ℕ → Option ℕ) (steps number : ℕ) (behind : List ℕ) → chains.IsChain next number behind → steps ≤ length behind → chain_within next steps number ≡ None
not_within next zero number behind is few = refl
not_within next (suc steps) number [] is few = absurd (omega arith)
not_within next (suc steps) number (first ∷ rest) (chains.IsChain.GoesOn _ _ _ on is) few = rw on (rw (not_within next steps first rest is (omega arith)) refl)

few_steps : (next : ℕ → Option ℕ) (bound number : ℕ) → LeadsBelow bound next → chains.HasEnd next number → steps_left next bound number ≤ bound
few_steps next bound number below end =
    let within = in_bound next bound number below end in
    ⊎_elim
    (λ more. absurd (let out = not_within next (suc bound) number end.behind end.chain (omega (arith, ltb-true bound (length end.behind) more)) in cc))
    (λ few. let le : length end.behind ≤ bound = grind (arith, lt-ltb) in let is : steps_left next bound number ≡ length end.behind = rw within refl in omega (arith, le, is))
    (cases_Bool (nat_lt bound (length end.behind)))

-- ELEMENTS

led_by_place : (types : List TypeInfo) (element : Option Place) (behind : ℕ) → IfSome element (FitsPlace types) → type_in element ≡ Some behind → behind < length types
led_by_place types None behind fits on = absurd (cc)
led_by_place types (Some (places.Ref type)) behind fits on = let same : type ≡ behind = cc in subst (λ t. t < length types) same fits
led_by_place types (Some _) behind fits on = absurd (cc)

led_by : (p : Program) → AreTypes p.types → (number : ℕ) (found : Option TypeInfo) → slice_get p.types number ≡ found → (behind : ℕ) → element_in found ≡ Some behind → behind < length p.types
led_by p types number None at behind on = absurd (cc)
led_by p types number (Some info) at behind on = led_by_place p.types info.element behind (each_at _ p.types types.each number info at).element on

leads_below : (p : Program) → AreTypes p.types → LeadsBelow (length p.types) (element_of p.types)
leads_below p types number behind on = led_by p types number (slice_get p.types number) refl behind on

-- how many arrays may still be in each other
abbrev pub arrays_left : Program → Place → ℕ
arrays_left p (places.Ref type) = steps_left (element_of p.types) (length p.types) type + 1
arrays_left p _ = 0

pub few_arrays : (p : Program) (place : Place) → AreTypes p.types → arrays_left p place ≤ length p.types + 1
few_arrays p (places.Ref type) types = omega (arith, few_steps (element_of p.types) (length p.types) type (leads_below p types) (end_too (element_of p.types) type (types.elements type)))
few_arrays p _ types = omega arith

fewer_by : (p : Program) → AreTypes p.types → (array : ℕ) (info : TypeInfo) → slice_get p.types array ≡ Some info → (element : Place) → info.element ≡ Some element → arrays_left p element < arrays_left p (places.Ref array)
fewer_by p types array info at (places.Ref type) is =
    let on : element_of p.types array ≡ Some type = ap element_in at ∙ ap type_in is in
    omega (arith, fewer_left (element_of p.types) (length p.types) array type (leads_below p types) (end_too (element_of p.types) array (types.elements array)) on)
fewer_by p types array info at _ is = omega arith

-- the elements of an array have fewer arrays in them
pub fewer_arrays : (p : Program) (place element : Place) → AreTypes p.types → HoldsArray p place element → arrays_left p element < arrays_left p place
fewer_arrays p (places.Ref array) element types holds = fewer_by p types array holds.info holds.at element holds.is
fewer_arrays p _ element types holds = absurd holds

-- the elements of an array fit
pub element_fits : (p : Program) (place element : Place) → AreTypes p.types → HoldsArray p place element → FitsPlace p.types element
element_fits p (places.Ref array) element types holds =
    subst (λ o. IfSome o (FitsPlace p.types)) holds.is (each_at _ p.types types.each array holds.info holds.at).element
element_fits p _ element types holds = absurd holds

-- TYPES AROUND A PLACE

-- the type of an array
pub type_around : (p : Program) (place element : Place) (type : SigType) → HoldsArray p place element → IsTypeOf p element type → IsTypeOf p place (array_of type)
type_around p (places.Ref array) element type holds is = IsTypeOf.IsArray array element (places.Ref array) type (array_of type) holds is refl refl
type_around p _ element type holds is = absurd holds

-- what a place holds that has so many arrays around what another holds
abbrev pub IsAround : Program → Place → Place → ℕ → Type 0
IsAround p place inner arrays = (type : SigType) → IsTypeOf p inner type → IsTypeOf p place (arrays_of arrays type)

as_deep : (p : Program) (place : Place) (leaf : SigLeaf) (depth other : ℕ) → depth ≡ other → IsTypeOf p place (record { depth = depth; leaf = leaf }) → IsTypeOf p place (record { depth = other; leaf = leaf })
as_deep p place leaf depth other same is = let P : ℕ → Type 0 = λ n. IsTypeOf p place (record { depth = n; leaf = leaf }) in subst P same is

-- no array is passed
pub around_none : (p : Program) (place : Place) → IsAround p place place 0
around_none p place type is = as_deep p place type.leaf type.depth (type.depth + 0) (omega arith) is

-- one more array is passed
pub around_more : (p : Program) (place inner element : Place) (arrays : ℕ) → IsAround p place inner arrays → HoldsArray p inner element → IsAround p place element (arrays + 1)
around_more p place inner element arrays around holds type is =
    as_deep p place type.leaf (suc type.depth + arrays) (type.depth + (arrays + 1)) (omega arith) (around (array_of type) (type_around p inner element type holds is))

-- the arrays that are passed around what is no array
pub around_leaf : (p : Program) (place inner : Place) (arrays : ℕ) → IsAround p place inner arrays → (leaf : SigLeaf) → IsTypeOf p inner (plain_type leaf) → IsTypeOf p place (record { depth = arrays; leaf = leaf })
around_leaf p place inner arrays around leaf is = as_deep p place leaf (zero + arrays) arrays (omega arith) (around (plain_type leaf) is)
