-- Which methods take the place of others in types, and how an assembly has what a program has.
use Rattle.std.proofs.Common.{◌≡◌, inr, ℕ, ◌<◌, ◌≤◌, List, [], ◌∷◌, refl, ap, subst, map, true, Some, None, arith}
use Rattle.std.specs.Prelude.{codes, slice_get}
use Rattle.px_link.specs.Layout as layouts
use Rattle.px_link.specs.Layout.{IsSlot, type_row}
use Rattle.px_link.specs.Overrides.{AreOverrides, in_order}
use Rattle.px_link_methods.specs.Codes.{Numbering}
use Rattle.px_link_types.specs.declared.key.Leaf.TheVariants.{Library, Defined}
use Rattle.px_meta.specs.Chains as chains
use Rattle.px_meta.specs.Overriding as overriding
use Rattle.px_meta.specs.Overriding.{IsNamesake, IsSaid, MayOverride, Overrides}
use Rattle.px_meta.specs.Rows.{cell, methods, text_at}
use Rattle.px_program.specs.Overriding.{AreByFirst}
use Rattle.px_facts_link.proofs.ShopAssembly.{numbers, overriders, shop}
use Rattle.px_facts_link.proofs.SigWords.{grammar, int32}
use Rattle.px_facts_link.proofs.TableWords.{tables}
use Rattle.px_facts_link.proofs.VirtualAssembly.{virtuals}

-- OVERRIDES in the program of Run, where M of Base has the number 2, and that of Derived 3

-- a body that exchanges the two gives (3, 2)
in_derived : AreOverrides shop numbers overriders (2 ∷ []) 0 (Defined 2) ((2, 3) ∷ [])
unfolding tables
in_derived = record { behind = 1 ∷ []; chain = chains.GoesOn 2 1 [] refl (chains.Ends 1 refl); are = refl }

in_base : AreOverrides shop numbers overriders (2 ∷ []) 0 (Defined 1) []
unfolding tables
in_base = record { behind = []; chain = chains.Ends 1 refl; are = refl }

in_app : AreOverrides shop numbers overriders (2 ∷ []) 0 (Defined 3) []
unfolding tables
in_app = record { behind = []; chain = chains.Ends 3 refl; are = refl }

in_a_type_of_the_library : AreOverrides shop numbers overriders (2 ∷ []) 0 (Library 1) []
in_a_type_of_the_library = refl

in_an_array : AreOverrides shop numbers overriders (2 ∷ []) 1 (Defined 2) []
in_an_array = refl

-- THEIR ORDER, by number: m of C was met before m of A, which a `callvirt` names first

abbrev met : Numbering
met = record { keys = []; rows = 3 ∷ 1 ∷ 5 ∷ [] }

-- a body that leaves them as they are named gives 1 ∷ 3 ∷ []
what_is_met_first_comes_first : in_order met.rows (1 ∷ 3 ∷ []) ≡ 3 ∷ 1 ∷ []
what_is_met_first_comes_first = refl

-- such a body gives (1, 2) ∷ (0, 2) ∷ []
in_e : AreOverrides virtuals met ((7 ∷ 5 ∷ 6 ∷ 3 ∷ []) ∷ (9 ∷ []) ∷ (5 ∷ 6 ∷ []) ∷ []) (in_order met.rows (1 ∷ 3 ∷ [])) 0 (Defined 3) ((0, 2) ∷ (1, 2) ∷ [])
unfolding tables
in_e = record { behind = 2 ∷ 1 ∷ []; chain = chains.GoesOn 3 2 (1 ∷ []) refl (chains.GoesOn 2 1 [] refl (chains.Ends 1 refl)); are = refl }

they_rise : AreByFirst ((0, 2) ∷ (1, 2) ∷ [])
they_rise = (omega arith, tt)

-- SLOTS of methods

m_of_derived_may : MayOverride shop 4 2
unfolding grammar tables
m_of_derived_may = record {
  row = record { some = omega arith; few = omega arith };
  other_row = record { some = omega arith; few = omega arith };
  virtual = refl;
  other_virtual = refl;
  sig = record { has_this = true; plain = true; ret = int32; params = [] };
  has_sig = refl;
  other_has_sig = refl;
  instance = refl;
  owned = λ none. let owner : 2 ≡ 0 = none in omega arith;
  derives = overriding.Directly 2 1 refl;
}

nobody_says : (row other : ℕ) → IsSaid shop row 4 other → ⊥
unfolding tables
nobody_says row other said = let some = said.there.some in let few : row ≤ 0 = said.there.few in omega arith

letter : List ℕ → ℕ
letter [] = 0
letter (first ∷ rest) = first

constructor_is_not_m : codes ".ctor" ≡ codes "M" → ⊥
unfolding letter
constructor_is_not_m e = let same : ◌≡◌ {A = ℕ} 46 77 = ap letter e in omega arith

-- the first method of Base has another name
nobody_before : (other : ℕ) → other < 2 → IsNamesake shop 4 1 other → ⊥
unfolding tables
nobody_before other less named =
    constructor_is_not_m (subst (λ o. text_at shop (cell shop methods o 3) ≡ codes "M") (first other less named.may.other_row.some) named.name)
  where
    first : (row : ℕ) → row < 2 → 1 ≤ row → row ≡ 1
    first row less some = omega arith

m_of_derived_overrides_m_of_base : Overrides shop 4 2
unfolding tables
m_of_derived_overrides_m_of_base = inr (record {
  nobody_says = nobody_says;
  old_slot = refl;
  nearest = overriding.Here 2 1 2 refl (record { namesake = record { owner = refl; name = refl; may = m_of_derived_may }; first = nobody_before });
})

-- a body that looks for the method itself gives Some 3
m_of_derived_overrides_the_third : IsSlot shop numbers.rows 4 (record { is_virtual = true; overridden = Some 2 })
unfolding tables
m_of_derived_overrides_the_third = record {
  virtual_is = refl;
  nearest = Some 2;
  among = layouts.Nearest 4 2 m_of_derived_overrides_m_of_base refl;
  overridden_is = refl;
}

-- THE ORDER of rows: Base, Derived and App, and .ctor and M of Base, those of Derived, and Run

-- a body that goes by number gives 18 ∷ 19 ∷ 20 ∷ [], whose rows fall
types_in_the_order_of_rows : map (type_row numbers.keys) (20 ∷ 19 ∷ 18 ∷ []) ≡ Some 1 ∷ Some 2 ∷ Some 3 ∷ []
types_in_the_order_of_rows = refl

other_types_have_no_row : map (type_row numbers.keys) (0 ∷ 17 ∷ 21 ∷ []) ≡ None ∷ None ∷ None ∷ []
other_types_have_no_row = refl

methods_in_the_order_of_rows : map (slice_get numbers.rows) (4 ∷ 2 ∷ 1 ∷ 3 ∷ 0 ∷ []) ≡ Some 1 ∷ Some 2 ∷ Some 3 ∷ Some 4 ∷ Some 5 ∷ []
methods_in_the_order_of_rows = refl
