-- Which methods override others, at once and through others, and their order: by the names of their owners, and then by row.
use Rattle.std.proofs.Common.{◌≡◌, ◌≢◌, ◌⊎◌, inl, inr, ℕ, Option, ◌<◌, ◌≤◌, List, [], ◌∷◌, refl, subst, true, Some, arith}
use Rattle.std.specs.Prelude.{codes}
use Rattle.px_link_reach.specs.Overriders.{IsBefore, OverridesThrough, Directly, Through}
use Rattle.px_meta.specs.Chains as chains
use Rattle.px_meta.specs.FullNames.{IsTypeName}
use Rattle.px_meta.specs.Members.{owner_of}
use Rattle.px_meta.specs.Overriding as overriding
use Rattle.px_meta.specs.Overriding.{IsNamesake, IsSaid, MayOverride, Overrides}
use Rattle.px_meta.specs.Rows.{IsRow, cell, method_impls, methods, row_by}
use Rattle.px_sig.specs.declared.sig.MethodSig.{MethodSig}
use Rattle.px_sig.specs.declared.sig.SigType.{SigType}
use Rattle.px_facts_link.proofs.SigWords.{grammar, int32, void}
use Rattle.px_facts_link.proofs.TableWords.{tables}
use Rattle.px_facts_link.proofs.VirtualAssembly.{virtuals}

-- an instance method with these parameters that returns nothing
abbrev takes : List SigType → MethodSig
takes params = record { has_this = true; plain = true; ret = void; params = params }

is_method : (row : ℕ) → 1 ≤ row → row ≤ 9 → IsRow virtuals methods row
is_method row some few = record { some = some; few = few }

one_or_two : (row : ℕ) → 1 ≤ row → row ≤ 2 → (row ≡ 1) ⊎ (row ≡ 2)
one_or_two row some few = grind arith

first_row : (row : ℕ) → row < 2 → 1 ≤ row → row ≡ 1
first_row row less some = omega arith

-- WHAT MAY OVERRIDE, with the same signature and from a base

m_of_b_may : MayOverride virtuals 7 1
unfolding grammar tables
m_of_b_may = record {
  row = is_method 7 (omega arith) (omega arith);
  other_row = is_method 1 (omega arith) (omega arith);
  virtual = refl;
  other_virtual = refl;
  sig = takes [];
  has_sig = refl;
  other_has_sig = refl;
  instance = refl;
  owned = λ none. let owner : 4 ≡ 0 = none in omega arith;
  derives = overriding.Directly 4 1 refl;
}

m_of_c_may : MayOverride virtuals 3 1
unfolding grammar tables
m_of_c_may = record {
  row = is_method 3 (omega arith) (omega arith);
  other_row = is_method 1 (omega arith) (omega arith);
  virtual = refl;
  other_virtual = refl;
  sig = takes [];
  has_sig = refl;
  other_has_sig = refl;
  instance = refl;
  owned = λ none. let owner : 2 ≡ 0 = none in omega arith;
  derives = overriding.Directly 2 1 refl;
}

m_of_e_may : MayOverride virtuals 5 3
unfolding grammar tables
m_of_e_may = record {
  row = is_method 5 (omega arith) (omega arith);
  other_row = is_method 3 (omega arith) (omega arith);
  virtual = refl;
  other_virtual = refl;
  sig = takes [];
  has_sig = refl;
  other_has_sig = refl;
  instance = refl;
  owned = λ none. let owner : 3 ≡ 0 = none in omega arith;
  derives = overriding.Directly 3 2 refl;
}

q_of_e_may : MayOverride virtuals 6 3
unfolding grammar tables
q_of_e_may = record {
  row = is_method 6 (omega arith) (omega arith);
  other_row = is_method 3 (omega arith) (omega arith);
  virtual = refl;
  other_virtual = refl;
  sig = takes [];
  has_sig = refl;
  other_has_sig = refl;
  instance = refl;
  owned = λ none. let owner : 3 ≡ 0 = none in omega arith;
  derives = overriding.Directly 3 2 refl;
}

p_of_d_may : MayOverride virtuals 9 2
unfolding grammar tables
p_of_d_may = record {
  row = is_method 9 (omega arith) (omega arith);
  other_row = is_method 2 (omega arith) (omega arith);
  virtual = refl;
  other_virtual = refl;
  sig = takes (int32 ∷ []);
  has_sig = refl;
  other_has_sig = refl;
  instance = refl;
  owned = λ none. let owner : 5 ≡ 0 = none in omega arith;
  derives = overriding.Directly 5 1 refl;
}

-- WHAT OVERRIDES by its name: no row of MethodImpl says what these methods override

-- the method whose body a row says it is
abbrev body_said : ℕ → Option ℕ
body_said row = row_by virtuals methods 1 (cell virtuals method_impls row 1)

bodies_said : (row method : ℕ) → IsRow virtuals method_impls row → body_said row ≡ Some method → (method ≡ 6) ⊎ (method ≡ 9)
unfolding tables
bodies_said row method there is = elim (one_or_two row there.some there.few) [
  | inl one ↦ let said : Some 6 ≡ Some method = subst (λ r. body_said r ≡ Some method) one is in inl (cc)
  | inr two ↦ let said : Some 9 ≡ Some method = subst (λ r. body_said r ≡ Some method) two is in inr (cc)
]

nobody_says : (method : ℕ) → method ≢ 6 → method ≢ 9 → (row other : ℕ) → IsSaid virtuals row method other → ⊥
nobody_says method no_q no_p row other said = elim (bodies_said row method said.there said.body) [ inl q ↦ no_q q | inr p ↦ no_p p ]

-- the first method of A has no namesake before it
first_of_a : (method other : ℕ) → other < 1 → IsNamesake virtuals method 1 other → ⊥
first_of_a method other less named = let some = named.may.other_row.some in omega arith

-- a body that asks the method of half the number gives None
m_of_b_overrides_m_of_a : Overrides virtuals 7 1
unfolding tables
m_of_b_overrides_m_of_a = inr (record {
  nobody_says = nobody_says 7 (λ e. omega arith) (λ e. omega arith);
  old_slot = refl;
  nearest = overriding.Here 4 1 1 refl (record { namesake = record { owner = refl; name = refl; may = m_of_b_may }; first = first_of_a 7 });
})

m_of_c_overrides_m_of_a : Overrides virtuals 3 1
unfolding tables
m_of_c_overrides_m_of_a = inr (record {
  nobody_says = nobody_says 3 (λ e. omega arith) (λ e. omega arith);
  old_slot = refl;
  nearest = overriding.Here 2 1 1 refl (record { namesake = record { owner = refl; name = refl; may = m_of_c_may }; first = first_of_a 3 });
})

a_is_not_c : ◌≡◌ {A = ℕ} 1 2 → ⊥
a_is_not_c e = omega arith

-- the methods before the third are those of A
first_of_c : (method other : ℕ) → other < 3 → IsNamesake virtuals method 2 other → ⊥
unfolding tables
first_of_c method other less named = elim (one_or_two other named.may.other_row.some (omega arith)) [
  | inl one ↦ a_is_not_c (subst (λ o. owner_of virtuals methods o ≡ 2) one named.owner)
  | inr two ↦ a_is_not_c (subst (λ o. owner_of virtuals methods o ≡ 2) two named.owner)
]

m_of_e_overrides_m_of_c : Overrides virtuals 5 3
unfolding tables
m_of_e_overrides_m_of_c = inr (record {
  nobody_says = nobody_says 5 (λ e. omega arith) (λ e. omega arith);
  old_slot = refl;
  nearest = overriding.Here 3 2 3 refl (record { namesake = record { owner = refl; name = refl; may = m_of_e_may }; first = first_of_c 5 });
})

-- WHAT OVERRIDES because a row says so

q_of_e_overrides_m_of_c : Overrides virtuals 6 3
unfolding tables
q_of_e_overrides_m_of_c = inl (record {
  row = 1;
  said = record { there = record { some = omega arith; few = omega arith }; body = refl; declaration = refl; may = q_of_e_may };
  first = λ row other less said. let some = said.there.some in omega arith;
})

p_of_d_overrides_k_of_a : Overrides virtuals 9 2
unfolding tables
p_of_d_overrides_k_of_a = inl (record {
  row = 2;
  said = record { there = record { some = omega arith; few = omega arith }; body = refl; declaration = refl; may = p_of_d_may };
  first = λ row other less said.
      let body : Some 6 ≡ Some 9 = subst (λ r. body_said r ≡ Some 9) (first_row row less said.there.some) said.body in absurd (cc);
})

-- THROUGH OTHERS

-- a body that lists only those that override at once leaves out both
m_of_e_overrides_m_of_a : OverridesThrough virtuals 5 1
m_of_e_overrides_m_of_a = Through 5 3 1 m_of_e_overrides_m_of_c (Directly 3 1 m_of_c_overrides_m_of_a)

q_of_e_overrides_m_of_a : OverridesThrough virtuals 6 1
q_of_e_overrides_m_of_a = Through 6 3 1 q_of_e_overrides_m_of_c (Directly 3 1 m_of_c_overrides_m_of_a)

-- THE ORDER of what overrides m of A: m of B, m of E, q of E, m of C

type_e : IsTypeName virtuals (owner_of virtuals methods 5) (codes "E")
unfolding tables
type_e = record { outers = []; chain = chains.Ends 3 refl; is = refl }

b_comes_before_e : IsBefore virtuals 7 5
unfolding tables
b_comes_before_e = record {
  type = codes "B";
  other_type = codes "E";
  type_is = record { outers = []; chain = chains.Ends 4 refl; is = refl };
  other_type_is = type_e;
  before = tt;
}

-- a body that takes later rows first has q of E before m of E
m_of_e_comes_before_q_of_e : IsBefore virtuals 5 6
unfolding tables
m_of_e_comes_before_q_of_e = record { type = codes "E"; other_type = codes "E"; type_is = type_e; other_type_is = type_e; before = omega arith }

-- a body that goes by row alone has m of C before those of E; the name of C is "N.C"
e_comes_before_c : IsBefore virtuals 6 3
unfolding tables
e_comes_before_c = record {
  type = codes "E";
  other_type = codes "N.C";
  type_is = type_e;
  other_type_is = record { outers = []; chain = chains.Ends 2 refl; is = refl };
  before = tt;
}
