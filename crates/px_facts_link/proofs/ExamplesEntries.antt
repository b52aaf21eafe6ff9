-- The methods of names, why methods are refused, and the makers of their objects.
use Rattle.std.proofs.Common.{◌≡◌, ◌⊎◌, inl, inr, ℕ, ◌≤◌, List, [], ◌∷◌, ◌++◌, refl, sym, ap, ◌∙◌, subst, true, false, Some, None, arith}
use Rattle.std.specs.Prelude.{codes, replicate}
use Rattle.px_link.specs.Link.{Blames, first_unfit, has_maker, maker_of}
use Rattle.px_link.specs.Names.{IsNamed}
use Rattle.px_link.specs.declared.fault.LinkFault.TheVariants.{Ambiguous, NoBody}
use Rattle.px_meta.specs.Chains as chains
use Rattle.px_meta.specs.FullNames.{IsTypeName}
use Rattle.px_meta.specs.Members.{owner_of}
use Rattle.px_meta.specs.Rows.{IsRow, cell, methods, text_at}
use Rattle.px_pe.specs.Image as pe
use Rattle.px_sig.specs.declared.sig.MethodSig.{MethodSig}
use Rattle.px_sig.specs.Grammar.{array_of}
use Rattle.px_sig.specs.declared.sig.SigType.{SigType}
use Rattle.px_facts_link.proofs.DemoAssembly.{demo}
use Rattle.px_facts_link.proofs.ShopAssembly.{shop, shop_with}
use Rattle.px_facts_link.proofs.SigWords.{grammar, int32, int64, object, string}
use Rattle.px_facts_link.proofs.TableWords.{tables}

-- NAMES

-- a body that leaves out namespaces finds no such method
f_of_t : IsNamed demo (codes "Demo.T::F") 1
unfolding tables
f_of_t = record {
  row = record { some = omega arith; few = omega arith };
  owned = λ none. let owner : 1 ≡ 0 = none in omega arith;
  type = codes "Demo.T";
  type_is = record { outers = []; chain = chains.Ends 1 refl; is = refl };
  is = refl;
}

f_of_u_in_t : IsNamed demo (codes "Demo.T/U::F") 5
unfolding tables
f_of_u_in_t = record {
  row = record { some = omega arith; few = omega arith };
  owned = λ none. let owner : 2 ≡ 0 = none in omega arith;
  type = codes "Demo.T/U";
  type_is = record { outers = 1 ∷ []; chain = chains.GoesOn 2 1 [] refl (chains.Ends 1 refl); is = refl };
  is = refl;
}

f_of_v : IsNamed demo (codes "V::F") 6
unfolding tables
f_of_v = record {
  row = record { some = omega arith; few = omega arith };
  owned = λ none. let owner : 3 ≡ 0 = none in omega arith;
  type = codes "V";
  type_is = record { outers = []; chain = chains.Ends 3 refl; is = refl };
  is = refl;
}

-- two methods of one name

named_in_t : (row : ℕ) (name : List ℕ) → IsRow demo methods row → owner_of demo methods row ≡ 1
    → name ≡ codes "Demo.T::" ++ text_at demo (cell demo methods row 3) → IsNamed demo name row
unfolding tables
named_in_t row name there owner is = record {
  row = there;
  owned = λ none. let one : 1 ≡ 0 = sym owner ∙ none in omega arith;
  type = codes "Demo.T";
  type_is = subst (λ t. IsTypeName demo t (codes "Demo.T")) (sym owner) (record { outers = []; chain = chains.Ends 1 refl; is = refl });
  is = is;
}

-- a body that takes the first gives a program
two_of_t : (image : pe.View) → Blames demo image (codes "Demo.T::H") Ambiguous
unfolding tables
two_of_t image = record {
  first = 3;
  second = 4;
  named = named_in_t 3 (codes "Demo.T::H") (record { some = omega arith; few = omega arith }) refl refl;
  named_too = named_in_t 4 (codes "Demo.T::H") (record { some = omega arith; few = omega arith }) refl refl;
  apart = λ same. omega arith;
}

-- METHODS WITHOUT A BODY

-- the last of some numbers
abbrev last_of : List ℕ → ℕ
last_of [] = 0
last_of (x ∷ []) = x
last_of (x ∷ y ∷ rest) = last_of (y ∷ rest)

last_behind : (type text : List ℕ) → last_of (type ++ codes "::" ++ text) ≡ last_of (codes "::" ++ text)
last_behind [] text = refl
last_behind (x ∷ []) text = refl
last_behind (x ∷ y ∷ type) text = last_behind (y ∷ type) text

-- which of the six methods have a name with this last letter
one_of_six : (row : ℕ) → 1 ≤ row → row ≤ 6 → (row ≡ 1) ⊎ (row ≡ 2) ⊎ (row ≡ 3) ⊎ (row ≡ 4) ⊎ (row ≡ 5) ⊎ (row ≡ 6)
one_of_six row some few = grind arith

-- the last letter of a method's name
abbrev letter : ℕ → ℕ
letter row = last_of (codes "::" ++ text_at demo (cell demo methods row 3))

ends_in_g : (type text : List ℕ) → codes "Demo.T::G" ≡ type ++ codes "::" ++ text → 71 ≡ last_of (codes "::" ++ text)
ends_in_g type text is = ap last_of is ∙ last_behind type text

g_alone : (row : ℕ) → IsNamed demo (codes "Demo.T::G") row → row ≡ 2
unfolding tables
g_alone row named =
    let ends : 71 ≡ letter row = ends_in_g named.type (text_at demo (cell demo methods row 3)) named.is in
    elim (one_of_six row named.row.some named.row.few) [
      | inl one ↦ absurd (f_is_not_g (subst (λ r. 71 ≡ letter r) one ends))
      | inr (inl two) ↦ two
      | inr (inr (inl three)) ↦ absurd (h_is_not_g (subst (λ r. 71 ≡ letter r) three ends))
      | inr (inr (inr (inl four))) ↦ absurd (h_is_not_g (subst (λ r. 71 ≡ letter r) four ends))
      | inr (inr (inr (inr (inl five)))) ↦ absurd (f_is_not_g (subst (λ r. 71 ≡ letter r) five ends))
      | inr (inr (inr (inr (inr six)))) ↦ absurd (f_is_not_g (subst (λ r. 71 ≡ letter r) six ends))
    ]
  where
    f_is_not_g : ◌≡◌ {A = ℕ} 71 70 → ⊥
    f_is_not_g e = omega arith

    h_is_not_g : ◌≡◌ {A = ℕ} 71 72 → ⊥
    h_is_not_g e = omega arith

abbrev static : List SigType → MethodSig
static params = record { has_this = false; plain = true; ret = int32; params = params }

abbrev instance : SigType → MethodSig
instance ret = record { has_this = true; plain = true; ret = ret; params = [] }

-- a body that looks at the signature alone gives a program
g_has_no_body : (image : pe.View) → Blames demo image (codes "Demo.T::G") NoBody
unfolding grammar tables
g_has_no_body image = record {
  method = 2;
  sig = static (int32 ∷ []);
  only = record { named = named_in_t 2 (codes "Demo.T::G") (record { some = omega arith; few = omega arith }) refl refl; only = g_alone };
  has_sig = refl;
  no_body = inl refl;
}

-- PARAMETERS: the first that can't be given, of which there are sixteen

sixteen_integers : first_unfit (replicate 16 int32) ≡ None
unfolding grammar
sixteen_integers = refl

-- a body that takes seventeen gives None
seventeen_integers : first_unfit (replicate 17 int32) ≡ Some 16
unfolding grammar
seventeen_integers = refl

integers_and_arrays_of_them : first_unfit (int64 ∷ array_of int32 ∷ []) ≡ None
integers_and_arrays_of_them = refl

a_text_is_no_argument : first_unfit (string ∷ []) ≡ Some 0
unfolding grammar
a_text_is_no_argument = refl

an_array_of_arrays_is_no_argument : first_unfit (int32 ∷ array_of (array_of int32) ∷ object ∷ []) ≡ Some 1
an_array_of_arrays_is_no_argument = refl

-- MAKERS: constructors that take nothing and have a body

-- a body that wants a maker for each method refuses it
a_static_method_needs_no_maker : has_maker demo 1 (static (int32 ∷ [])) ≡ true
unfolding grammar tables
a_static_method_needs_no_maker = refl

f_of_v_has_no_maker : has_maker demo 6 (instance int32) ≡ false
unfolding grammar tables
f_of_v_has_no_maker = refl

the_maker_of_go : maker_of shop 7 (instance int32) ≡ Some 6
unfolding grammar tables
the_maker_of_go = refl

-- a body that takes constructors without a body gives Some 6
a_constructor_without_a_body_makes_nothing : maker_of (shop_with 0) 7 (instance int32) ≡ None
unfolding grammar tables
a_constructor_without_a_body_makes_nothing = refl
