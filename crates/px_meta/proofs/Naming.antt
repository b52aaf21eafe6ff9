-- What tokens name.
use Rattle.std.proofs.Common.{◌≡◌, ◌⊎◌, ℕ, ◌+◌, ◌-◌, ◌/◌, ◌%◌, ◌^◌, ◌<◌, List, Option, Some, None, get_or, refl, sym, ◌∙◌, subst, inl, inr, ⊎_elim, arith}
use Rattle.std.specs.Prelude.{MatchOption}
use Rattle.std.proofs.lemmas.Bool.{cases_lt}
use Rattle.std.proofs.lemmas.Bool.Decides.{nat_tests}
use Rattle.std.proofs.lemmas.Option.{slice_get_read}
use Rattle.px_blobs.specs.Items.{IsStringAt}
use Rattle.std.specs.Option.{option_map}
use Rattle.px_sig.specs.declared.sig.MethodSig.{MethodSig}
use Rattle.px_tables.specs.Metadata.{View}
use Rattle.px_meta.specs.Faults.{HasNames, IsFaultless, MemberRef, TypeDef, TypeRef}
use Rattle.px_meta.specs.Rows.{IsReadable, IsRow, cell, count_of, fields, member_refs, methods, some_row, type_defs, type_refs}
use Rattle.px_meta.specs.Members.{owner_of}
use Rattle.px_meta.specs.Tokens.{AreRows, IsTypeName, Names, NamesMember, NamesType, row_in}

row_there : (v : View) (table row : ℕ) → IsRow v table row → some_row v table row ≡ Some row
row_there v table row is = let a = is.some in let b = is.few in grind (arith, nat_tests)

no_row : (v : View) (table row : ℕ) → (row < 1) ⊎ (count_of v table < row) → some_row v table row ≡ None
no_row v table row outside = grind (arith, nat_tests)

-- a row of a table, or none
pub row_or_none : (v : View) (table at : ℕ) (o : Option ℕ) → at / 2 ^ 24 ≡ table → o ≡ some_row v table (at % 2 ^ 24) → MatchOption o (Names v table at → ⊥) (λ row. (row ≡ row_in at) × Names v table at)
row_or_none v table at o e is =
    subst (λ o. MatchOption o (Names v table at → ⊥) (λ row. (row ≡ row_in at) × Names v table at)) (sym is)
    (⊎_elim
    (λ below. outside (inl below))
    (λ some. ⊎_elim
    (λ past. outside (inr past))
    (λ few.
    let is_row : IsRow v table (row_in at) = record { some = some; few = few } in
    subst (λ o. MatchOption o (Names v table at → ⊥) (λ row. (row ≡ row_in at) × Names v table at)) (sym (row_there v table (row_in at) is_row)) (refl, (e, is_row)))
    (cases_lt (count_of v table) (row_in at)))
    (cases_lt (row_in at) 1))
  where
    outside : (row_in at < 1) ⊎ (count_of v table < row_in at) → MatchOption (some_row v table (row_in at)) (Names v table at → ⊥) (λ row. (row ≡ row_in at) × Names v table at)
    outside out = subst (λ o. MatchOption o (Names v table at → ⊥) (λ row. (row ≡ row_in at) × Names v table at)) (sym (no_row v table (row_in at) out))
        (λ names. ⊎_elim (λ below. omega (arith, names.1.some)) (λ past. omega (arith, names.1.few)) out)

-- the names of a type by its token, which can be read where no row has a fault
pub type_named : {X : Type 0} (namespace name : X → List ℕ) (v : View) (table at row : ℕ) (o : Option X) → row ≡ row_in at → Names v table at
    → MatchOption o (HasNames v table row → ⊥) (λ x. IsStringAt v.strings (cell v table row 2) (namespace x) × IsStringAt v.strings (cell v table row 1) (name x))
    → ((HasNames v table row → ⊥) → ⊥) → NamesType v at
    → MatchOption o (NamesType v at → ⊥) (λ x. IsTypeName v at (namespace x) (name x))
type_named namespace name v table at row None e names none never is = absurd (never none)
type_named namespace name v table at row (Some x) e names stand never is = record {
  names = is;
  namespace_is = subst (λ t. IsStringAt v.strings (cell v t (row_in at) 2) (namespace x)) (sym names.0) (subst (λ r. IsStringAt v.strings (cell v table r 2) (namespace x)) e stand.0);
  name_is = subst (λ t. IsStringAt v.strings (cell v t (row_in at) 1) (name x)) (sym names.0) (subst (λ r. IsStringAt v.strings (cell v table r 1) (name x)) e stand.1);
}

pub def_named : (v : View) (at row : ℕ) → IsFaultless v → row ≡ row_in at → Names v type_defs at → (HasNames v type_defs row → ⊥) → ⊥
def_named v at row faultless e names bad = faultless _ type_defs row (TypeDef row (subst (λ r. IsRow v type_defs r) (sym e) names.1) bad)

pub ref_named : (v : View) (at row : ℕ) → IsFaultless v → row ≡ row_in at → Names v type_refs at → (HasNames v type_refs row → ⊥) → ⊥
ref_named v at row faultless e names bad = faultless _ type_refs row (TypeRef row (subst (λ r. IsRow v type_refs r) (sym e) names.1) bad)

-- the item of a row that a token names
pub item_named : {X : Type 0} (Is : View → ℕ → X → Type 0) (v : View) (table at row : ℕ) (items : List X) (x : X) → AreRows Is v table items → row ≡ row_in at → Names v table at → x ≡ get_or items (row - 1) x → Is v (row_in at) x
item_named Is v table at row items x are e names is =
    let same : (row - 1) + 1 ≡ row_in at = omega (arith, names.1.some) in
    subst (λ r. Is v r x) same (are.each (row - 1) x (slice_get_read items (count_of v table) (row - 1) x (sym are.count) (omega (arith, names.1.some, names.1.few)) is))

-- a method or field that no type has is no member
pub method_unowned : (v : View) (at : ℕ) → Names v methods at → owner_of v methods (row_in at) ≡ 0 → NamesMember v at → ⊥
method_unowned v at names none member = ⊎_elim (λ method. method.1 none) (λ other. ⊎_elim (λ field. let e = names.0 in let f = field.0.0 in omega arith) (λ ref. let e = names.0 in let f = ref.0 in omega arith) other) member

pub field_unowned : (v : View) (at : ℕ) → Names v fields at → owner_of v fields (row_in at) ≡ 0 → NamesMember v at → ⊥
field_unowned v at names none member = ⊎_elim (λ method. let e = names.0 in let f = method.0.0 in omega arith) (λ other. ⊎_elim (λ field. field.1 none) (λ ref. let e = names.0 in let f = ref.0 in omega arith) other) member

-- the name of a reference can be read where no row has a fault
pub reference_readable : (v : View) (at row place : ℕ) → IsFaultless v → row ≡ row_in at → Names v member_refs at → place ≡ cell v member_refs row 1 → (IsReadable v place → ⊥) → ⊥
reference_readable v at row place faultless e names is none =
    faultless _ member_refs row (MemberRef row (subst (λ r. IsRow v member_refs r) (sym e) names.1) (λ whole. none (subst (λ n. IsReadable v n) (sym is) whole.name)))

-- the signature of a reference
pub same_sig : {X : Type 0} (now : X → MethodSig) (sig : Option MethodSig) (o : Option X) (kept : Option MethodSig) → option_map now o ≡ kept → kept ≡ sig → MatchOption o (sig ≡ None) (λ s. sig ≡ Some (now s))
same_sig now sig None kept e is = sym is ∙ sym e
same_sig now sig (Some x) kept e is = sym is ∙ sym e
