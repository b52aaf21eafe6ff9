-- Methods that may override each other, by what was read of them.
use Rattle.std.proofs.Common.{◌≡◌, ◌≢◌, ℕ, zero, suc, ◌+◌, ◌-◌, ◌<◌, ◌≤◌, Bool, true, false, cond, List, [], ◌∷◌, ◌++◌, get_or, Option, Some, None, refl, sym, ap, ◌∙◌, subst, arith}
use Rattle.std.specs.Prelude.{All, ◌==◌, ◌&&◌, find, nat_le, nat_lt, not, take_while}
use Rattle.std.specs.List.{range_with_len}
use Rattle.std.specs.Option.{unwrap_or}
use Rattle.std.proofs.lemmas.Bool.{ne_eqb}
use Rattle.std.proofs.lemmas.Bool.Decides.{nat_tests}
use Rattle.std.proofs.lemmas.List.Elements.{All-head, All-tail}
use Rattle.std.proofs.lemmas.List.Sums.{take_while-cons}
use Rattle.std.proofs.lemmas.Option.{slice_get_read}
use Rattle.px_blobs.specs.Items.{IsStringAt}
use Rattle.px_tables.specs.Counts.{has_bit}
use Rattle.px_tables.specs.Metadata.{View}
use Rattle.px_meta.specs.Impls.{IsAlike, IsMatch}
use Rattle.px_meta.specs.Members.{IsMethod, is_listed, list_end, list_start, owner_of}
use Rattle.px_meta.specs.Overriding.{Derives, IsNamesake, MayOverride}
use Rattle.px_meta.specs.Rows.{IsRow, cell, count_of, methods, text_at, type_defs}
use Rattle.px_meta.specs.Tokens.{AreRows}
use Rattle.px_meta.specs.declared.meta.MetaMethod.{MetaMethod}

-- what was read of a row
pub item_of : {X : Type 0} (Is : View → ℕ → X → Type 0) (v : View) (table row : ℕ) (items : List X) (x : X) → AreRows Is v table items → IsRow v table row → x ≡ get_or items (row - 1) x → Is v row x
item_of Is v table row items x are is e =
    let same : (row - 1) + 1 ≡ row = omega (arith, is.some) in
    subst (λ r. Is v r x) same (are.each (row - 1) x (slice_get_read items (count_of v table) (row - 1) x (sym are.count) (omega (arith, is.some, is.few)) e))

-- a text ends at its zero
before_zero : (text rest : List ℕ) → All (λ byte. byte ≢ 0) text → take_while (λ byte. not (byte == 0)) (text ++ 0 ∷ rest) ≡ text
before_zero [] rest none = refl
before_zero (b ∷ text) rest none =
    let first : b ≢ 0 = All-head (λ byte. byte ≢ 0) b text none in
    let test : (b == 0) ≡ false = ne_eqb b 0 first in
    let later : take_while (λ byte. not (byte == 0)) (text ++ 0 ∷ rest) ≡ text = before_zero text rest (All-tail (λ byte. byte ≢ 0) b text none) in
    take_while-cons (λ byte. not (byte == 0)) b (text ++ 0 ∷ rest) ∙ ap (λ (e : Bool). cond (not e) (b ∷ take_while (λ byte. not (byte == 0)) (text ++ 0 ∷ rest)) []) test ∙ ap (λ xs. b ∷ xs) later

pub text_is : (v : View) (at : ℕ) (text : List ℕ) → IsStringAt v.strings at text → text_at v at ≡ text
text_is v at text is = ap (λ bytes. take_while (λ byte. not (byte == 0)) bytes) is.stands ∙ before_zero text is.rest is.no_zero

-- what was read of two methods decides whether the one may override the other
pub may_from : (v : View) (method other : ℕ) (own another : MetaMethod) → IsRow v methods method → IsRow v methods other → IsMethod v method own → IsMethod v other another
    → own.owner ≢ 0 → IsMatch own another → Derives v own.owner another.owner → MayOverride v method other
may_from v method other own another row other_row is other_is owned m derives = record {
  row = row;
  other_row = other_row;
  virtual = ap (λ f. has_bit f 6) (sym is.flags) ∙ m.virtual;
  other_virtual = ap (λ f. has_bit f 6) (sym other_is.flags) ∙ m.other_virtual;
  sig = own.sig;
  has_sig = is.sig;
  other_has_sig = other_is.sig ∙ ap (λ s. Some s) (sym m.sig);
  instance = m.instance;
  owned = λ e. owned (is.owner ∙ e);
  derives = subst (λ n. Derives v n (owner_of v methods other)) is.owner (subst (λ n. Derives v own.owner n) other_is.owner derives);
}

pub match_from : (v : View) (method other : ℕ) (own another : MetaMethod) → IsMethod v method own → IsMethod v other another → MayOverride v method other → IsMatch own another
match_from v method other own another is other_is may = record {
  virtual = ap (λ f. has_bit f 6) is.flags ∙ may.virtual;
  other_virtual = ap (λ f. has_bit f 6) other_is.flags ∙ may.other_virtual;
  instance = let same : own.sig ≡ may.sig = let a = is.sig in let b = may.has_sig in cc in ap (λ s. s.has_this) same ∙ may.instance;
  sig = let a = is.sig in let b = may.has_sig in let d = other_is.sig in let e = may.other_has_sig in cc;
}

pub derives_from : (v : View) (method other : ℕ) (own another : MetaMethod) → IsMethod v method own → IsMethod v other another → MayOverride v method other → Derives v own.owner another.owner
derives_from v method other own another is other_is may =
    subst (λ n. Derives v n another.owner) (sym is.owner) (subst (λ n. Derives v (owner_of v methods method) n) (sym other_is.owner) may.derives)

pub namesake_from : (v : View) (method base other : ℕ) (own another : MetaMethod) → IsRow v methods method → IsRow v methods other → IsMethod v method own → IsMethod v other another
    → owner_of v methods method ≢ 0 → Derives v (owner_of v methods method) base → IsAlike base own another → IsNamesake v method base other
namesake_from v method base other own another row other_row is other_is owned derives alike = record {
  owner = sym other_is.owner ∙ alike.owner;
  name = text_is v (cell v methods other 3) another.name.now other_is.name ∙ alike.name ∙ sym (text_is v (cell v methods method 3) own.name.now is.name);
  may = may_from v method other own another row other_row is other_is (λ e. owned (sym is.owner ∙ e)) alike.matched
      (subst (λ n. Derives v n another.owner) (sym is.owner) (subst (λ n. Derives v (owner_of v methods method) n) (sym alike.owner) derives));
}

pub alike_from : (v : View) (method base other : ℕ) (own another : MetaMethod) → IsMethod v method own → IsMethod v other another → IsNamesake v method base other → IsAlike base own another
alike_from v method base other own another is other_is n = record {
  owner = other_is.owner ∙ n.owner;
  name = sym (text_is v (cell v methods other 3) another.name.now other_is.name) ∙ n.name ∙ text_is v (cell v methods method 3) own.name.now is.name;
  matched = match_from v method other own another is other_is n.may;
}

-- what is found passes, and is among what is looked at
abbrev IsFound : (ℕ → Bool) → ℕ → ℕ → ℕ → Type 0
IsFound p a n x = (p x ≡ true) × (a ≤ x) × (x < a + n)

found_by : (p : ℕ → Bool) (a n x : ℕ) (b : Bool) (later : Option ℕ) → p a ≡ b → (later ≡ Some x → IsFound p (a + 1) n x) → cond b (Some a) later ≡ Some x → IsFound p a (suc n) x
found_by p a n x true later e rest here = let same : a ≡ x = cc in (subst (λ k. p k ≡ true) same e, omega arith, omega arith)
found_by p a n x false later e rest there = let f = rest there in (f.0, omega (arith, f.1), omega (arith, f.2))

find_passes : (p : ℕ → Bool) (a n x : ℕ) → find p (range_with_len a n) ≡ Some x → IsFound p a n x
find_passes p a zero x found = absurd (cc)
find_passes p a (suc n) x found = found_by p a n x (p a) (find p (range_with_len (a + 1) n)) refl (λ later. find_passes p (a + 1) n x later) found

some_from : (o : Option ℕ) (x : ℕ) → unwrap_or o 0 ≡ x → x ≢ 0 → o ≡ Some x
some_from None x e ne = absurd (ne (sym e))
some_from (Some y) x e ne = ap (λ k. Some k) e

owner_found : (v : View) (table member type : ℕ) → owner_of v table member ≡ type → type ≢ 0 → (is_listed v table member type ≡ true) × (1 ≤ type) × (type < 1 + count_of v type_defs)
owner_found v table member type e ne = find_passes (is_listed v table member) 1 (count_of v type_defs) type (some_from _ type e ne)

pub owner_row : (v : View) (table member type : ℕ) → owner_of v table member ≡ type → type ≢ 0 → IsRow v type_defs type
owner_row v table member type e ne = let found = owner_found v table member type e ne in record { some = found.1; few = omega (arith, found.2) }

both_tests : (start end row : ℕ) → (nat_le start row && nat_lt row end) ≡ true → (start ≤ row) × (row < end)
both_tests start end row e = (grind (arith, nat_tests), grind (arith, nat_tests))

-- a namesake in a type stands in its list
pub listed_in : (v : View) (method base other : ℕ) → IsRow v type_defs base → IsNamesake v method base other → (list_start v methods base ≤ other) × (other < list_end v methods base)
listed_in v method base other is n =
    both_tests (list_start v methods base) (list_end v methods base) other (owner_found v methods other base n.owner (λ e. omega (arith, is.some))).0
