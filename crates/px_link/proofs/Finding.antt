-- The one method of a name, found in one pass over the rows.
use Rattle.std.proofs.Common.{◌≡◌, ◌≢◌, ℕ, suc, zero, ◌+◌, ◌-◌, ◌<◌, ◌≤◌, Bool, true, false, cond, List, Option, Some, None, length, get_or, refl, sym, ◌∙◌, subst, ⊎_elim, arith}
use Rattle.std.specs.Prelude.{◌&&◌, nat_le, if◌then◌else◌, find, IfErr, IfOk, IfSome, MatchBool}
use Rattle.std.specs.Option.{is_some, ok_or, unwrap_or}
use Rattle.std.specs.List.{range_with_len}
use Rattle.std.proofs.lemmas.Bool.{cases_eq}
use Rattle.std.proofs.lemmas.Bool.Decides.{nat_tests}
use Rattle.std.proofs.lemmas.Option.{slice_get-get_or, slice_get_read}
use Rattle.px_pe.specs.Image as pe
use Rattle.px_tables.specs.Metadata.{View}
use Rattle.px_meta.specs.Chains.{encloser, nesting_in, outer_of}
use Rattle.px_meta.specs.Members.{IsMethod, is_listed, owner_of}
use Rattle.px_meta.specs.Rows.{IsRow, cell, count_of, methods, nested_classes, rows_in, type_defs}
use Rattle.px_meta.specs.Tokens.{AreRows}
use Rattle.px_meta.specs.declared.meta.MetaMethod.{MetaMethod}
use Rattle.px_link.specs.declared.fault.LinkFault.TheVariants.{NoMethod}
use Rattle.px_link.specs.Link.{AreTwo, Blames}
use Rattle.px_link.specs.Names.{IsNamed, IsOnly}

-- a row that is read is one of its table
pub is_row : (v : View) (table n : ℕ) → n < count_of v table → IsRow v table (n + 1)
is_row v table n few = record { some = omega arith; few = omega arith }

-- the item of a row
pub is_item : {X : Type 0} (Is : View → ℕ → X → Type 0) (v : View) (table : ℕ) (items : List X) (n : ℕ) (x : X) → AreRows Is v table items → n < length items → x ≡ get_or items n x → Is v (n + 1) x
is_item Is v table items n x are few is = are.each n x (slice_get_read items (length items) n x refl few is)

pub item_at : {X : Type 0} (Is : View → ℕ → X → Type 0) (v : View) (table : ℕ) (items : List X) (row : ℕ) (d : X) → AreRows Is v table items → IsRow v table row → Is v row (get_or items (row - 1) d)
item_at Is v table items row d are there =
    let same : (row - 1) + 1 ≡ row = omega (arith, there.some) in
    subst (λ r. Is v r (get_or items (row - 1) d)) same
    (are.each (row - 1) (get_or items (row - 1) d) (slice_get-get_or items (row - 1) d (omega (arith, there.some, there.few, are.count))))

-- the item of a row, as it is read
pub item_of : {X : Type 0} (Is : View → ℕ → X → Type 0) (v : View) (table row : ℕ) (items : List X) (x : X) → AreRows Is v table items → IsRow v table row → x ≡ get_or items (row - 1) x → Is v row x
item_of Is v table row items x are is e =
    let same : (row - 1) + 1 ≡ row = omega (arith, is.some) in
    subst (λ r. Is v r x) same (are.each (row - 1) x (slice_get_read items (count_of v table) (row - 1) x (sym are.count) (omega (arith, is.some, is.few)) e))

-- what is found among some numbers is one of them
abbrev IsWithin : ℕ → ℕ → ℕ → Type 0
IsWithin from n found = (from ≤ found) × (found < from + n)

found_here : (from n : ℕ) (here : Bool) (later : Option ℕ) → (unwrap_or later 0 ≢ 0 → IsWithin (from + 1) n (unwrap_or later 0))
    → unwrap_or (cond here (Some from) later) 0 ≢ 0 → IsWithin from (suc n) (unwrap_or (cond here (Some from) later) 0)
found_here from n true later within some = (omega arith, omega arith)
found_here from n false later within some = let w = within some in (omega (arith, w.0), omega (arith, w.1))

found_within : (p : ℕ → Bool) (from n : ℕ) → unwrap_or (find p (range_with_len from n)) 0 ≢ 0 → IsWithin from n (unwrap_or (find p (range_with_len from n)) 0)
found_within p from zero some = absurd (some refl)
found_within p from (suc n) some = found_here from n (p from) (find p (range_with_len (from + 1) n)) (found_within p (from + 1) n) some

-- the owner of a method is a type
pub owner_is_row : (v : View) (table member : ℕ) → owner_of v table member ≢ 0 → IsRow v type_defs (owner_of v table member)
owner_is_row v table member some =
    let within = found_within (is_listed v table member) 1 (count_of v type_defs) some in
    record { some = within.0; few = omega (arith, within.1) }

pub owned_by_row : (v : View) (row : ℕ) (m : MetaMethod) → IsMethod v row m → m.owner ≢ 0 → IsRow v type_defs m.owner
owned_by_row v row m is some = subst (λ o. IsRow v type_defs o) (sym is.owner) (owner_is_row v methods row (λ e. some (is.owner ∙ e)))

both : (a b : Bool) → (a && b) ≡ true → (a ≡ true) × (b ≡ true)
both true b h = (refl, h)
both false b h = absurd (cc)

some_by : (P : ℕ → Type 0) (b : Bool) (row : ℕ) → (b ≡ true → P row) → IfSome (if b then Some row else None) P
some_by P true row h = h refl
some_by P false row h = tt

at_least : (a b : ℕ) → nat_le a b ≡ true → a ≤ b
at_least a b h = grind (arith, nat_tests)

tested : (v : View) (table row : ℕ) → (nat_le 1 row && nat_le row (count_of v table)) ≡ true → IsRow v table row
tested v table row h =
    let p = both (nat_le 1 row) (nat_le row (count_of v table)) h in
    record { some = at_least 1 row p.0; few = at_least row (count_of v table) p.1 }

enclosed : (v : View) (n : Option ℕ) → IfSome (encloser v n) (IsRow v type_defs)
enclosed v None = tt
enclosed v (Some n) =
    let row = cell v nested_classes n 1 in
    some_by (IsRow v type_defs) (nat_le 1 row && nat_le row (count_of v type_defs)) row (tested v type_defs row)

-- the type around a type is a type
pub outer_is_row : (v : View) (row : ℕ) → IfSome (outer_of v row) (IsRow v type_defs)
outer_is_row v row = enclosed v (nesting_in v (rows_in v nested_classes) row)

-- none of the first so many rows has the name
pub record IsNone (v : View) (name : List ℕ) (n : ℕ) : Type 0 where
  pub none : (row : ℕ) → row ≤ n → IsNamed v name row → ⊥

-- one of the first so many rows has the name, and it is this
pub record IsOne (v : View) (name : List ℕ) (n row : ℕ) : Type 0 where
  pub within : row ≤ n
  pub named : IsNamed v name row
  pub only : (other : ℕ) → other ≤ n → IsNamed v name other → other ≡ row

none_more : (v : View) (name : List ℕ) (n : ℕ) → IsNone v name n → (IsNamed v name (n + 1) → ⊥) → IsNone v name (n + 1)
none_more v name n before here = record {
  none = λ row few is.
      ⊎_elim
      (λ e. here (subst (λ r. IsNamed v name r) e is))
      (λ ne. before.none row (omega arith) is)
      (cases_eq row (n + 1));
}

one_begun : (v : View) (name : List ℕ) (n : ℕ) → IsNone v name n → IsNamed v name (n + 1) → IsOne v name (n + 1) (n + 1)
one_begun v name n before here = record {
  within = omega arith;
  named = here;
  only = λ other few named.
      ⊎_elim
      (λ e. e)
      (λ ne. absurd (before.none other (omega arith) named))
      (cases_eq other (n + 1));
}

one_more : (v : View) (name : List ℕ) (n row : ℕ) → IsOne v name n row → (IsNamed v name (n + 1) → ⊥) → IsOne v name (n + 1) row
one_more v name n row before here = record {
  within = omega (arith, before.within);
  named = before.named;
  only = λ other few named.
      ⊎_elim
      (λ e. absurd (here (subst (λ r. IsNamed v name r) e named)))
      (λ ne. before.only other (omega arith) named)
      (cases_eq other (n + 1));
}

are_two : (v : View) (name : List ℕ) (n row : ℕ) → IsOne v name n row → IsNamed v name (n + 1) → AreTwo v name
are_two v name n row before here = record {
  first = row;
  second = n + 1;
  named = before.named;
  named_too = here;
  apart = λ e. omega (arith, before.within);
}

-- what the search has found so far
abbrev pub IsFoundIn : View → List ℕ → ℕ → Option ℕ → Type 0
IsFoundIn v name n None = IsNone v name n
IsFoundIn v name n (Some row) = IsOne v name n row

pub none_begun : (v : View) (name : List ℕ) → IsFoundIn v name 0 None
none_begun v name = record { none = λ row few is. omega (arith, is.row.some) }

-- what is told of the next row, which is that of the method
abbrev pub IsTold : View → List ℕ → MetaMethod → Bool → Type 0
IsTold v name m outcome = (row : ℕ) → IsRow v methods row → IsMethod v row m → MatchBool outcome (IsNamed v name row) (IsNamed v name row → ⊥)

holds : {P : Type 0} (b : Bool) → b ≡ true → MatchBool b P (P → ⊥) → P
holds true e h = h
holds false e h = absurd (cc)

holds_not : {P : Type 0} (b : Bool) → b ≡ false → MatchBool b P (P → ⊥) → P → ⊥
holds_not true e h = absurd (cc)
holds_not false e h = h

one_is : (v : View) (name : List ℕ) (n : ℕ) (before : Option ℕ) → is_some before ≡ false → IsFoundIn v name n before → IsNamed v name (n + 1) → IsOne v name (n + 1) (n + 1)
one_is v name n None none so_far here = one_begun v name n so_far here
one_is v name n (Some other) none so_far here = absurd (cc)

pub one_told : (v : View) (name : List ℕ) (n : ℕ) (before after : Option ℕ) (m : MetaMethod) (outcome : Bool) → after ≡ Some (n + 1) → is_some before ≡ false
    → IsFoundIn v name n before → outcome ≡ true → IsTold v name m outcome → n < count_of v methods → IsMethod v (n + 1) m → IsFoundIn v name (n + 1) after
one_told v name n before after m outcome is none so_far named' told few there =
    subst (λ o. IsFoundIn v name (n + 1) o) (sym is)
    (one_is v name n before none so_far (holds outcome named' (told (n + 1) (is_row v methods n few) there)))

other_is : (v : View) (name : List ℕ) (n : ℕ) (before : Option ℕ) → IsFoundIn v name n before → (IsNamed v name (n + 1) → ⊥) → IsFoundIn v name (n + 1) before
other_is v name n None so_far here = none_more v name n so_far here
other_is v name n (Some row) so_far here = one_more v name n row so_far here

pub other_told : (v : View) (name : List ℕ) (n : ℕ) (before after : Option ℕ) (m : MetaMethod) (outcome : Bool) → after ≡ before
    → IsFoundIn v name n before → outcome ≡ false → IsTold v name m outcome → n < count_of v methods → IsMethod v (n + 1) m → IsFoundIn v name (n + 1) after
other_told v name n before after m outcome is so_far no' told few there =
    subst (λ o. IsFoundIn v name (n + 1) o) (sym is)
    (other_is v name n before so_far (holds_not outcome no' (told (n + 1) (is_row v methods n few) there)))

two_are : (v : View) (name : List ℕ) (n : ℕ) (before : Option ℕ) → is_some before ≡ true → IsFoundIn v name n before → IsNamed v name (n + 1) → AreTwo v name
two_are v name n None some so_far here = absurd (cc)
two_are v name n (Some row) some so_far here = are_two v name n row so_far here

pub two_told : (v : View) (name : List ℕ) (n : ℕ) (before : Option ℕ) (m : MetaMethod) (outcome : Bool) → is_some before ≡ true
    → IsFoundIn v name n before → outcome ≡ true → IsTold v name m outcome → n < count_of v methods → IsMethod v (n + 1) m → AreTwo v name
two_told v name n before m outcome some so_far named' told few there = two_are v name n before some so_far (holds outcome named' (told (n + 1) (is_row v methods n few) there))

the_one : (v : View) (name : List ℕ) (n row : ℕ) → IsOne v name n row → count_of v methods ≤ n → IsOnly v name row
the_one v name n row is all = record { named = is.named; only = λ other named. is.only other (omega (arith, named.row.few, all)) named }

nowhere : (v : View) (name : List ℕ) (n : ℕ) → IsNone v name n → count_of v methods ≤ n → (row : ℕ) → IsNamed v name row → ⊥
nowhere v name n is all row named = is.none row (omega (arith, named.row.few, all)) named

pub found_told : (v : View) (name : List ℕ) (n : ℕ) (found : Option ℕ) → IsFoundIn v name n found → count_of v methods ≤ n → IfOk (ok_or found NoMethod) (IsOnly v name)
found_told v name n None is all = tt
found_told v name n (Some row) is all = the_one v name n row is all

pub fault_told : (v : View) (image : pe.View) (name : List ℕ) (n : ℕ) (found : Option ℕ) → IsFoundIn v name n found → count_of v methods ≤ n → IfErr (ok_or found NoMethod) (Blames v image name)
fault_told v image name n None is all = nowhere v name n is all
fault_told v image name n (Some row) is all = tt
