-- The method that is linked, or what it is refused for.
use Rattle.std.proofs.Common.{◌≡◌, ◌≢◌, ◌⊎◌, ℕ, zero, suc, ◌+◌, ◌≤◌, ◌<◌, Bool, true, false, cond, List, ◌∷◌, Option, Some, None, Result, Ok, Err, refl, sym, ap, ◌∙◌, subst, inl, inr, arith}
use Rattle.std.specs.Prelude.{◌||◌, ◌&&◌, ◌==◌, not, codes, if◌then◌else◌, find, IfErr, IfSome}
use Rattle.std.specs.Result.{IsErrAnd}
use Rattle.px_link.specs.declared.fault.LinkFault.{LinkFault}
use Rattle.std.specs.Str.{bytes_eq}
use Rattle.std.proofs.lemmas.Bool.{eqb-true}
use Rattle.std.specs.List.{AllByRecursion, range_with_len}
use Rattle.std.specs.Option.{is_some}
use Rattle.px_meta.specs.Members.{IsMethod, owner_of}
use Rattle.px_meta.specs.Rows.{IsRow, cell, count_of, methods, rows_in, text_at, type_defs}
use Rattle.px_meta.specs.declared.meta.MetaMethod.{MetaMethod}
use Rattle.px_link_methods.specs.Methods.{sig_at}
use Rattle.px_link_tokens.specs.Operands.{is_there}
use Rattle.px_link_reach.specs.Met.{IsOwned}
use Rattle.px_tables.specs.Metadata.{View}
use Rattle.px_link_types.specs.Keys.{is_class}
use Rattle.px_link.specs.Link.{HasBadParameter, HasNoBody, HasNoMaker, IsFound, first_unfit, is_maker, maker_in, maker_of, rows_of, takes_nothing}
use Rattle.px_link.specs.Names.{IsOnly}
use Rattle.px_link.specs.Parts.{IsEntryOf, maker_for}
use Rattle.px_link.specs.declared.entry.Entry.{Entry}
use Rattle.px_link.proofs.Finding.{owned_by_row}
use Rattle.px_link.proofs.Making.{found_passes}

-- the method has a body, as far as its row and its signature say
pub found : (v : View) (name : List ℕ) (row : ℕ) (m : MetaMethod) → IsOnly v name row → IsMethod v row m → m.rva ≢ 0 → m.sig.plain ≡ true → IsFound v name row m.sig
found v name row m the is some plain = record {
  only = the;
  has_sig = is.sig;
  plain = plain;
  has_body = λ e. some (is.rva ∙ e);
}

pub no_body : (v : View) (name : List ℕ) (row : ℕ) (m : MetaMethod) → IsOnly v name row → IsMethod v row m → (m.rva ≡ 0) ⊎ (m.sig.plain ≡ false) → HasNoBody v name
no_body v name row m the is (inl none) = record { method = row; sig = m.sig; only = the; has_sig = is.sig; no_body = inl (sym is.rva ∙ none) }
no_body v name row m the is (inr bad) = record { method = row; sig = m.sig; only = the; has_sig = is.sig; no_body = inr bad }

pub bad_parameter : (v : View) (name : List ℕ) (row : ℕ) (m : MetaMethod) (number : ℕ) → IsFound v name row m.sig → first_unfit m.sig.params ≡ Some number → HasBadParameter v name number
bad_parameter v name row m number found unfit = record { method = row; sig = m.sig; found = found; unfit = unfit }

pub owner_row : (v : View) (name : List ℕ) (row : ℕ) (m : MetaMethod) → IsOnly v name row → IsMethod v row m → IsRow v type_defs m.owner
owner_row v name row m the is = owned_by_row v row m is (λ e. the.named.owned (sym is.owner ∙ e))

maker_same : (v : View) (row : ℕ) (m : MetaMethod) → IsMethod v row m → maker_for v m ≡ maker_of v row m.sig
maker_same v row m is = ap (λ o. if m.sig.has_this then maker_in v o else None) is.owner

none_is : (o : Option ℕ) → is_some o ≡ false → is_there o ≡ false
none_is None e = refl
none_is (Some x) e = absurd (cc)

some_is : (o : Option ℕ) → is_some o ≡ true → is_there o ≡ true
some_is None e = absurd (cc)
some_is (Some x) e = refl

unmade : (this there : Bool) → this ≡ true → there ≡ false → (not this || there) ≡ false
unmade true false e f = refl
unmade true true e f = absurd (cc)
unmade false there e f = absurd (cc)

pub no_maker : (v : View) (name : List ℕ) (row : ℕ) (m : MetaMethod) (maker : Option ℕ) → IsMethod v row m → IsFound v name row m.sig → first_unfit m.sig.params ≡ None
    → maker ≡ maker_for v m → m.sig.has_this ≡ true → is_some maker ≡ false → HasNoMaker v name
no_maker v name row m maker is found fit maker_is this none = record {
  method = row;
  sig = m.sig;
  found = found;
  fit = fit;
  no_maker = unmade m.sig.has_this (is_there (maker_of v row m.sig)) this (ap is_there (sym (maker_is ∙ maker_same v row m is)) ∙ none_is maker none);
}

made : (this there : Bool) → (this ≡ false) ⊎ (there ≡ true) → (not this || there) ≡ true
made false there e = refl
made true true e = refl
made true false (inl e) = absurd (cc)
made true false (inr e) = absurd (cc)

pub entry : (v : View) (name : List ℕ) (row : ℕ) (m : MetaMethod) (maker : Option ℕ) → IsMethod v row m → IsFound v name row m.sig → first_unfit m.sig.params ≡ None
    → maker ≡ maker_for v m → (m.sig.has_this ≡ false) ⊎ (is_some maker ≡ true) → IsEntryOf v name (record { method = row; maker = maker })
entry v name row m maker is found fit maker_is has = record {
  sig = m.sig;
  is = record { found = found; fit = fit; made = made m.sig.has_this (is_there (maker_of v row m.sig)) (there_by has) };
  maker = maker_is ∙ maker_same v row m is;
}
  where
    there_by : (m.sig.has_this ≡ false) ⊎ (is_some maker ≡ true) → (m.sig.has_this ≡ false) ⊎ (is_there (maker_of v row m.sig) ≡ true)
    there_by (inl e) = inl e
    there_by (inr e) = inr (ap is_there (sym (maker_is ∙ maker_same v row m is)) ∙ some_is maker e)

-- a fault that is passed on
pub passed_on : {X : Type 0} (P : LinkFault → Type 0) (outcome : Result X LinkFault) (told : LinkFault) → IsErrAnd outcome (λ e. e ≡ told) → P told → IfErr outcome P
passed_on P (Ok x) told is p = tt
passed_on P (Err e) told is p = subst P (sym is) p

-- THE STARTS

within_by : (p : ℕ → Bool) (a n row : ℕ) (b : Bool) → p a ≡ b → (find p (range_with_len (a + 1) n) ≡ Some row → (a + 1 ≤ row) × (row < a + 1 + n)) → cond (p a) (Some a) (find p (range_with_len (a + 1) n)) ≡ Some row
    → (a ≤ row) × (row < a + suc n)
within_by p a n row true is later e =
    let same : Some a ≡ Some row = sym (ap (λ b. cond b (Some a) (find p (range_with_len (a + 1) n))) is) ∙ e in
    let at : a ≡ row = cc in
    (omega arith, omega arith)
within_by p a n row false is later e =
    let w = later (sym (ap (λ b. cond b (Some a) (find p (range_with_len (a + 1) n))) is) ∙ e) in
    (omega (arith, w.0), omega (arith, w.1))

found_within : (p : ℕ → Bool) (a n row : ℕ) → find p (range_with_len a n) ≡ Some row → (a ≤ row) × (row < a + n)
found_within p a zero row e = absurd (cc)
found_within p a (suc n) row e = within_by p a n row (p a) refl (found_within p (a + 1) n row) e

first_true : (a b c d : Bool) → (a && b && c && d) ≡ true → a ≡ true
first_true true b c d e = refl
first_true false b c d e = absurd (cc)

maker_by : (v : View) (class row : ℕ) (b : Bool) → class ≢ 0 → (if b then find (is_maker v class) (rows_in v methods) else None) ≡ Some row → IsOwned v row
maker_by v class row false some e = absurd (cc)
maker_by v class row true some e =
    let within = found_within (is_maker v class) 1 (count_of v methods) row e in
    let owner : owner_of v methods row ≡ class =
    eqb-true (owner_of v methods row) class
    (first_true (owner_of v methods row == class) (bytes_eq (text_at v (cell v methods row 3)) (codes ".ctor")) (not (cell v methods row 0 == 0)) (takes_nothing (sig_at v row))
    (found_passes (is_maker v class) (rows_in v methods) row e)) in
    record { row = record { some = within.0; few = omega (arith, within.1) }; owned = λ none. some (sym owner ∙ none) }

if_some : {P : ℕ → Type 0} (o : Option ℕ) → ((row : ℕ) → o ≡ Some row → P row) → IfSome o P
if_some None is = tt
if_some (Some row) is = is row refl

made_by : (v : View) (owner : ℕ) (this : Bool) → owner ≢ 0 → IfSome (if this then maker_in v owner else None) (IsOwned v)
made_by v owner true some = if_some (maker_in v owner) (λ row e. maker_by v owner row (is_class v owner) some e)
made_by v owner false some = tt

rows_owned : (v : View) (o : Option ℕ) → IfSome o (IsOwned v) → AllByRecursion (IsOwned v) (rows_of o)
rows_owned v None is = tt
rows_owned v (Some row) is = (is, tt)

-- some type has what a program starts with
pub starts_owned : (v : View) (name : List ℕ) (entry : Entry) → IsEntryOf v name entry → AllByRecursion (IsOwned v) (entry.method ∷ rows_of entry.maker)
starts_owned v name entry is =
    let named = is.is.found.only.named in
    let maker = made_by v (owner_of v methods entry.method) is.sig.has_this named.owned in
    (record { row = named.row; owned = named.owned }, rows_owned v entry.maker (subst (λ o. IfSome o (IsOwned v)) (sym is.maker) maker))
