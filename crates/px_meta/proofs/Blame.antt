-- Which fault is the first.
use Rattle.std.proofs.Common.{◌≡◌, ◌≢◌, ◌⊎◌, ℕ, ◌+◌, ◌<◌, ◌≤◌, Bool, true, false, List, Option, Some, None, refl, sym, ap, ◌∙◌, subst, inl, inr, ⊎_elim, arith}
use Rattle.std.specs.Prelude.{IsSome, MatchBool, MatchOption, is_some}
use Rattle.std.proofs.lemmas.Bool.{cases_lt, cases_eq, false≢true}
use Rattle.px_sig.specs.declared.sig.MethodSig.{MethodSig}
use Rattle.px_sig.specs.declared.sig.SigType.{SigType}
use Rattle.px_blobs.specs.Items.{IsStringAt}
use Rattle.px_tables.specs.Metadata.{View}
use Rattle.px_meta.specs.Chains.{HasEnd, base_in, outer_of}
use Rattle.px_meta.specs.Faults.{Bases, Blames, Field, HasFault, HasLists, HasNames, IsFaultless, IsWholeField, IsWholeMethod, IsWholeReference, Lists, MemberRef, Method, Outers, TypeDef, TypeRef, TypeSpec, order_of}
use Rattle.px_meta.specs.Members.{IsField, IsMethod, field_sig_at, method_sig_at, type_sig_at}
use Rattle.px_meta.specs.Parts.{BlamesRow, BlamesTable, IsSound}
use Rattle.px_meta.specs.Resolved.{IsReference, IsSpec}
use Rattle.px_meta.specs.Rows.{IsReadable, IsRow, cell, count_of, fields, member_refs, methods, token, type_defs, type_refs, type_specs}
use Rattle.px_meta.specs.Tokens.{AreRows}
use Rattle.px_meta.specs.declared.fault.MetaFault.{MetaFault}
use Rattle.px_meta.specs.declared.fault.MetaFault.TheVariants as faults
use Rattle.px_meta.specs.declared.fault.MetaKind.{MetaKind}
use Rattle.px_meta.specs.declared.fault.MetaKind.TheVariants.{BadList, BadToken, CycleOfBases}
use Rattle.px_meta.proofs.Rows.{AreFirst, row_item}

row_of_fault : (v : View) (k : MetaKind) (t r : ℕ) → HasFault v k t r → IsRow v t r
row_of_fault v _ _ _ (Lists row is bad) = is
row_of_fault v _ _ _ (TypeRef row is bad) = is
row_of_fault v _ _ _ (TypeDef row is bad) = is
row_of_fault v _ _ _ (Field row is bad) = is
row_of_fault v _ _ _ (Method row is bad) = is
row_of_fault v _ _ _ (MemberRef row is bad) = is
row_of_fault v _ _ _ (TypeSpec row is bad) = is
row_of_fault v _ _ _ (Bases row is bad) = is
row_of_fault v _ _ _ (Outers row is bad) = is

-- whatever speaks of a row is either of the table or not
type_ref_fault : (v : View) (k : MetaKind) (t r : ℕ) → t ≡ type_refs → HasNames v type_refs r → HasFault v k t r → ⊥
type_ref_fault v _ _ _ e whole (TypeRef row is bad) = bad whole
type_ref_fault v _ _ _ e whole _ = omega arith

field_fault : (v : View) (k : MetaKind) (t r : ℕ) → t ≡ fields → IsWholeField v r → HasFault v k t r → ⊥
field_fault v _ _ _ e whole (Field row is bad) = bad whole
field_fault v _ _ _ e whole _ = omega arith

method_fault : (v : View) (k : MetaKind) (t r : ℕ) → t ≡ methods → IsWholeMethod v r → HasFault v k t r → ⊥
method_fault v _ _ _ e whole (Method row is bad) = bad whole
method_fault v _ _ _ e whole _ = omega arith

reference_fault : (v : View) (k : MetaKind) (t r : ℕ) → t ≡ member_refs → IsWholeReference v r → HasFault v k t r → ⊥
reference_fault v _ _ _ e whole (MemberRef row is bad) = bad whole
reference_fault v _ _ _ e whole _ = omega arith

spec_fault : (v : View) (k : MetaKind) (t r : ℕ) → t ≡ type_specs → IsSome (type_sig_at v (cell v type_specs r 0)) → HasFault v k t r → ⊥
spec_fault v _ _ _ e whole (TypeSpec row is bad) = bad whole
spec_fault v _ _ _ e whole _ = omega arith

type_fault : (v : View) (k : MetaKind) (t r : ℕ) → t ≡ type_defs → HasLists v r → HasNames v type_defs r → HasEnd (base_in v) r → HasEnd (outer_of v) r → HasFault v k t r → ⊥
type_fault v _ _ _ e lists names bases outers (Lists row is bad) = bad lists
type_fault v _ _ _ e lists names bases outers (TypeDef row is bad) = bad names
type_fault v _ _ _ e lists names bases outers (Bases row is bad) = bad bases
type_fault v _ _ _ e lists names bases outers (Outers row is bad) = bad outers
type_fault v _ _ _ e lists names bases outers _ = omega arith

-- the kinds before one
early_fault : (v : View) (k : MetaKind) (t r : ℕ) → t ≡ type_defs → order_of k < 2 → HasLists v r → HasNames v type_defs r → HasFault v k t r → ⊥
early_fault v _ _ _ e before lists names (Lists row is bad) = bad lists
early_fault v _ _ _ e before lists names (TypeDef row is bad) = bad names
early_fault v _ _ _ e before lists names _ = omega arith

list_fault : (v : View) (k : MetaKind) (t r : ℕ) → order_of k < 1 → HasLists v r → HasFault v k t r → ⊥
list_fault v _ _ _ before lists (Lists row is bad) = bad lists
list_fault v _ _ _ before lists _ = omega arith

token_first : (v : View) (k : MetaKind) (t r : ℕ) → t ≢ type_defs → order_of k < 1 → HasFault v k t r → ⊥
token_first v _ _ _ other before (Lists row is bad) = other refl
token_first v _ _ _ other before _ = omega arith

-- a name or a signature of a row of another table than that of types
pub token_blamed : (v : View) (table row : ℕ) (fault : MetaFault) → table ≢ type_defs → fault ≡ faults.Bad BadToken (token table row) → HasFault v BadToken table row → BlamesRow v table row fault
token_blamed v table row fault other e has = subst (λ f. BlamesRow v table row f) (sym e) (record { at_is = refl; fault = has; first = λ k before. token_first v k table row other before })

pub list_blamed : (v : View) (row : ℕ) (fault : MetaFault) → IsRow v type_defs row → fault ≡ faults.Bad BadList (token type_defs row) → (HasLists v row → ⊥) → BlamesRow v type_defs row fault
list_blamed v row fault is e bad = subst (λ f. BlamesRow v type_defs row f) (sym e) (record { at_is = refl; fault = Lists row is bad; first = λ k before. absurd (omega arith) })

pub name_blamed : (v : View) (row : ℕ) (fault : MetaFault) → IsRow v type_defs row → fault ≡ faults.Bad BadToken (token type_defs row) → HasLists v row → (HasNames v type_defs row → ⊥) → BlamesRow v type_defs row fault
name_blamed v row fault is e lists bad =
    subst (λ f. BlamesRow v type_defs row f) (sym e) (record { at_is = refl; fault = TypeDef row is bad; first = λ k before. list_fault v k type_defs row before lists })

pub chain_blamed : (v : View) (row : ℕ) (fault : MetaFault) → fault ≡ faults.Bad CycleOfBases (token type_defs row) → HasLists v row → HasNames v type_defs row → HasFault v CycleOfBases type_defs row → BlamesRow v type_defs row fault
chain_blamed v row fault e lists names has =
    subst (λ f. BlamesRow v type_defs row f) (sym e) (record { at_is = refl; fault = has; first = λ k before. early_fault v k type_defs row refl before lists names })

pub names_from : (v : View) (table row : ℕ) (namespace name : List ℕ) → IsStringAt v.strings (cell v table row 2) namespace × IsStringAt v.strings (cell v table row 1) name → HasNames v table row
names_from v table row namespace name stand = record { name = record { text = name; stands = stand.1 }; namespace = record { text = namespace; stands = stand.0 } }

-- names that were read
pub names_there : {X : Type 0} (namespace name : X → List ℕ) (v : View) (table row : ℕ) (o : Option X) → is_some o ≡ true
    → MatchOption o (HasNames v table row → ⊥) (λ x. IsStringAt v.strings (cell v table row 2) (namespace x) × IsStringAt v.strings (cell v table row 1) (name x)) → HasNames v table row
names_there namespace name v table row None e m = absurd (false≢true e)
names_there namespace name v table row (Some x) e m = names_from v table row (namespace x) (name x) m

pub at_false : (b : Bool) (P Q : Type 0) → b ≡ false → MatchBool b P Q → Q
at_false true P Q e p = absurd (false≢true (sym e))
at_false false P Q e q = q

pub at_true : (b : Bool) (P Q : Type 0) → b ≡ true → MatchBool b P Q → P
at_true true P Q e p = p
at_true false P Q e q = absurd (false≢true e)

pub type_sound : (v : View) (row : ℕ) → HasLists v row → HasNames v type_defs row → HasEnd (base_in v) row → HasEnd (outer_of v) row → IsSound v type_defs row
type_sound v row lists names bases outers = λ k has. type_fault v k type_defs row refl lists names bases outers has

pub type_ref_sound : (v : View) (row : ℕ) → HasNames v type_refs row → IsSound v type_refs row
type_ref_sound v row names = λ k has. type_ref_fault v k type_refs row refl names has

is_some_from : {X : Type 0} (o : Option X) (x : X) → o ≡ Some x → IsSome o
is_some_from o x e = ap is_some e

pub not_some : {X : Type 0} (o : Option X) → o ≡ None → IsSome o → ⊥
not_some o e some = false≢true (sym (ap is_some e) ∙ some)

pub field_sound : (v : View) (row : ℕ) (f : Rattle.px_meta.specs.declared.meta.MetaField.MetaField) → IsField v row f → IsSound v fields row
field_sound v row f is = λ k has. field_fault v k fields row refl (record { name = record { text = f.name.now; stands = is.name }; sig = is_some_from _ _ is.sig }) has

pub method_sound : (v : View) (row : ℕ) (m : Rattle.px_meta.specs.declared.meta.MetaMethod.MetaMethod) → IsMethod v row m → IsSound v methods row
method_sound v row m is = λ k has. method_fault v k methods row refl (record { name = record { text = m.name.now; stands = is.name }; sig = is_some_from _ _ is.sig }) has

pub reference_sound : (v : View) (row : ℕ) (sig : Option MethodSig) → IsReference v row sig → IsSound v member_refs row
reference_sound v row sig is = λ k has. reference_fault v k member_refs row refl is.whole has

pub spec_sound : (v : View) (row : ℕ) (type : SigType) → IsSpec v row type → IsSound v type_specs row
spec_sound v row type is = λ k has. spec_fault v k type_specs row refl (is_some_from _ _ is) has

-- the first row with a fault, where the rows before it have none
pub table_blamed : (v : View) (table n : ℕ) (fault : MetaFault) → ((row : ℕ) → row ≤ n → IsSound v table row) → BlamesRow v table (n + 1) fault → BlamesTable v table fault
table_blamed v table n faults.Memory sound blames = tt
table_blamed v table n (faults.Bad kind at) sound blames = record { row = n + 1; fault = blames; before = λ r less. sound r (omega arith) }

pub sound_to : {X : Type 0} (Is : View → ℕ → X → Type 0) (v : View) (table n : ℕ) (items : List X) → ((row : ℕ) (item : X) → Is v row item → IsSound v table row) → AreFirst Is v n items
    → (row : ℕ) → row ≤ n → IsSound v table row
sound_to Is v table n items sound are row few = λ k has.
    let it = row_item Is v n items row are (row_of_fault v k table row has).some few in
    sound row it.0 it.1 k has

pub sound_all : (v : View) (table n : ℕ) → n ≡ count_of v table → ((row : ℕ) → row ≤ n → IsSound v table row) → (row : ℕ) → IsSound v table row
sound_all v table n e sound row = λ k has. sound row (let is = row_of_fault v k table row has in omega (arith, is.few)) k has

pub sound_more : (v : View) (table n : ℕ) → ((row : ℕ) → row ≤ n → IsSound v table row) → IsSound v table (n + 1) → (row : ℕ) → row ≤ n + 1 → IsSound v table row
sound_more v table n sound here row few = ⊎_elim (λ below. sound row (omega arith)) (λ above. subst (λ r. IsSound v table r) (let e : n + 1 ≡ row = omega arith in e) here) (cases_lt row (n + 1))

pub sound_none : (v : View) (table : ℕ) (row : ℕ) → row ≤ 0 → IsSound v table row
sound_none v table row few = λ k has. let is = row_of_fault v k table row has in omega (arith, is.some)

pub sound_rows : {X : Type 0} (Is : View → ℕ → X → Type 0) (v : View) (table : ℕ) (items : List X) → ((row : ℕ) (item : X) → Is v row item → IsSound v table row) → AreRows Is v table items
    → (row : ℕ) → IsSound v table row
sound_rows Is v table items sound are row = sound_all v table (count_of v table) refl (sound_to Is v table (count_of v table) items sound (record { count = are.count; each = are.each })) row

-- tables below a number have no fault
abbrev pub IsClean : View → ℕ → Type 0
IsClean v table = (k : MetaKind) (t r : ℕ) → t < table → HasFault v k t r → ⊥

-- the tables that a fault may be in
table_of_fault : (v : View) (k : MetaKind) (t r : ℕ) → HasFault v k t r → (t ≡ type_refs) ⊎ (t ≡ type_defs) ⊎ (t ≡ fields) ⊎ (t ≡ methods) ⊎ (t ≡ member_refs) ⊎ (t ≡ type_specs)
table_of_fault v _ _ _ (Lists row is bad) = search (inl, inr)
table_of_fault v _ _ _ (TypeRef row is bad) = search (inl, inr)
table_of_fault v _ _ _ (TypeDef row is bad) = search (inl, inr)
table_of_fault v _ _ _ (Field row is bad) = search (inl, inr)
table_of_fault v _ _ _ (Method row is bad) = search (inl, inr)
table_of_fault v _ _ _ (MemberRef row is bad) = search (inl, inr)
table_of_fault v _ _ _ (TypeSpec row is bad) = search (inl, inr)
table_of_fault v _ _ _ (Bases row is bad) = search (inl, inr)
table_of_fault v _ _ _ (Outers row is bad) = search (inl, inr)

-- the next of these tables
abbrev IsNext : ℕ → ℕ → Type 0
IsNext table next = (t : ℕ) → table < t → t < next → (t ≡ type_refs) ⊎ (t ≡ type_defs) ⊎ (t ≡ fields) ⊎ (t ≡ methods) ⊎ (t ≡ member_refs) ⊎ (t ≡ type_specs) → ⊥

clean_more : (v : View) (table next : ℕ) → IsNext table next → IsClean v table → ((row : ℕ) → IsSound v table row) → IsClean v next
clean_more v table next is_next clean sound k t r less has =
    ⊎_elim
    (λ below. clean k t r below has)
    (λ above. ⊎_elim
    (λ e. sound r k (subst (λ n. HasFault v k n r) e has))
    (λ other. is_next t (omega arith) less (table_of_fault v k t r has))
    (cases_eq t table))
    (cases_lt t table)

pub clean_types : (v : View) → ((row : ℕ) → IsSound v type_refs row) → IsClean v type_defs
clean_types v sound = clean_more v type_refs type_defs (λ t a b either. grind arith) (λ k t r less has. let either = table_of_fault v k t r has in grind arith) sound

pub clean_fields : (v : View) → IsClean v type_defs → ((row : ℕ) → IsSound v type_defs row) → IsClean v fields
clean_fields v = clean_more v type_defs fields (λ t a b either. grind arith)

pub clean_methods : (v : View) → IsClean v fields → ((row : ℕ) → IsSound v fields row) → IsClean v methods
clean_methods v = clean_more v fields methods (λ t a b either. grind arith)

pub clean_references : (v : View) → IsClean v methods → ((row : ℕ) → IsSound v methods row) → IsClean v member_refs
clean_references v = clean_more v methods member_refs (λ t a b either. grind arith)

pub clean_specs : (v : View) → IsClean v member_refs → ((row : ℕ) → IsSound v member_refs row) → IsClean v type_specs
clean_specs v = clean_more v member_refs type_specs (λ t a b either. grind arith)

pub clean_type_refs : (v : View) → IsClean v type_refs
clean_type_refs v k t r less has = let either = table_of_fault v k t r has in grind arith

pub all_clean : (v : View) → IsClean v type_specs → ((row : ℕ) → IsSound v type_specs row) → IsFaultless v
all_clean v clean sound k t r has = clean_more v type_specs 0x1C (λ t a b either. omega arith) clean sound k t r (let either = table_of_fault v k t r has in grind arith) has

-- the first fault of all
pub blamed : (v : View) (table : ℕ) (fault : MetaFault) → IsClean v table → BlamesTable v table fault → Blames v fault
blamed v table faults.Memory clean blames = tt
blamed v table (faults.Bad kind at) clean b = record {
  table = table;
  row = b.row;
  at_is = b.fault.at_is;
  fault = b.fault.fault;
  first = λ k t r before has. ⊎_elim
      (λ below. clean k t r below has)
      (λ here. ⊎_elim
      (λ row. b.before r row.1 k (subst (λ n. HasFault v k n r) row.0 has))
      (λ kind_before. b.fault.first k kind_before.2 (subst (λ n. HasFault v k table n) kind_before.1 (subst (λ n. HasFault v k n r) kind_before.0 has)))
      here)
      before;
}

-- what is wrong with a field, a method, a reference or a TypeSpec
pub field_unnamed : (v : View) (row at : ℕ) → at ≡ cell v fields row 1 → (IsReadable v at → ⊥) → IsWholeField v row → ⊥
field_unnamed v row at e none whole = none (subst (λ n. IsReadable v n) (sym e) whole.name)

pub field_unsigned : (v : View) (row at : ℕ) (sig : Option SigType) → at ≡ cell v fields row 2 → sig ≡ field_sig_at v at → sig ≡ None → IsWholeField v row → ⊥
field_unsigned v row at sig e is none whole = not_some (field_sig_at v (cell v fields row 2)) (ap (λ n. field_sig_at v n) (sym e) ∙ sym is ∙ none) whole.sig

pub method_unnamed : (v : View) (row at : ℕ) → at ≡ cell v methods row 3 → (IsReadable v at → ⊥) → IsWholeMethod v row → ⊥
method_unnamed v row at e none whole = none (subst (λ n. IsReadable v n) (sym e) whole.name)

pub method_unsigned : (v : View) (row at : ℕ) (sig : Option MethodSig) → at ≡ cell v methods row 4 → sig ≡ method_sig_at v at → sig ≡ None → IsWholeMethod v row → ⊥
method_unsigned v row at sig e is none whole = not_some (method_sig_at v (cell v methods row 4)) (ap (λ n. method_sig_at v n) (sym e) ∙ sym is ∙ none) whole.sig

pub reference_unnamed : (v : View) (row at : ℕ) → at ≡ cell v member_refs row 1 → (IsReadable v at → ⊥) → IsWholeReference v row → ⊥
reference_unnamed v row at e none whole = none (subst (λ n. IsReadable v n) (sym e) whole.name)

pub reference_unsigned : (v : View) (row at : ℕ) (sig : Option MethodSig) (place : Option SigType) → at ≡ cell v member_refs row 2 → sig ≡ method_sig_at v at → sig ≡ None → place ≡ field_sig_at v at → place ≡ None → IsWholeReference v row → ⊥
reference_unsigned v row at sig place e sig_is no_sig place_is no_place whole =
    ⊎_elim
    (not_some (method_sig_at v (cell v member_refs row 2)) (ap (λ n. method_sig_at v n) (sym e) ∙ sym sig_is ∙ no_sig))
    (not_some (field_sig_at v (cell v member_refs row 2)) (ap (λ n. field_sig_at v n) (sym e) ∙ sym place_is ∙ no_place))
    whole.sig

pub spec_unsigned : (v : View) (row at : ℕ) (sig : Option SigType) → at ≡ cell v type_specs row 0 → sig ≡ type_sig_at v at → sig ≡ None → IsSome (type_sig_at v (cell v type_specs row 0)) → ⊥
spec_unsigned v row at sig e is none some = not_some (type_sig_at v (cell v type_specs row 0)) (ap (λ n. type_sig_at v n) (sym e) ∙ sym is ∙ none) some

pub none_here : {X : Type 0} (o : Option X) (P : Type 0) (Q : X → Type 0) → is_some o ≡ false → MatchOption o P Q → P
none_here None P Q e p = p
none_here (Some x) P Q e q = absurd (false≢true (sym e))
