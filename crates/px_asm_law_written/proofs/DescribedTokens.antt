-- What the tokens of instructions name.
use Rattle.std.proofs.Common.{◌≡◌, ℕ, zero, suc, ◌+◌, ◌*◌, ◌/◌, ◌%◌, ◌^◌, ◌<◌, ◌≤◌, true, List, [], ◌∷◌, ◌++◌, length, map, take, Option, Some, None, refl, sym, ap, ◌∙◌, subst, ⊎_elim, arith}
use Rattle.std.specs.Prelude.{◌==◌, ◌&&◌, codes, if◌then◌else◌, IfSome, IsSome, nat_le, slice_get, slice_index}
use Rattle.std.specs.List.{range_with_len}
use Rattle.std.proofs.lemmas.Bool.{and_from, cases_lt, cond-true, le-leb}
use Rattle.std.proofs.lemmas.Option.{slice_get_within}
use Rattle.px_asm_law_written.proofs.DescribedFields.{instances_are, mapped_at, statics_are}
use Rattle.px_asm_law_written.proofs.DescribedImpls.{method_row_there}
use Rattle.px_asm_law_written.proofs.DescribedLibrary.{all_refs, check_by}
use Rattle.px_asm_law_written.proofs.DescribedLists.{range_at, right_at, token_row, token_table}
use Rattle.px_asm_law_written.proofs.DescribedMembers.{fields_before, fields_listed, fields_next}
use Rattle.px_asm_law_written.proofs.DescribedView.{Put, cell_written, few_written, row_there, rows_at, sig_written, store, text_read, units_written, view}
use Rattle.px_asm_law_written.specs.Holds.{IsSpecRow, all_places, integer_places}
use Rattle.px_asm_law_written.specs.Store.{IsReference, check_sig, constructor_sig}
use Rattle.px_asm_law_written.specs.Tokens.{HasConstructor, HasElementAt, HasTextAt, HasTokenIn, check_row, field_row, instance_count, spec_row, static_row, token}
use Rattle.px_blobs.specs.Items.{blob_at}
use Rattle.px_asm_heaps.specs.Heaps.{unit_bytes}
use Rattle.px_link_methods.proofs.RowPlaces.{at_place_of, beside}
use Rattle.px_meta.specs.Members.{method_sig_at, type_sig_at}
use Rattle.px_meta.specs.Rows.{IsRow, cell, count_of, fields, is_in, member_refs, methods, some_row, type_refs, type_specs}
use Rattle.px_meta.specs.Tokens.{row_in, table_in}
use Rattle.px_link_methods.specs.Codes.{place_of}
use Rattle.px_link_tokens.specs.Operands.{check_in, member_name, parent_ref, text_at_token, text_of, units_of}
use Rattle.px_link_tokens.specs.declared.operand.Operand.TheVariants as operand
use Rattle.px_program.proofs.Types.{each_at}
use Rattle.px_program.specs.Formed.{FitsPlace, HasField, HasOperands, IsBare, IsFormedType}
use Rattle.px_program.specs.declared.instr.Callee.TheVariants as callees
use Rattle.px_program.specs.declared.instr.Check.{Check}
use Rattle.px_program.specs.declared.instr.Check.TheVariants.{Assert, Assume}
use Rattle.px_program.specs.declared.instr.Code.{Code}
use Rattle.px_program.specs.declared.instr.Code.TheVariants as code
use Rattle.px_program.specs.declared.instr.ElementForm.TheVariants as form
use Rattle.px_program.specs.declared.instr.Field.{Field}
use Rattle.px_program.specs.declared.instr.Move.TheVariants as move
use Rattle.px_program.specs.declared.program.Place.{Place}
use Rattle.px_program.specs.declared.program.Place.TheVariants as places
use Rattle.px_program.specs.declared.program.Program.{Program}
use Rattle.px_program.specs.declared.program.TypeInfo.{TypeInfo}
use Rattle.px_asm_described.specs.Describes.{Names, NamesCheck, NamesConstructor, NamesField, NamesMethod, Spells, SpellsElement, method_row}
use Rattle.px_sig.specs.Grammar.{method_sig, type_sig}
use Rattle.px_sig.specs.declared.sig.MethodSig.{MethodSig}
use Rattle.px_tables.specs.Metadata.{View}
use Rattle.px_tables.specs.declared.tables.Row.{Row}
use Rattle.px_link_types.specs.Numbers.{instance_fields, static_fields}

-- TEXTS

units_back : (units : List ℕ) (flag : ℕ) → units_of (unit_bytes units ++ flag ∷ []) ≡ units
units_back [] flag = refl
units_back (u ∷ units) flag =
    let whole : u % 2 ^ 8 + 2 ^ 8 * (u / 2 ^ 8) ≡ u = omega arith in let later = units_back units flag in
    ap (λ n. n ∷ units_of (unit_bytes units ++ flag ∷ [])) whole ∙ ap (λ l. u ∷ l) later

odd_bytes : (units : List ℕ) (flag : ℕ) → length (unit_bytes units ++ flag ∷ []) % 2 ≡ 1
odd_bytes [] flag = refl
odd_bytes (u ∷ units) flag = let later = odd_bytes units flag in omega arith

text_back : (units : List ℕ) (flag : ℕ) → text_of (Some (unit_bytes units ++ flag ∷ [])) ≡ Some (operand.Text units)
text_back units flag =
    ap (λ n. if n == 1 then Some (operand.Text (units_of (unit_bytes units ++ flag ∷ []))) else None) (odd_bytes units flag)
    ∙ ap (λ us. Some (operand.Text us)) (units_back units flag)

text_named : (a : Put) (units : List ℕ) (at : ℕ) → HasTextAt (store a) units at → text_at_token (view a) at ≡ Some (operand.Text units)
text_named a units at has =
    ap (λ t. if t == 0x70 then text_of (blob_at (view a).user_strings (row_in at)) else None) has.table
    ∙ ap text_of (units_written a (row_in at) (unit_bytes units ++ has.stands.flag ∷ []) has.stands.blob) ∙ text_back units has.stands.flag

-- TYPES THAT ARE SPELLED

-- the row of a place
record HasSpecRow (p : Program) (place : Place) : Type 0 where
  k : ℕ
  is : spec_row place ≡ k + 1
  at : slice_get (all_places p) k ≡ Some place

spec_at : (p : Program) (place : Place) → FitsPlace p.types place → HasSpecRow p place
spec_at p places.Bool fits = record { k = 0; is = refl; at = refl }
spec_at p places.Char fits = record { k = 1; is = refl; at = refl }
spec_at p places.I1 fits = record { k = 2; is = refl; at = refl }
spec_at p places.U1 fits = record { k = 3; is = refl; at = refl }
spec_at p places.I2 fits = record { k = 4; is = refl; at = refl }
spec_at p places.U2 fits = record { k = 5; is = refl; at = refl }
spec_at p places.I4 fits = record { k = 6; is = refl; at = refl }
spec_at p places.U4 fits = record { k = 7; is = refl; at = refl }
spec_at p places.I8 fits = record { k = 8; is = refl; at = refl }
spec_at p places.U8 fits = record { k = 9; is = refl; at = refl }
spec_at p places.N fits = record { k = 10; is = refl; at = refl }
spec_at p places.UN fits = record { k = 11; is = refl; at = refl }
spec_at p (places.Ref type) fits = record {
  k = 12 + type;
  is = omega arith;
  at =
      right_at integer_places (map places.Ref (range_with_len 0 (length p.types))) type (12 + type) refl
      ∙ mapped_at places.Ref (range_with_len 0 (length p.types)) type type (range_at 0 (length p.types) type fits ∙ ap (λ n. Some n) (let same : 0 + type ≡ type = omega arith in same));
}

table_by : (table row at : ℕ) → at ≡ token table row → row < 2 ^ 24 → table_in at ≡ table
table_by table row at e few = ap table_in e ∙ token_table table row few

row_by_token : (table row at : ℕ) → at ≡ token table row → row < 2 ^ 24 → row_in at ≡ row
row_by_token table row at e few = ap row_in e ∙ token_row table row few

pub few_row : (v : View) (table row : ℕ) → IsRow v table row → count_of v table < 2 ^ 24 → row < 2 ^ 24
few_row v table row is few = let most = is.few in omega arith

spells : (a : Put) (place : Place) (at : ℕ) → FitsPlace a.p.types place → at ≡ token type_specs (spec_row place) → Spells a.p (view a) at place
spells a place at fits e =
    let spec = spec_at a.p place fits in
    let found = beside (IsSpecRow a.p (store a)) (all_places a.p) (rows_at a 0x1B) a.written.holds.specs spec.k place spec.at in
    let there = row_there a 0x1B spec.k found.0 found.1.0 in
    let few = few_row (view a) type_specs (spec.k + 1) there (few_written a 0x1B) in
    let at_is : at ≡ token type_specs (spec.k + 1) = e ∙ ap (token type_specs) spec.is in
    let row_is = row_by_token type_specs (spec.k + 1) at at_is few in
    record {
      table = table_by type_specs (spec.k + 1) at at_is few;
      row = subst (IsRow (view a) type_specs) (sym row_is) there;
      type = found.1.1.type;
      has_sig =
          ap (λ r. type_sig_at (view a) (cell (view a) type_specs r 0)) row_is
          ∙ sig_written a type_sig (slice_index found.0.cells 0) (cell (view a) type_specs (spec.k + 1) 0) found.1.1.type (cell_written a 0x1B spec.k 0 found.0 found.1.0) found.1.1.sig;
      is = found.1.1.is;
    }

element_named : (a : Put) (array at : ℕ) → HasElementAt a.p array at → SpellsElement a.p (view a) array at
element_named a array at has =
    let formed = each_at (IsFormedType a.p.types) a.p.types a.writable.formed.types.each array has.has.info has.has.at in
    let fits = subst (λ o. IfSome o (FitsPlace a.p.types)) has.has.is formed.element in
    record { element = has.element; has = has.has; spells = spells a has.element at fits has.is }

-- FIELDS

taken_at : {X : Type 0} (xs : List X) (n k : ℕ) (x : X) → k < n → slice_get xs k ≡ Some x → slice_get (take n xs) k ≡ Some x
taken_at [] n k x less at = absurd (cc)
taken_at (y ∷ xs) zero k x less at = absurd (omega arith)
taken_at (y ∷ xs) (suc n) zero x less at = at
taken_at (y ∷ xs) (suc n) (suc k) x less at = taken_at xs n k x (omega arith) at

none_or_some : {X : Type 0} (o : Option X) → (IsSome o → ⊥) → o ≡ None
none_or_some None none = refl
none_or_some (Some x) none = absurd (none refl)

-- a type with some fields is one of the assembly
fields_laid : (a : Put) (type : ℕ) (info : TypeInfo) → slice_get a.p.types type ≡ Some info → ((info.fields ≡ []) → (info.statics ≡ []) → ⊥) → is_in a.p.layout.types type ≡ true
fields_laid a type info at some =
    let types = a.writable.formed.types in
    ⊎_elim
    (λ library. absurd (let bare = each_at IsBare (take 18 a.p.types) types.bare type info (taken_at a.p.types 18 type info library at) in some bare.no_fields bare.no_statics))
    (λ behind.
    let formed = each_at (IsFormedType a.p.types) a.p.types types.each type info at in
    a.writable.all_types type info behind at (none_or_some info.element (λ array. let is = formed.array array in some is.no_fields is.no_statics)))
    (cases_lt type 18)

-- a field's owner has a place in the layout
record HasLaidOwner (a : Put) (owner : ℕ) (info : TypeInfo) : Type 0 where
  at : slice_get a.p.layout.types (place_of a.p.layout.types owner) ≡ Some owner
  few : fields_before a (place_of a.p.layout.types owner) + (length info.fields + length info.statics) < 2 ^ 24

laid_owner : (a : Put) (owner : ℕ) (info : TypeInfo) → slice_get a.p.types owner ≡ Some info → ((info.fields ≡ []) → (info.statics ≡ []) → ⊥) → HasLaidOwner a owner info
laid_owner a owner info at some =
    let i = place_of a.p.layout.types owner in
    let placed = at_place_of a.p.layout.types owner (fields_laid a owner info at some) in
    let within = slice_get_within a.p.layout.types i owner placed in
    let listed = fields_listed a in
    let up = listed.rises (i + 1) (length a.p.layout.types) (omega arith) in
    let last = listed.last in
    let next = fields_next a i owner info placed at in
    let few = few_written a 0x04 in
    record { at = placed; few = omega arith }

field_named : (a : Put) (field : Field) (at : ℕ) → HasField (λ (t : TypeInfo). t.fields) a.p.types field → at ≡ token fields (field_row a.p field) → NamesField a.p (instance_fields (view a)) field at
field_named a field at has e =
    let i = place_of a.p.layout.types field.owner in
    let laid = laid_owner a field.owner has.type has.at (λ none other. let size = ap length none in let less = has.there in omega arith) in
    let less = has.there in let bound = laid.few in
    let row_few : field_row a.p field < 2 ^ 24 = omega arith in
    record {
      table = table_by fields (field_row a.p field) at e row_few;
      among =
          ap (λ l. slice_get l field.index) (instances_are a i field.owner has.type laid.at has.at)
          ∙ range_at (1 + fields_before a i) (length has.type.fields) field.index has.there
          ∙ ap (λ n. Some n) (let same : 1 + fields_before a i + field.index ≡ field_row a.p field = omega arith in same ∙ sym (row_by_token fields (field_row a.p field) at e row_few));
    }

static_named : (a : Put) (field : Field) (at : ℕ) → HasField (λ (t : TypeInfo). t.statics) a.p.types field → at ≡ token fields (static_row a.p field) → NamesField a.p (static_fields (view a)) field at
static_named a field at has e =
    let i = place_of a.p.layout.types field.owner in
    let laid = laid_owner a field.owner has.type has.at (λ other none. let size = ap length none in let less = has.there in omega arith) in
    let less = has.there in let bound = laid.few in
    let before = ap instance_count has.at in
    let row_few : static_row a.p field < 2 ^ 24 = omega arith in
    record {
      table = table_by fields (static_row a.p field) at e row_few;
      among =
          ap (λ l. slice_get l field.index) (statics_are a i field.owner has.type laid.at has.at)
          ∙ range_at (1 + (fields_before a i + length has.type.fields)) (length has.type.statics) field.index has.there
          ∙ ap (λ n. Some n) (let same : 1 + (fields_before a i + length has.type.fields) + field.index ≡ static_row a.p field = omega arith in same ∙ sym (row_by_token fields (static_row a.p field) at e row_few));
    }

-- METHODS

method_named : (a : Put) (number at : ℕ) → number < length a.p.methods → at ≡ token methods (method_row a.p number) → NamesMethod a.p number at
method_named a number at less e =
    let few = few_row (view a) methods (method_row a.p number) (method_row_there a number less) (few_written a 0x06) in
    record { table = table_by methods (method_row a.p number) at e few; row = row_by_token methods (method_row a.p number) at e few }

-- REFERENCES

record HasReference (a : Put) (parent : ℕ) (name : List ℕ) (sig : MethodSig) (at : ℕ) : Type 0 where
  row : IsRow (view a) member_refs (row_in at)
  name_is : member_name (view a) (row_in at) ≡ name
  has_sig : method_sig_at (view a) (cell (view a) member_refs (row_in at) 2) ≡ Some sig
  parent_is : parent_ref (view a) (row_in at) ≡ Some parent

parent_by : (v : View) (index parent : ℕ) → index ≡ 8 * parent + 1 → 1 ≤ parent → parent ≤ count_of v type_refs → (if index % 8 == 1 then some_row v type_refs (index / 8) else None) ≡ Some parent
parent_by v index parent e some few =
    let low : index % 8 ≡ 1 = omega arith in let high : index / 8 ≡ parent = omega arith in
    ap (λ r. if r == 1 then some_row v type_refs (index / 8) else None) low ∙ ap (some_row v type_refs) high
    ∙ cond-true (nat_le 1 parent && nat_le parent (count_of v type_refs)) (Some parent) None (and_from (nat_le 1 parent) (nat_le parent (count_of v type_refs)) (le-leb 1 parent some) (le-leb parent (count_of v type_refs) few))

reference_written : (a : Put) (parent : ℕ) (name : List ℕ) (sig : MethodSig) (at n : ℕ) (row : Row) → row_in at ≡ n + 1 → 1 ≤ parent → parent ≤ 20 → slice_get (store a).references n ≡ Some row → IsReference (store a) parent name sig row → HasReference a parent name sig at
reference_written a parent name sig at n row row_is some few there is =
    let stands = ap (λ rows. slice_get rows n) a.written.holds.references_are ∙ there in
    let cells = λ (k : ℕ). ap (λ r. cell (view a) member_refs r k) row_is ∙ cell_written a 0x0A n k row stands in
    record {
      row = subst (IsRow (view a) member_refs) (sym row_is) (row_there a 0x0A n row stands);
      name_is = text_read a (slice_index row.cells 1) (cell (view a) member_refs (row_in at) 1) name (cells 1) is.name_is;
      has_sig = sig_written a method_sig (slice_index row.cells 2) (cell (view a) member_refs (row_in at) 2) sig (cells 2) is.sig_is;
      parent_is = parent_by (view a) (cell (view a) member_refs (row_in at) 0) parent (cells 0 ∙ is.parent_is) some (let all = all_refs a in omega arith);
    }

constructor_named : (a : Put) (class : ℕ) (params : List Place) (at : ℕ) → class < 17 → HasConstructor a.p (store a) class params at → NamesConstructor a.p (view a) class params at
constructor_named a class params at less has =
    let sig = constructor_sig has.is.types in
    let is = reference_written a (class + 1) (codes ".ctor") sig at has.n has.row has.row_is (omega arith) (omega arith) has.there has.is.is in
    record {
      sig = sig;
      reference = record { table = has.table; row = is.row; name_is = is.name_is; has_sig = is.has_sig; plain = refl; no_return = refl };
      parent = is.parent_is;
      instance = refl;
      takes = has.is.takes;
    }

abbrev parent_row : Check → ℕ
parent_row Assume = 19
parent_row Assert = 20

check_written : (a : Put) (check : Check) (at : ℕ) → at ≡ token member_refs (check_row check) → HasReference a (parent_row check) (codes "IsTrue") check_sig at
check_written a Assume at e =
    let checks = a.written.holds.references.checks in
    reference_written a 19 (codes "IsTrue") check_sig at 0 checks.assume (row_by_token member_refs 1 at e (omega arith)) (omega arith) (omega arith) (ap (λ rows. slice_get rows 0) checks.are) checks.assume_is
check_written a Assert at e =
    let checks = a.written.holds.references.checks in
    reference_written a 20 (codes "IsTrue") check_sig at 1 checks.assert (row_by_token member_refs 2 at e (omega arith)) (omega arith) (omega arith) (ap (λ rows. slice_get rows 1) checks.are) checks.assert_is

check_found : (a : Put) (check : Check) → check_in (view a) (Some (parent_row check)) ≡ Some check
check_found a Assume = check_by a Assume
check_found a Assert = check_by a Assert

check_few : (check : Check) → check_row check < 2 ^ 24
check_few Assume = omega arith
check_few Assert = omega arith

check_named : (a : Put) (check : Check) (at : ℕ) → at ≡ token member_refs (check_row check) → NamesCheck (view a) check at
check_named a check at e =
    let is = check_written a check at e in
    record {
      sig = check_sig;
      reference = record { table = table_by member_refs (check_row check) at e (check_few check); row = is.row; name_is = is.name_is; has_sig = is.has_sig; plain = refl; no_return = refl };
      parent = ap (check_in (view a)) is.parent_is ∙ check_found a check;
      static = refl;
      takes = refl;
    }

-- ALL

pub token_names : (a : Put) (c : Code) (at : ℕ) → HasOperands a.p c → HasTokenIn a.p (store a) c at → Names a.p (view a) c at
token_names a (code.Move (move.Text units)) at there has = text_named a units at has
token_names a (code.NewArray array) at there has = element_named a array at has
token_names a (code.Element store (form.Typed place)) at there has = spells a place at there has
token_names a (code.Cast throws class) at there has = spells a (places.Ref class) at there has
token_names a (code.Field store field) at there has = field_named a field at there has
token_names a (code.Static store field) at there has = static_named a field at there has
token_names a (code.Call (callees.Method number)) at there has = method_named a number at (slice_get_within a.p.methods number there.method there.at) has
token_names a (code.Call (callees.Constructor class params)) at there has = constructor_named a class params at there.0 has
token_names a (code.NewObject (callees.Method number)) at there has = method_named a number at (slice_get_within a.p.methods number there.method there.at) has
token_names a (code.NewObject (callees.Constructor class params)) at there has = constructor_named a class params at there.0 has
token_names a (code.CallVirtual number) at there has = method_named a number at (slice_get_within a.p.methods number there.method there.at) has
token_names a (code.Check check) at there has = check_named a check at has
token_names a _ at there has = tt
