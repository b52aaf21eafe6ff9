-- The rows of types, and which members are theirs.
use Rattle.std.proofs.Common.{◌≡◌, ℕ, ◌+◌, ◌<◌, Bool, true, false, List, length, map, take, Some, refl, sym, ap, ◌∙◌, subst, arith, add-one}
use Rattle.std.specs.Prelude.{slice_get, slice_index}
use Rattle.std.proofs.lemmas.List.{length-append, length-map, take_all}
use Rattle.std.proofs.lemmas.Option.{slice_get_within}
use Rattle.px_asm_law_written.proofs.DescribedLists.{below, below_few, below_many, below_rises, flat_more, flat_rises, item_at, zip_length}
use Rattle.px_asm_law_written.proofs.DescribedOwners.{AreListed, owner_listed, stands_between}
use Rattle.px_asm_law_written.proofs.DescribedView.{Put, cell_written, count_written, rows_at, store, view}
use Rattle.px_asm_law_written.specs.Holds.{IsFieldDef, IsMethodDef, IsModule, IsTypeDef, methods_before}
use Rattle.px_asm_law_written.specs.Tokens.{fields_in, fields_of}
use Rattle.px_link_methods.proofs.RowPlaces.{place_below}
use Rattle.px_meta.specs.Members.{owner_of}
use Rattle.px_meta.specs.Rows.{cell, count_of, fields, methods, type_defs}
use Rattle.px_link_methods.specs.Codes.{place_of}
use Rattle.px_program.proofs.Types.{each_at}
use Rattle.px_program.specs.declared.program.Method.{Method}
use Rattle.px_program.specs.declared.program.Place.{Place}
use Rattle.px_program.specs.declared.program.TypeInfo.{TypeInfo}
use Rattle.px_asm_described.specs.Describes.{type_row}
use Rattle.px_asm_described.specs.Writable.{HasOwner, IsAssemblyType, owner_in, owner_place}
use Rattle.px_tables.specs.declared.tables.Row.{Row}

-- TYPES

pub types_written : (a : Put) → count_of (view a) type_defs ≡ length a.p.layout.types + 1
types_written a = count_written a 0x02 ∙ a.written.holds.type_defs.count

pub type_cell : (a : Put) (i k : ℕ) (row : Row) → slice_get (rows_at a 0x02) (i + 1) ≡ Some row → cell (view a) type_defs (i + 2) k ≡ slice_index row.cells k
type_cell a i k row at = let same : i + 2 ≡ i + 1 + 1 = omega arith in ap (λ r. cell (view a) type_defs r k) same ∙ cell_written a 0x02 (i + 1) k row at

-- the row of `<Module>`
pub record HasModule (a : Put) : Type 0 where
  pub row : Row
  pub there : slice_get (rows_at a 0x02) 0 ≡ Some row
  pub is : IsModule (store a) row

pub module_written : (a : Put) → HasModule a
module_written a =
    let found = item_at (rows_at a 0x02) 0 (let size = a.written.holds.type_defs.count in omega arith) in
    record { row = found.0; there = found.1; is = a.written.holds.type_defs.head found.0 found.1 }

-- what stands at a place of the layout, and its row
pub record HasTypeAt (a : Put) (i : ℕ) : Type 0 where
  pub type : ℕ
  pub at : slice_get a.p.layout.types i ≡ Some type
  pub assembly : IsAssemblyType a.p type
  pub row : Row
  pub there : slice_get (rows_at a 0x02) (i + 1) ≡ Some row
  pub is : IsTypeDef a.p (store a) i assembly.info row

pub type_at : (a : Put) (i : ℕ) → i < length a.p.layout.types → HasTypeAt a i
type_at a i less =
    let type = item_at a.p.layout.types i less in
    let assembly = each_at (IsAssemblyType a.p) a.p.layout.types a.writable.types i type.0 type.1 in
    let found = item_at (rows_at a 0x02) (i + 1) (let size = a.written.holds.type_defs.count in omega arith) in
    record {
      type = type.0;
      at = type.1;
      assembly = assembly;
      row = found.0;
      there = found.1;
      is = a.written.holds.type_defs.each i type.0 assembly.info found.0 type.1 assembly.at found.1;
    }

-- METHODS

owner_of_method : (a : Put) (number : ℕ) (method : Method) → slice_get a.p.methods number ≡ Some method → HasOwner a.p method
owner_of_method a number method at = each_at (HasOwner a.p) a.p.methods a.writable.owners number method at

owner_place_is : (a : Put) (number : ℕ) (method : Method) → slice_get a.p.methods number ≡ Some method → owner_place a.p number ≡ place_of a.p.layout.types method.owner
owner_place_is a number method at = ap (λ o. place_of a.p.layout.types (owner_in o)) at

-- the method of a number that the layout has
laid_method : (a : Put) (k number : ℕ) → slice_get a.p.layout.methods k ≡ Some number → (method : Method) × (slice_get a.p.methods number ≡ Some method)
laid_method a k number at = item_at a.p.methods number (each_at (λ n. n < length a.p.methods) a.p.layout.methods a.writable.methods k number at)

owned_within : (a : Put) (k number : ℕ) → slice_get a.p.layout.methods k ≡ Some number → owner_place a.p number < length a.p.layout.types
owned_within a k number at =
    let method = laid_method a k number at in
    let owner = owner_of_method a number method.0 method.1 in
    subst (λ n. n < length a.p.layout.types) (sym (owner_place_is a number method.0 method.1)) (place_below a.p.layout.types method.0.owner owner.among)

pub methods_written : (a : Put) → count_of (view a) methods ≡ length a.p.layout.methods
methods_written a = count_written a 0x06 ∙ zip_length (IsMethodDef a.p (store a) a.bodies) a.p.layout.methods (rows_at a 0x06) a.written.holds.methods

none_below : (key : ℕ → ℕ) (xs : List ℕ) → below key xs 0 ≡ 0
none_below key xs = let few = below_few key xs 0 0 (λ k x up at. omega arith) in omega arith

all_below : (key : ℕ → ℕ) (xs : List ℕ) (n : ℕ) → ((k x : ℕ) → slice_get xs k ≡ Some x → key x < n) → below key xs n ≡ length xs
all_below key xs n under =
    let many = below_many key xs n (length xs) (omega arith) (λ k x less at. under k x at) in
    let few = below_few key xs n (length xs) (λ k x up at. absurd (let within = slice_get_within xs k x at in omega arith)) in
    omega arith

pub methods_listed : (a : Put) → AreListed (view a) methods (length a.p.layout.types) (methods_before a.p)
methods_listed a =
    let head = module_written a in
    record {
      types = types_written a;
      module_start = cell_written a 0x02 0 5 head.row head.there ∙ head.is.methods;
      first = none_below (owner_place a.p) a.p.layout.methods;
      each = λ i less. let found = type_at a i less in type_cell a i 5 found.row found.there ∙ found.is.methods;
      last = all_below (owner_place a.p) a.p.layout.methods (length a.p.layout.types) (owned_within a) ∙ sym (methods_written a);
      rises = λ i j up. below_rises (owner_place a.p) a.p.layout.methods i j up;
    }

pub method_owned : (a : Put) (j number : ℕ) (method : Method) → slice_get a.p.layout.methods j ≡ Some number → slice_get a.p.methods number ≡ Some method → owner_of (view a) methods (j + 1) ≡ type_row a.p method.owner
method_owned a j number method at is =
    let between = stands_between (owner_place a.p) a.p.layout.methods j number a.writable.by_owner at in
    owner_listed (view a) methods (length a.p.layout.types) (methods_before a.p) (methods_listed a) (owner_place a.p number) j (owned_within a j number at) between.0 between.1
    ∙ ap (λ n. n + 2) (owner_place_is a number method is)

-- FIELDS

abbrev pub fields_before : Put → ℕ → ℕ
fields_before a i = length (fields_of a.p (take i a.p.layout.types))

fields_written : (a : Put) → count_of (view a) fields ≡ length (fields_of a.p a.p.layout.types)
fields_written a = count_written a 0x04 ∙ zip_length (IsFieldDef a.p (store a)) (fields_of a.p a.p.layout.types) (rows_at a 0x04) a.written.holds.fields

pub fields_listed : (a : Put) → AreListed (view a) fields (length a.p.layout.types) (fields_before a)
fields_listed a =
    let head = module_written a in
    record {
      types = types_written a;
      module_start = cell_written a 0x02 0 4 head.row head.there ∙ head.is.fields;
      first = refl;
      each = λ i less. let found = type_at a i less in type_cell a i 4 found.row found.there ∙ found.is.fields;
      last = ap (λ types. length (fields_of a.p types)) (take_all (length a.p.layout.types) a.p.layout.types (omega arith)) ∙ sym (fields_written a);
      rises = λ i j up. flat_rises (λ type. fields_in (slice_get a.p.types type)) a.p.layout.types i j up;
    }

-- a field of a kind
abbrev pub kind : Bool → Place → Bool × Place
kind static place = (static, place)

-- how many fields stand before the type behind one
pub fields_next : (a : Put) (i type : ℕ) (info : TypeInfo) → slice_get a.p.layout.types i ≡ Some type → slice_get a.p.types type ≡ Some info → fields_before a (i + 1) ≡ fields_before a i + (length info.fields + length info.statics)
fields_next a i type info at is =
    let here = ap (λ o. length (fields_in o)) is in
    let parts = length-append (map (kind false) info.fields) (map (kind true) info.statics) in
    let one = length-map info.fields (kind false) in
    let other = length-map info.statics (kind true) in
    let next = flat_more (λ t. fields_in (slice_get a.p.types t)) a.p.layout.types i type at in
    ap (fields_before a) (add-one i) ∙ next ∙ ap (λ n. fields_before a i + n) (let size : length (fields_in (slice_get a.p.types type)) ≡ length info.fields + length info.statics = omega arith in size)
