-- The types of the library and the two checks, by the rows that refer to them.
use Rattle.std.proofs.Common.{◌≡◌, ℕ, ◌+◌, ◌*◌, ◌%◌, ◌<◌, Bool, true, false, List, [], get_or, Some, None, refl, ap, ◌∙◌, arith}
use Rattle.std.specs.Prelude.{◌==◌, ◌&&◌, ◌||◌, codes, if◌then◌else◌, not, slice_get, slice_index}
use Rattle.std.specs.List.{AllByRecursion, range_with_len}
use Rattle.std.specs.Str.{bytes_eq}
use Rattle.std.proofs.lemmas.Option.{slice_get-get_or}
use Rattle.px_asm_law_written.proofs.DescribedLists.{range_at, zip_length}
use Rattle.px_asm_law_written.proofs.DescribedView.{Put, cell_written, count_written, row_there, store, text_read, rows_at, view}
use Rattle.px_asm_law_written.specs.Holds.{IsTypeRef, Referred, all_referred}
use Rattle.px_link_methods.proofs.RowPlaces.{beside}
use Rattle.px_meta.specs.Rows.{IsRow, cell, count_of, text_at, type_refs}
use Rattle.px_link_tokens.specs.Operands.{check_in}
use Rattle.px_program.proofs.Types.{each_at}
use Rattle.px_program.specs.declared.instr.Check.{Check}
use Rattle.px_program.specs.declared.instr.Check.TheVariants.{Assert, Assume}
use Rattle.px_asm_described.specs.Describes.{IsLibraryRow}
use Rattle.px_link_types.specs.Keys.{is_system, is_value_base, library_number, ref_name}

abbrev nothing : Referred
nothing = record { assembly = 0; namespace = []; name = [] }

abbrev referred_of : ℕ → Referred
referred_of n = get_or all_referred n nothing

-- what holds of each number below 18
each_below : (P : ℕ → Type 0) → AllByRecursion P (range_with_len 0 18) → (n : ℕ) → n < 18 → P n
each_below P each n less = each_at P (range_with_len 0 18) each n n (range_at 0 18 n less ∙ ap (λ k. Some k) (let same : 0 + n ≡ n = omega arith in same))

each_named : AllByRecursion (λ n. library_number (referred_of n).name ≡ Some n) (range_with_len 0 18)
each_named = (refl, (refl, (refl, (refl, (refl, (refl, (refl, (refl, (refl, (refl, (refl, (refl, (refl, (refl, (refl, (refl, (refl, (refl, tt))))))))))))))))))

each_system : AllByRecursion (λ n. (not ((4 * (referred_of n).assembly + 2) % 4 == 3) && bytes_eq (referred_of n).namespace (codes "System")) ≡ true) (range_with_len 0 18)
each_system = (refl, (refl, (refl, (refl, (refl, (refl, (refl, (refl, (refl, (refl, (refl, (refl, (refl, (refl, (refl, (refl, (refl, (refl, tt))))))))))))))))))

each_class : AllByRecursion (λ n. (bytes_eq (referred_of n).name (codes "ValueType") || bytes_eq (referred_of n).name (codes "Enum")) ≡ false) (range_with_len 0 18)
each_class = (refl, (refl, (refl, (refl, (refl, (refl, (refl, (refl, (refl, (refl, (refl, (refl, (refl, (refl, (refl, (refl, (refl, (refl, tt))))))))))))))))))

-- the row of a type of another assembly
pub record IsReferred (a : Put) (n : ℕ) (referred : Referred) : Type 0 where
  pub there : IsRow (view a) type_refs (n + 1)
  pub scope : cell (view a) type_refs (n + 1) 0 ≡ 4 * referred.assembly + 2
  pub name : text_at (view a) (cell (view a) type_refs (n + 1) 1) ≡ referred.name
  pub namespace : text_at (view a) (cell (view a) type_refs (n + 1) 2) ≡ referred.namespace

referred_row : (a : Put) (n : ℕ) (referred : Referred) → slice_get all_referred n ≡ Some referred → IsReferred a n referred
referred_row a n referred at =
    let found = beside (IsTypeRef (store a)) all_referred (rows_at a 0x01) a.written.holds.type_refs n referred at in
    let cells = λ (k : ℕ). cell_written a 0x01 n k found.0 found.1.0 in
    record {
      there = row_there a 0x01 n found.0 found.1.0;
      scope = cells 0 ∙ found.1.1.scope;
      name = text_read a (slice_index found.0.cells 1) (cell (view a) type_refs (n + 1) 1) referred.name (cells 1) found.1.1.name;
      namespace = text_read a (slice_index found.0.cells 2) (cell (view a) type_refs (n + 1) 2) referred.namespace (cells 2) found.1.1.namespace;
    }

pub all_refs : (a : Put) → count_of (view a) type_refs ≡ 20
all_refs a = count_written a 0x01 ∙ zip_length (IsTypeRef (store a)) all_referred (rows_at a 0x01) a.written.holds.type_refs

library_at : (a : Put) (n : ℕ) → n < 18 → IsReferred a n (referred_of n)
library_at a n less = referred_row a n (referred_of n) (slice_get-get_or all_referred n nothing (let few : n < 20 = omega arith in few))

system_by : (scope other : ℕ) (namespace text : List ℕ) → scope ≡ other → namespace ≡ text → (not (other % 4 == 3) && bytes_eq text (codes "System")) ≡ true → (not (scope % 4 == 3) && bytes_eq namespace (codes "System")) ≡ true
system_by scope other namespace text e f is = rw (e, f) is

system_at : (a : Put) (n : ℕ) → n < 18 → is_system (view a) (n + 1) ≡ true
system_at a n less =
    let is = library_at a n less in
    system_by (cell (view a) type_refs (n + 1) 0) (4 * (referred_of n).assembly + 2) (text_at (view a) (cell (view a) type_refs (n + 1) 2)) (referred_of n).namespace is.scope is.namespace
    (each_below (λ k. (not ((4 * (referred_of k).assembly + 2) % 4 == 3) && bytes_eq (referred_of k).namespace (codes "System")) ≡ true) each_system n less)

pub library_named : (a : Put) (n : ℕ) → n < 18 → IsLibraryRow (view a) n
library_named a n less =
    let is = library_at a n less in
    let named = each_below (λ k. library_number (referred_of k).name ≡ Some k) each_named n less in
    record {
      row = is.there;
      names = ap (λ (b : Bool). if b then library_number (ref_name (view a) (n + 1)) else None) (system_at a n less) ∙ ap library_number is.name ∙ named;
    }

-- none of them is a base of values
pub no_value_base : (a : Put) (n : ℕ) → n < 18 → is_value_base (view a) (n + 1) ≡ false
no_value_base a n less =
    let is = library_at a n less in
    ap (λ (b : Bool). b && (bytes_eq (ref_name (view a) (n + 1)) (codes "ValueType") || bytes_eq (ref_name (view a) (n + 1)) (codes "Enum"))) (system_at a n less)
    ∙ ap (λ name. bytes_eq name (codes "ValueType") || bytes_eq name (codes "Enum")) is.name
    ∙ each_below (λ k. (bytes_eq (referred_of k).name (codes "ValueType") || bytes_eq (referred_of k).name (codes "Enum")) ≡ false) each_class n less

-- THE CHECKS

abbrev pub check_place : Check → ℕ
check_place Assume = 18
check_place Assert = 19

pub check_by : (a : Put) (check : Check) → check_in (view a) (Some (check_place check + 1)) ≡ Some check
check_by a Assume =
    let is = referred_row a 18 (referred_of 18) refl in rw (is.scope, is.namespace, is.name) refl
check_by a Assert =
    let is = referred_row a 19 (referred_of 19) refl in rw (is.scope, is.namespace, is.name) refl
