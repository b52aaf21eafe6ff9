-- The types of the assembly, by their rows.
use Rattle.std.proofs.Common.{◌≡◌, ℕ, ◌+◌, ◌*◌, ◌/◌, ◌%◌, ◌^◌, ◌<◌, ◌≤◌, Bool, true, false, length, Option, Some, None, refl, sym, ap, ◌∙◌, subst, ◌⊎◌, ⊎_elim, arith}
use Rattle.std.specs.Prelude.{◌==◌, ◌&&◌, if◌then◌else◌, IfSome, nat_le, nat_lt, not, slice_get, slice_index}
use Rattle.std.specs.List.{range_with_len}
use Rattle.std.proofs.lemmas.Bool.{and_from, and_left, and_right, cond-false, cond-true, le-leb, le-ltb, lt-ltb, not_from_false}
use Rattle.std.proofs.lemmas.Option.{same_Some, slice_get_within}
use Rattle.px_asm_law_written.proofs.DescribedFields.{instances_described, statics_described}
use Rattle.px_asm_law_written.proofs.DescribedLibrary.{no_value_base}
use Rattle.px_asm_law_written.proofs.DescribedMembers.{HasTypeAt, module_written, type_at, type_cell}
use Rattle.px_asm_law_written.proofs.DescribedView.{Put, cell_written, count_written, readable, text_read, view}
use Rattle.px_meta.specs.Chains.{base_in, encloser, nesting_in, outer_of}
use Rattle.px_meta.specs.Faults.{HasNames}
use Rattle.px_meta.specs.FullNames.{own_name, with_namespace}
use Rattle.px_meta.specs.Rows.{cell, count_of, is_in, row_by, some_row, text_at, type_defs}
use Rattle.px_program.specs.declared.program.Program.{Program}
use Rattle.px_program.specs.declared.program.TypeInfo.{TypeInfo}
use Rattle.px_asm_described.specs.Describes.{IsTypeRow, extends_of, type_row}
use Rattle.px_tables.specs.Counts.{has_bit}
use Rattle.px_tables.specs.Metadata.{View}
use Rattle.px_link_types.specs.Keys.{base_index, is_class, is_value, is_value_base}

-- NESTING

pub none_nested : (a : Put) (row : ℕ) → outer_of (view a) row ≡ None
none_nested a row = ap (λ n. encloser (view a) (nesting_in (view a) (range_with_len 1 n) row)) (count_written a 0x29 ∙ ap length a.written.holds.no_nested)

-- BASES

-- the base of a type is one of the library but `String`, or one of the assembly
abbrev pub IsKnownBase : Program → Option ℕ → Type 0
IsKnownBase p base = IfSome base (λ base. (base < 17) ⊎ ((18 ≤ base) × (is_in p.layout.types base ≡ true)))

pub library_index : (p : Program) (base : ℕ) → base < 17 → extends_of p (Some base) ≡ 4 * (base + 1) + 1
library_index p base less = cond-true (nat_lt base 18) (4 * (base + 1) + 1) (4 * type_row p base) (lt-ltb base 18 (omega arith))

pub assembly_index : (p : Program) (base : ℕ) → 18 ≤ base → extends_of p (Some base) ≡ 4 * type_row p base
assembly_index p base more = cond-false (nat_lt base 18) (4 * (base + 1) + 1) (4 * type_row p base) (le-ltb base 18 more)

abbrev value_at : View → ℕ → Bool
value_at v index = not (index / 4 == 0) && (index % 4 == 1) && is_value_base v (index / 4)

no_value : (a : Put) (base : Option ℕ) → IsKnownBase a.p base → value_at (view a) (extends_of a.p base) ≡ false
no_value a None known = refl
no_value a (Some base) known =
    ⊎_elim
    (λ less.
    let quarter : (4 * (base + 1) + 1) / 4 ≡ base + 1 = omega arith in
    ap (value_at (view a)) (library_index a.p base less)
    ∙ and_right (not ((4 * (base + 1) + 1) / 4 == 0) && ((4 * (base + 1) + 1) % 4 == 1)) (is_value_base (view a) ((4 * (base + 1) + 1) / 4)) (ap (is_value_base (view a)) quarter ∙ no_value_base a base (omega arith)))
    (λ more.
    let whole : (4 * type_row a.p base) % 4 ≡ 0 = omega arith in
    ap (value_at (view a)) (assembly_index a.p base more.0)
    ∙ and_left (not ((4 * type_row a.p base) / 4 == 0) && ((4 * type_row a.p base) % 4 == 1)) (is_value_base (view a) ((4 * type_row a.p base) / 4))
    (and_right (not ((4 * type_row a.p base) / 4 == 0)) ((4 * type_row a.p base) % 4 == 1) (ap (λ n. n == 1) whole)))
    known

-- THE ROW OF A TYPE

module _ (a : Put) (i : ℕ) (found : HasTypeAt a i) where
  cell_is : (k : ℕ) → cell (view a) type_defs (i + 2) k ≡ slice_index found.row.cells k
  cell_is k = type_cell a i k found.row found.there

  pub name_readable : HasNames (view a) type_defs (i + 2)
  name_readable = record {
    name = readable a (slice_index found.row.cells 1) (cell (view a) type_defs (i + 2) 1) found.is.name (cell_is 1) found.is.name_is;
    namespace = readable a (slice_index found.row.cells 2) (cell (view a) type_defs (i + 2) 2) found.is.namespace (cell_is 2) found.is.namespace_is;
  }

  pub base_is : base_index (view a) (i + 2) ≡ extends_of a.p found.assembly.info.base
  base_is = cell_is 3 ∙ found.is.base

  name_is : own_name (view a) (i + 2) ≡ found.assembly.info.name
  name_is =
      ap (λ namespace. with_namespace namespace (text_at (view a) (cell (view a) type_defs (i + 2) 1))) (text_read a (slice_index found.row.cells 2) (cell (view a) type_defs (i + 2) 2) found.is.namespace (cell_is 2) found.is.namespace_is)
      ∙ ap (with_namespace found.is.namespace) (text_read a (slice_index found.row.cells 1) (cell (view a) type_defs (i + 2) 1) found.is.name (cell_is 1) found.is.name_is)
      ∙ found.is.full

  class_is : is_class (view a) (i + 2) ≡ true
  class_is =
      and_from (not (has_bit (cell (view a) type_defs (i + 2) 0) 5)) (not (is_value (view a) (i + 2)))
      (not_from_false (has_bit (cell (view a) type_defs (i + 2) 0) 5) (ap (λ c. has_bit c 5) (cell_is 0) ∙ found.is.class))
      (not_from_false (is_value (view a) (i + 2)) (ap (value_at (view a)) base_is ∙ no_value a found.assembly.info.base found.assembly.base))

  row_described : IsTypeRow a.p (view a) (i + 2) found.assembly.info
  row_described = record {
    name = name_is;
    not_nested = none_nested a (i + 2);
    class = class_is;
    base = base_is;
    fields = instances_described a i found.type found.assembly.info found.at found.assembly.at;
    statics = statics_described a i found.type found.assembly.info found.at found.assembly.at;
  }

pub type_described : (a : Put) (i type : ℕ) (info : TypeInfo) → slice_get a.p.layout.types i ≡ Some type → slice_get a.p.types type ≡ Some info → IsTypeRow a.p (view a) (i + 2) info
type_described a i type info at is =
    let found = type_at a i (slice_get_within a.p.layout.types i type at) in
    let same : found.type ≡ type = same_Some found.type type (sym found.at ∙ at) in
    let level : found.assembly.info ≡ info = same_Some found.assembly.info info (sym found.assembly.at ∙ ap (slice_get a.p.types) same ∙ is) in
    subst (IsTypeRow a.p (view a) (i + 2)) level (row_described a i found)

-- CHAINS OF BASES

row_given : (v : View) (row : ℕ) → 1 ≤ row → row ≤ count_of v type_defs → some_row v type_defs row ≡ Some row
row_given v row some few = cond-true (nat_le 1 row && nat_le row (count_of v type_defs)) (Some row) None (and_from (nat_le 1 row) (nat_le row (count_of v type_defs)) (le-leb 1 row some) (le-leb row (count_of v type_defs) few))

pub no_base_of_module : (a : Put) → base_in (view a) 1 ≡ None
no_base_of_module a = let head = module_written a in ap (row_by (view a) type_defs 2) (cell_written a 0x02 0 3 head.row head.there ∙ head.is.no_base)

pub library_base : (v : View) (base : ℕ) → row_by v type_defs 2 (4 * (base + 1) + 1) ≡ None
library_base v base = let one : (4 * (base + 1) + 1) % 2 ^ 2 ≡ 1 = omega arith in ap (λ r. if r == 0 then some_row v type_defs ((4 * (base + 1) + 1) / 2 ^ 2) else None) one

pub assembly_base : (v : View) (row : ℕ) → 1 ≤ row → row ≤ count_of v type_defs → row_by v type_defs 2 (4 * row) ≡ Some row
assembly_base v row some few =
    let none : (4 * row) % 2 ^ 2 ≡ 0 = omega arith in let quarter : (4 * row) / 2 ^ 2 ≡ row = omega arith in
    ap (λ r. if r == 0 then some_row v type_defs ((4 * row) / 2 ^ 2) else None) none ∙ ap (some_row v type_defs) quarter ∙ row_given v row some few
