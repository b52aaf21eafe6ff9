-- Cells of the tables, and the texts that they name.
use Rattle.std.proofs.Common.{◌≡◌, ℕ, ◌/◌, ◌%◌, ◌<◌, ◌≤◌, Bool, true, false, cond, List, length, take, Some, None, refl, sym, ap, subst, arith}
use Rattle.std.specs.Prelude.{not, nat_lt, take_while, position}
use Rattle.std.specs.List.{position_or_len}
use Rattle.std.proofs.lemmas.List.{take_all}
use Rattle.std.proofs.lemmas.Bool.{ltb-false}
use Rattle.px_tables.specs.Columns.{table_named}
use Rattle.px_tables.specs.Counts.{is_past, rows_of}
use Rattle.px_tables.specs.Metadata.{View, IsSound}
use Rattle.px_tables.specs.declared.column.CodedIndex.TheVariants.{TypeDefOrRef}
use Rattle.px_meta.specs.Rows.{IsRow, type_defs, type_refs}
use Rattle.px_link_types.specs.Keys.{base_index}

-- up to the first that passes a test
pub up_to_first : {X : Type 0} (test : X → Bool) (xs : List X) (end : ℕ) → position test xs ≡ Some end → take end xs ≡ take_while (λ x. not (test x)) xs
up_to_first {X} test xs end is = by_bool (nat_lt (position_or_len test xs) (length xs)) is
  where
    by_bool : (b : Bool) → cond b (Some (position_or_len test xs)) None ≡ Some end → take end xs ≡ take_while (λ x. not (test x)) xs
    by_bool true e = let same : end ≡ position_or_len test xs = cc in ap (λ n. take n xs) same
    by_bool false e = absurd (cc)

-- or all
pub up_to_end : {X : Type 0} (test : X → Bool) (xs : List X) → position test xs ≡ None → xs ≡ take_while (λ x. not (test x)) xs
up_to_end {X} test xs is = by_bool (nat_lt (position_or_len test xs) (length xs)) refl is
  where
    by_bool : (b : Bool) → nat_lt (position_or_len test xs) (length xs) ≡ b → cond b (Some (position_or_len test xs)) None ≡ None → xs ≡ take_while (λ x. not (test x)) xs
    by_bool true t e = absurd (cc)
    by_bool false t e = sym (take_all (position_or_len test xs) xs (ltb-false _ _ t))

-- the base of a type names a row, or none
not_past : (v : View) (row : ℕ) → IsSound v → IsRow v type_defs row → is_past v.counts (table_named TypeDefOrRef (base_index v row % 4)) (base_index v row / 4) ≡ false
not_past v row sound is = sound.indexes type_defs row 3 refl (omega (arith, is.some)) is.few (omega arith)

few_by : (count n : ℕ) → nat_lt count n ≡ false → n ≤ count
few_by count n is = ltb-false _ _ is

pub base_defined : (v : View) (row : ℕ) → IsSound v → IsRow v type_defs row → 0 < base_index v row / 4 → base_index v row % 4 ≡ 0 → IsRow v type_defs (base_index v row / 4)
base_defined v row sound is some tag = record {
  some = omega (arith, some);
  few = few_by (rows_of v.counts type_defs) (base_index v row / 4) (subst (λ t. is_past v.counts (table_named TypeDefOrRef t) (base_index v row / 4) ≡ false) tag (not_past v row sound is));
}

pub base_named : (v : View) (row : ℕ) → IsSound v → IsRow v type_defs row → 0 < base_index v row / 4 → base_index v row % 4 ≡ 1 → IsRow v type_refs (base_index v row / 4)
base_named v row sound is some tag = record {
  some = omega (arith, some);
  few = few_by (rows_of v.counts type_refs) (base_index v row / 4) (subst (λ t. is_past v.counts (table_named TypeDefOrRef t) (base_index v row / 4) ≡ false) tag (not_past v row sound is));
}
