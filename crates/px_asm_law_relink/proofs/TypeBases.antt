-- The base of a type, by its coded index.
use Rattle.std.proofs.Common.{◌≡◌, ◌≢◌, ℕ, ◌+◌, ◌*◌, ◌/◌, ◌%◌, true, false, Option, Some, None, refl, sym, ap, ◌∙◌, arith, eq-eqb}
use Rattle.std.specs.Prelude.{◌==◌, ◌&&◌, if◌then◌else◌, nat_le}
use Rattle.std.proofs.lemmas.Bool.{and_parts, cond-false, cond-true, cond_both, leb-true, ne_eqb}
use Rattle.std.proofs.lemmas.Option.{same_Some}
use Rattle.px_meta.specs.Chains.{base_in}
use Rattle.px_meta.specs.Rows.{IsRow, count_of, some_row, type_defs}
use Rattle.px_tables.specs.Metadata.{View}
use Rattle.px_link_types.specs.declared.key.Leaf.{Leaf}
use Rattle.px_link_types.specs.declared.key.Leaf.TheVariants.{Library, Defined}
use Rattle.px_link_types.specs.Keys.{base_index, library_ref}
use Rattle.px_link_types.specs.Numbers.{base_in_library, base_leaf}
use Rattle.px_asm_law_relink.proofs.TypeReads.{some_row_is}

-- WHERE THE BASE IS OF THE ASSEMBLY

defined_by : (v : View) (index base : ℕ) → (if index % 4 == 0 then some_row v type_defs (index / 4) else None) ≡ Some base → ((index / 4 == 0) ≡ false) × ((index % 4 == 0) ≡ true) × (index / 4 ≡ base)
defined_by v index base =
    let Is : Type 0 = ((index / 4 == 0) ≡ false) × ((index % 4 == 0) ≡ true) × (index / 4 ≡ base) in
    let test = nat_le 1 (index / 4) && nat_le (index / 4) (count_of v type_defs) in
    cond_both (index % 4 == 0) (some_row v type_defs (index / 4)) None (λ o. o ≡ Some base → Is)
    (λ defined. cond_both test (Some (index / 4)) None (λ o. o ≡ Some base → Is)
    (λ there is. (ne_eqb (index / 4) 0 (λ none. let some = leb-true 1 (index / 4) (and_parts (nat_le 1 (index / 4)) (nat_le (index / 4) (count_of v type_defs)) there).0 in omega arith), defined, same_Some (index / 4) base is))
    (λ gone is. absurd (cc)))
    (λ other is. absurd (cc))

pub base_is : (v : View) (row base : ℕ) → base_in v row ≡ Some base → base_leaf v row ≡ Some (Defined base)
base_is v row base is =
    let index = base_index v row in
    let last : Option Leaf = if index % 4 == 1 then Some (base_in_library (library_ref v (index / 4))) else Some (Library 0) in
    let by = defined_by v index base is in
    cond-false (index / 4 == 0) None (if index % 4 == 0 then Some (Defined (index / 4)) else last) by.0
    ∙ cond-true (index % 4 == 0) (Some (Defined (index / 4))) last by.1
    ∙ ap (λ b. Some (Defined b)) by.2

none_by : (found : Option ℕ) → ((base : ℕ) → found ≡ Some base → ⊥) → found ≡ None
none_by None other = refl
none_by (Some base) other = absurd (other base refl)

-- where it is another, there is none of the assembly
pub no_base : (v : View) (row : ℕ) (found : Option Leaf) → base_leaf v row ≡ found → ((base : ℕ) → found ≡ Some (Defined base) → ⊥) → base_in v row ≡ None
no_base v row found is other = none_by (base_in v row) (λ base e. other base (sym is ∙ base_is v row base e))

-- BY THE INDEX

pub base_none : (v : View) (row : ℕ) → base_index v row ≡ 0 → (base_leaf v row ≡ None) × (base_in v row ≡ None)
base_none v row is =
    let index = base_index v row in
    let last : Option Leaf = if index % 4 == 1 then Some (base_in_library (library_ref v (index / 4))) else Some (Library 0) in
    let none = cond-true (index / 4 == 0) None (if index % 4 == 0 then Some (Defined (index / 4)) else last) (eq-eqb (index / 4) 0 (omega (arith, is))) in
    (none, no_base v row None none (λ base e. absurd (cc)))

pub base_library : (v : View) (row number : ℕ) → base_index v row ≡ 4 * (number + 1) + 1 → library_ref v (number + 1) ≡ Some number → number ≢ 17 → (base_leaf v row ≡ Some (Library number)) × (base_in v row ≡ None)
base_library v row number is names other =
    let index = base_index v row in
    let library : Option Leaf = Some (base_in_library (library_ref v (index / 4))) in
    let last : Option Leaf = if index % 4 == 1 then library else Some (Library 0) in
    let at : index / 4 ≡ number + 1 = omega (arith, is) in
    let tag : index % 4 ≡ 1 = omega (arith, is) in
    let found =
    cond-false (index / 4 == 0) None (if index % 4 == 0 then Some (Defined (index / 4)) else last) (ne_eqb (index / 4) 0 (λ e. omega (arith, at, e)))
    ∙ cond-false (index % 4 == 0) (Some (Defined (index / 4))) last (ne_eqb (index % 4) 0 (λ e. omega (arith, tag, e)))
    ∙ cond-true (index % 4 == 1) library (Some (Library 0)) (eq-eqb (index % 4) 1 tag)
    ∙ ap (λ r. Some (base_in_library (library_ref v r))) at ∙ ap (λ o. Some (base_in_library o)) names
    ∙ ap (λ l. Some l) (cond-false (number == 17) (Library 0) (Library number) (ne_eqb number 17 other)) in
    (found, no_base v row (Some (Library number)) found (λ base e. absurd (cc)))

pub base_defined : (v : View) (row base : ℕ) → base_index v row ≡ 4 * base → IsRow v type_defs base → (base_leaf v row ≡ Some (Defined base)) × (base_in v row ≡ Some base)
base_defined v row base is there =
    let index = base_index v row in
    let last : Option Leaf = if index % 4 == 1 then Some (base_in_library (library_ref v (index / 4))) else Some (Library 0) in
    let at : index / 4 ≡ base = omega (arith, is) in
    let tag : index % 4 ≡ 0 = omega (arith, is) in (
      cond-false (index / 4 == 0) None (if index % 4 == 0 then Some (Defined (index / 4)) else last) (ne_eqb (index / 4) 0 (λ e. omega (arith, at, e, there.some)))
          ∙ cond-true (index % 4 == 0) (Some (Defined (index / 4))) last (eq-eqb (index % 4) 0 tag)
          ∙ ap (λ b. Some (Defined b)) at,
      cond-true (index % 4 == 0) (some_row v type_defs (index / 4)) None (eq-eqb (index % 4) 0 tag) ∙ ap (some_row v type_defs) at ∙ some_row_is v type_defs base there,
    )
