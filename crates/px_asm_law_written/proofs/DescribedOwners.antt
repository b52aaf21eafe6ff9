-- The types that members have as their owners.
use Rattle.std.proofs.Common.{◌≡◌, ℕ, ◌+◌, ◌-◌, ◌<◌, ◌≤◌, true, false, List, get_or, Some, sym, ap, ◌∙◌, subst, ◌⊎◌, ⊎_elim, arith, eqb-true, eq-eqb}
use Rattle.std.specs.Prelude.{◌==◌, if◌then◌else◌, nat_le, nat_lt, slice_get}
use Rattle.std.specs.List.{AllPairs}
use Rattle.std.specs.Option.{unwrap_or}
use Rattle.std.proofs.lemmas.Bool.{and_from, and_parts, and_right, cases_eq, cases_lt, cond-false, cond-true, false_from_ne_true, le-leb, le-ltb, leb-true, lt-ltb, ltb-true, ne_eqb}
use Rattle.std.proofs.lemmas.Option.{get_or_from_slice_get, slice_get_within}
use Rattle.px_asm_law_written.proofs.DescribedLists.{below, below_few, below_many, first_found}
use Rattle.px_meta.specs.Members.{is_listed, list_end, list_start, owner_of}
use Rattle.px_meta.specs.Rows.{count_of, fields, type_defs}
use Rattle.px_tables.specs.Metadata.{View}
use Rattle.px_link_types.proofs.Listed.{owned_listed}
use Rattle.px_link_types.specs.Numbers.{is_field_of}

-- the lists of members of some types behind that of `<Module>`, each by how many members stand before it
pub record AreListed (v : View) (table n : ℕ) (starts : ℕ → ℕ) : Type 0 where
  pub types : count_of v type_defs ≡ n + 1
  pub module_start : list_start v table 1 ≡ 1
  pub first : starts 0 ≡ 0
  pub each : (i : ℕ) → i < n → list_start v table (i + 2) ≡ starts i + 1
  pub last : starts n ≡ count_of v table
  pub rises : (i j : ℕ) → i ≤ j → starts i ≤ starts j

end_by : (row types members next : ℕ) → row ≡ types → (if row == types then members + 1 else next) ≡ members + 1
end_by row types members next e = cond-true (row == types) (members + 1) next (eq-eqb row types e)

end_else : (row types members next : ℕ) → (row ≡ types → ⊥) → (if row == types then members + 1 else next) ≡ next
end_else row types members next e = cond-false (row == types) (members + 1) next (ne_eqb row types e)

module _ (v : View) (table n : ℕ) (starts : ℕ → ℕ) (are : AreListed v table n starts) where
  -- the list of a type ends where that of the next begins
  pub type_end : (i : ℕ) → i < n → list_end v table (i + 2) ≡ starts (i + 1) + 1
  type_end i less =
      ⊎_elim
      (λ last.
      let whole : i + 1 ≡ n = omega (arith, are.types) in
      end_by (i + 2) (count_of v type_defs) (count_of v table) (list_start v table (i + 2 + 1)) last ∙ ap (λ k. k + 1) (sym are.last ∙ ap starts (sym whole)))
      (λ more.
      let on : i + 2 + 1 ≡ (i + 1) + 2 = omega arith in
      end_else (i + 2) (count_of v type_defs) (count_of v table) (list_start v table (i + 2 + 1)) more ∙ ap (list_start v table) on ∙ are.each (i + 1) (omega (arith, are.types, more)))
      (cases_eq (i + 2) (count_of v type_defs))

  pub module_end : list_end v table 1 ≡ 1
  module_end =
      ⊎_elim
      (λ last.
      let none : n ≡ 0 = omega (arith, are.types) in
      end_by 1 (count_of v type_defs) (count_of v table) (list_start v table 2) last ∙ ap (λ k. k + 1) (sym are.last ∙ ap starts none ∙ are.first))
      (λ more.
      end_else 1 (count_of v type_defs) (count_of v table) (list_start v table 2) more ∙ are.each 0 (omega (arith, are.types, more)) ∙ ap (λ k. k + 1) are.first)
      (cases_eq 1 (count_of v type_defs))

  end_before : (i j row : ℕ) → i < n → starts i ≤ j → 1 ≤ row → row < i + 2 → list_end v table row ≤ j + 1
  end_before i j row less from some few =
      ⊎_elim
      (λ one. subst (λ r. list_end v table r ≤ j + 1) one (omega (arith, module_end)))
      (λ more.
      let back : (row - 2) + 2 ≡ row = omega (arith, more) in
      let ends = type_end (row - 2) (omega arith) in
      let up = are.rises (row - 2 + 1) i (omega (arith, more)) in
      subst (λ r. list_end v table r ≤ j + 1) back (omega arith))
      (cases_eq 1 row)

  -- a member between the start of a type's list and that of the next is of the type
  pub owner_listed : (i j : ℕ) → i < n → starts i ≤ j → j < starts (i + 1) → owner_of v table (j + 1) ≡ i + 2
  owner_listed i j less from to =
      let begins = are.each i less in
      let ends = type_end i less in
      let listed : is_listed v table (j + 1) (i + 2) ≡ true =
      and_from (nat_le (list_start v table (i + 2)) (j + 1)) (nat_lt (j + 1) (list_end v table (i + 2))) (le-leb (list_start v table (i + 2)) (j + 1) (omega arith)) (lt-ltb (j + 1) (list_end v table (i + 2)) (omega arith)) in
      ap (λ o. unwrap_or o 0)
      (first_found (is_listed v table (j + 1)) 1 (count_of v type_defs) (i + 2) (omega arith) (omega (arith, are.types)) listed
      (λ row some few. and_right (nat_le (list_start v table row) (j + 1)) (nat_lt (j + 1) (list_end v table row)) (le-ltb (j + 1) (list_end v table row) (end_before i j row less from some few))))

-- what isn't in the list of a type is none of its fields
pub not_of : (v : View) (row field : ℕ) → 1 ≤ row → ((field < list_start v fields row) ⊎ (list_end v fields row ≤ field)) → is_field_of v row field ≡ false
not_of v row field some out =
    false_from_ne_true (is_field_of v row field) (λ owned.
    let listed = and_parts (nat_le (list_start v fields row) field) (nat_lt field (list_end v fields row)) (owned_listed v row field some (eqb-true (owner_of v fields field) row owned)) in
    let from = leb-true (list_start v fields row) field listed.0 in
    let to = ltb-true field (list_end v fields row) listed.1 in
    ⊎_elim (λ before. omega arith) (λ behind. omega arith) out)

-- WHERE THE KEYS OF A LIST RISE

rises_at : (key : ℕ → ℕ) (xs : List ℕ) (k j x y : ℕ) → AllPairs (λ z later. key z ≤ key later) xs → k ≤ j → slice_get xs k ≡ Some x → slice_get xs j ≡ Some y → key x ≤ key y
rises_at key xs k j x y rising up at later_at =
    let here = get_or_from_slice_get xs k x 0 at in
    let there = get_or_from_slice_get xs j y 0 later_at in
    ⊎_elim
    (λ less. subst (λ z. key z ≤ key y) here (subst (λ z. key (get_or xs k 0) ≤ key z) there (rising k j 0 less (slice_get_within xs j y later_at))))
    (λ back.
    let same : k ≡ j = omega arith in
    let level : x ≡ y = sym here ∙ ap (λ n. get_or xs n 0) same ∙ there in
    omega (arith, ap key level))
    (cases_lt k j)

-- an item stands behind those of smaller keys, and before those of greater ones
pub stands_between : (key : ℕ → ℕ) (xs : List ℕ) (j x : ℕ) → AllPairs (λ z later. key z ≤ key later) xs → slice_get xs j ≡ Some x → (below key xs (key x) ≤ j) × (j < below key xs (key x + 1))
stands_between key xs j x rising at =
    let few = below_few key xs (key x) j (λ k y up other. rises_at key xs j k x y rising up at other) in
    let within = slice_get_within xs j x at in
    let many = below_many key xs (key x + 1) (j + 1) (omega arith) (λ k y less other. let up = rises_at key xs k j y x rising (omega arith) other at in omega arith) in
    (few, omega arith)
