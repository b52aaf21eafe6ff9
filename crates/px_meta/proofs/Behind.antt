-- What the rows behind a row say, where rows are walked from the last one.
use Rattle.std.proofs.Common.{◌≡◌, ◌≢◌, ◌⊎◌, ℕ, zero, suc, ◌+◌, ◌-◌, ◌<◌, ◌≤◌, Bool, true, false, cond, eqb, List, [], ◌∷◌, length, get_or, replicate, Option, Some, None, refl, sym, ap, ◌∙◌, subst, inl, inr, ⊎_elim, arith}
use Rattle.std.specs.Prelude.{find, nat_le, nat_lt, ◌&&◌}
use Rattle.std.specs.List.{range_with_len}
use Rattle.std.specs.Option.{unwrap_or}
use Rattle.std.proofs.lemmas.Bool.{cases_eq, cases_lt, eq-eqb, ne_eqb}
use Rattle.std.proofs.lemmas.Bool.Decides.{nat_tests}
use Rattle.px_tables.specs.Metadata.{View}
use Rattle.px_meta.specs.Chains.{encloser, nesting_in, outer_of}
use Rattle.px_meta.specs.Members.{is_listed, list_end, list_start, owner_of}
use Rattle.px_meta.specs.Rows.{cell, count_of, nested_classes, some_row, type_defs}
use Rattle.px_meta.specs.Walks.{AreOf}
use Rattle.px_meta.proofs.Rows.{of_from}

-- the rows behind so many
abbrev behind : ℕ → ℕ → List ℕ
behind n count = range_with_len (n + 1) (count - n)

behind_step : (n count : ℕ) → n < count → behind n count ≡ (n + 1) ∷ behind (n + 1) count
behind_step n count less = let e : count - n ≡ suc (count - (n + 1)) = omega arith in ap (λ k. range_with_len (n + 1) k) e

behind_all : (count : ℕ) → behind count count ≡ []
behind_all count = let e : count - count ≡ 0 = omega arith in ap (λ k. range_with_len (count + 1) k) e

behind_none : (count : ℕ) → behind 0 count ≡ range_with_len 1 count
behind_none count = let e : count - 0 ≡ count = omega arith in ap (λ k. range_with_len 1 k) e

-- the owner of a member by the types behind so many
abbrev pub owner_behind : View → ℕ → ℕ → ℕ → ℕ
owner_behind v table n row = unwrap_or (find (is_listed v table row) (behind n (count_of v type_defs))) 0

-- the owners that have been set
pub record AreSet (v : View) (table n : ℕ) (owners : List ℕ) : Type 0 where
  pub size : length owners ≡ count_of v table
  pub each : (row : ℕ) → 1 ≤ row → row ≤ count_of v table → get_or owners (row - 1) 0 ≡ owner_behind v table n row

get_or-nulls : (count k : ℕ) → ◌≡◌ {A = ℕ} (get_or (replicate count 0) k 0) 0
get_or-nulls zero k = refl
get_or-nulls (suc count) zero = refl
get_or-nulls (suc count) (suc k) = get_or-nulls count k

pub length-same : {X : Type 0} (count : ℕ) (x : X) → length (replicate count x) ≡ count
length-same zero x = refl
length-same (suc count) x = let e = length-same count x in omega arith

pub none_set : (v : View) (table n : ℕ) (owners : List ℕ) → n ≡ count_of v type_defs → owners ≡ replicate (count_of v table) 0 → AreSet v table n owners
none_set v table n owners e new = subst (λ xs. AreSet v table n xs) (sym new) (record {
  size = length-same (count_of v table) 0;
  each = λ row some few.
      get_or-nulls (count_of v table) (row - 1)
      ∙ sym (ap (λ rows. unwrap_or (find (is_listed v table row) rows) 0) (ap (λ k. behind k (count_of v type_defs)) e ∙ behind_all (count_of v type_defs)));
})

owner_step : (v : View) (table n row : ℕ) → n < count_of v type_defs → owner_behind v table n row ≡ unwrap_or (cond (is_listed v table row (n + 1)) (Some (n + 1)) (find (is_listed v table row) (behind (n + 1) (count_of v type_defs)))) 0
owner_step v table n row less = ap (λ rows. unwrap_or (find (is_listed v table row) rows) 0) (behind_step n (count_of v type_defs) less)

owner_here : (v : View) (table n row : ℕ) → n < count_of v type_defs → is_listed v table row (n + 1) ≡ true → owner_behind v table n row ≡ n + 1
owner_here v table n row less listed = owner_step v table n row less ∙ ap (λ b. unwrap_or (cond b (Some (n + 1)) (find (is_listed v table row) (behind (n + 1) (count_of v type_defs)))) 0) listed

owner_later : (v : View) (table n row : ℕ) → n < count_of v type_defs → is_listed v table row (n + 1) ≡ false → owner_behind v table n row ≡ owner_behind v table (n + 1) row
owner_later v table n row less unlisted = owner_step v table n row less ∙ ap (λ b. unwrap_or (cond b (Some (n + 1)) (find (is_listed v table row) (behind (n + 1) (count_of v type_defs)))) 0) unlisted

listed_if : (v : View) (table row type : ℕ) → list_start v table type ≤ row → row < list_end v table type → is_listed v table row type ≡ true
listed_if v table row type from below = listed_by (list_start v table type) (list_end v table type) from below
  where
    listed_by : (start end : ℕ) → start ≤ row → row < end → (nat_le start row && nat_lt row end) ≡ true
    listed_by start end from below = grind (arith, nat_tests)

unlisted_if : (v : View) (table row type : ℕ) → (row < list_start v table type) ⊎ (list_end v table type ≤ row) → is_listed v table row type ≡ false
unlisted_if v table row type outside = unlisted_by (list_start v table type) (list_end v table type) outside
  where
    unlisted_by : (start end : ℕ) → (row < start) ⊎ (end ≤ row) → (nat_le start row && nat_lt row end) ≡ false
    unlisted_by start end outside = grind (arith, nat_tests)

-- the list of one more type
pub more_set : (v : View) (table n : ℕ) (owners news : List ℕ) → n < count_of v type_defs → AreSet v table (n + 1) owners → length news ≡ length owners
    → ((row : ℕ) → 1 ≤ row → row ≤ length owners → list_start v table (n + 1) ≤ row → row < list_end v table (n + 1) → get_or news (row - 1) 0 ≡ n + 1)
    → ((row : ℕ) → 1 ≤ row → row ≤ length owners → (row < list_start v table (n + 1)) ⊎ (list_end v table (n + 1) ≤ row) → get_or news (row - 1) 0 ≡ get_or owners (row - 1) 0)
    → AreSet v table n news
more_set v table n owners news less are size listed others = record {
  size = size ∙ are.size;
  each = λ row some few.
      let within : row ≤ length owners = omega (arith, are.size) in
      ⊎_elim
      (λ before. others row some within (inl before) ∙ are.each row some few ∙ sym (owner_later v table n row less (unlisted_if v table row (n + 1) (inl before))))
      (λ from. ⊎_elim
      (λ inside. listed row some within from inside ∙ sym (owner_here v table n row less (listed_if v table row (n + 1) from inside)))
      (λ past. others row some within (inr past) ∙ are.each row some few ∙ sym (owner_later v table n row less (unlisted_if v table row (n + 1) (inr past))))
      (cases_lt row (list_end v table (n + 1))))
      (cases_lt row (list_start v table (n + 1)));
}

pub all_set : (v : View) (table n : ℕ) (owners : List ℕ) → n ≡ 0 → AreSet v table n owners → AreOf (owner_of v table) (count_of v table) owners
all_set v table n owners e are = of_from (owner_of v table) (count_of v table) owners 0 are.size
    (λ row some few. are.each row some few ∙ ap (λ rows. unwrap_or (find (is_listed v table row) rows) 0) (ap (λ k. behind k (count_of v type_defs)) e ∙ behind_none (count_of v type_defs)))

-- what a type is nested in by the rows behind so many
abbrev pub outer_behind : View → ℕ → ℕ → Option ℕ
outer_behind v n row = encloser v (nesting_in v (behind n (count_of v nested_classes)) row)

pub record AreNested (v : View) (n : ℕ) (outers : List (Option ℕ)) : Type 0 where
  pub size : length outers ≡ count_of v type_defs
  pub each : (row : ℕ) → 1 ≤ row → row ≤ count_of v type_defs → get_or outers (row - 1) None ≡ outer_behind v n row

pub get_or-nones : {X : Type 0} (count k : ℕ) → get_or {A = Option X} (replicate count None) k None ≡ None
get_or-nones zero k = refl
get_or-nones (suc count) zero = refl
get_or-nones (suc count) (suc k) = get_or-nones count k

pub none_nested : (v : View) (n : ℕ) (outers : List (Option ℕ)) → n ≡ count_of v nested_classes → outers ≡ replicate (count_of v type_defs) None → AreNested v n outers
none_nested v n outers e new = subst (λ xs. AreNested v n xs) (sym new) (record {
  size = length-same (count_of v type_defs) None;
  each = λ row some few.
      get_or-nones (count_of v type_defs) (row - 1)
      ∙ sym (ap (λ rows. encloser v (nesting_in v rows row)) (ap (λ k. behind k (count_of v nested_classes)) e ∙ behind_all (count_of v nested_classes)));
})

outer_step : (v : View) (n row : ℕ) → n < count_of v nested_classes
    → outer_behind v n row ≡ encloser v (cond (eqb (cell v nested_classes (n + 1) 0) row) (Some (n + 1)) (nesting_in v (behind (n + 1) (count_of v nested_classes)) row))
outer_step v n row less = ap (λ rows. encloser v (nesting_in v rows row)) (behind_step n (count_of v nested_classes) less)

outer_by : (v : View) (n row : ℕ) (b : Bool) → n < count_of v nested_classes → eqb (cell v nested_classes (n + 1) 0) row ≡ b
    → outer_behind v n row ≡ encloser v (cond b (Some (n + 1)) (nesting_in v (behind (n + 1) (count_of v nested_classes)) row))
outer_by v n row b less e = outer_step v n row less ∙ ap (λ b. encloser v (cond b (Some (n + 1)) (nesting_in v (behind (n + 1) (count_of v nested_classes)) row))) e

-- one more row
pub more_nested : (v : View) (n nested : ℕ) (outer : Option ℕ) (outers news : List (Option ℕ)) → n < count_of v nested_classes → AreNested v (n + 1) outers → length news ≡ length outers
    → nested ≡ cell v nested_classes (n + 1) 0 → outer ≡ some_row v type_defs (cell v nested_classes (n + 1) 1)
    → (1 ≤ nested → nested ≤ length outers → get_or news (nested - 1) None ≡ outer)
    → ((row : ℕ) → 1 ≤ row → row ≢ nested → get_or news (row - 1) None ≡ get_or outers (row - 1) None)
    → AreNested v n news
more_nested v n nested outer outers news less are size nested_is outer_is named others = record {
  size = size ∙ are.size;
  each = λ row some few. ⊎_elim
      (λ e.
      let here : eqb (cell v nested_classes (n + 1) 0) row ≡ true = eq-eqb _ _ (sym nested_is ∙ sym e) in
      subst (λ r. get_or news (r - 1) None ≡ outer) (sym e) (named (omega arith) (omega (arith, are.size))) ∙ outer_is ∙ sym (outer_by v n row true less here))
      (λ ne.
      let other : eqb (cell v nested_classes (n + 1) 0) row ≡ false = ne_eqb _ _ (λ e. ne (sym (nested_is ∙ e))) in
      others row some ne ∙ are.each row some few ∙ sym (outer_by v n row false less other))
      (cases_eq row nested);
}

pub all_nested : (v : View) (n : ℕ) (outers : List (Option ℕ)) → n ≡ 0 → AreNested v n outers → AreOf (outer_of v) (count_of v type_defs) outers
all_nested v n outers e are = of_from (outer_of v) (count_of v type_defs) outers None are.size
    (λ row some few. are.each row some few ∙ ap (λ rows. encloser v (nesting_in v rows row)) (ap (λ k. behind k (count_of v nested_classes)) e ∙ behind_none (count_of v nested_classes)))
