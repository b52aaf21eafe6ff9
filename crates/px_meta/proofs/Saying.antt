-- What rows of MethodImpl say, where they are walked from the last one.
use Rattle.std.proofs.Common.{◌≡◌, ◌≢◌, ℕ, ◌+◌, ◌-◌, ◌<◌, ◌≤◌, Bool, true, false, List, length, get_or, replicate, Option, Some, None, sym, ◌∙◌, subst, ⊎_elim, arith}
use Rattle.std.specs.Prelude.{MatchBool, MatchOption}
use Rattle.std.proofs.lemmas.Bool.{cases_eq}
use Rattle.std.proofs.lemmas.Option.{get_or_from_slice_get, slice_get_within}
use Rattle.px_tables.specs.Metadata.{View}
use Rattle.px_meta.specs.Impls.{IsDeclared, IsNamed}
use Rattle.px_meta.specs.Members.{owner_of}
use Rattle.px_meta.specs.Overriding.{IsNearest, IsSaid, is_new_slot}
use Rattle.px_meta.specs.Rows.{count_of, method_impls, methods}
use Rattle.px_meta.specs.Tokens.{AreRows}
use Rattle.px_meta.proofs.Behind.{get_or-nones, length-same}

-- the first row behind so many that says what the method overrides
pub record IsFirstBehind (v : View) (n method other : ℕ) : Type 0 where
  pub row : ℕ
  pub behind : n < row
  pub said : IsSaid v row method other
  pub first : (r o : ℕ) → n < r → r < row → IsSaid v r method o → ⊥

abbrev pub IsDeclaredBehind : View → ℕ → ℕ → Option ℕ → Type 0
IsDeclaredBehind v n method declared = MatchOption declared ((row other : ℕ) → n < row → IsSaid v row method other → ⊥) (IsFirstBehind v n method)

pub record AreDeclared (v : View) (n : ℕ) (items : List (Option ℕ)) : Type 0 where
  pub size : length items ≡ count_of v methods
  pub each : (method : ℕ) → 1 ≤ method → method ≤ count_of v methods → IsDeclaredBehind v n method (get_or items (method - 1) None)

pub none_declared : (v : View) (n : ℕ) (items : List (Option ℕ)) → n ≡ count_of v method_impls → items ≡ replicate (count_of v methods) None → AreDeclared v n items
none_declared v n items e new = subst (λ xs. AreDeclared v n xs) (sym new) (record {
  size = length-same (count_of v methods) None;
  each = λ method some few. subst (λ o. IsDeclaredBehind v n method o) (sym (get_or-nones (count_of v methods) (method - 1))) (λ row other less said. omega (arith, said.there.few));
})

skip_one : (v : View) (n method : ℕ) (declared : Option ℕ) → ((other : ℕ) → IsSaid v (n + 1) method other → ⊥) → IsDeclaredBehind v (n + 1) method declared → IsDeclaredBehind v n method declared
skip_one v n method None nobody none = λ row other less said.
    ⊎_elim (λ e. nobody other (subst (λ r. IsSaid v r method other) e said)) (λ ne. none row other (omega arith) said) (cases_eq row (n + 1))
skip_one v n method (Some x) nobody is = record {
  row = is.row;
  behind = omega (arith, is.behind);
  said = is.said;
  first = λ r o less below said.
      ⊎_elim (λ e. nobody o (subst (λ k. IsSaid v k method o) e said)) (λ ne. is.first r o (omega arith) below said) (cases_eq r (n + 1));
}

-- a row that says nothing
pub skip_declared : (v : View) (n : ℕ) (items : List (Option ℕ)) → AreDeclared v (n + 1) items → ((method other : ℕ) → IsSaid v (n + 1) method other → ⊥) → AreDeclared v n items
skip_declared v n items are nobody = record { size = are.size; each = λ method some few. skip_one v n method _ (nobody method) (are.each method some few) }

same_body : (v : View) (row body declaration method other : ℕ) → IsSaid v row body declaration → IsSaid v row method other → method ≡ body
same_body v row body declaration method other said again = let a = said.body in let b = again.body in cc

-- a row that says what a method overrides
pub put_declared : (v : View) (n body declaration : ℕ) (items news : List (Option ℕ)) → AreDeclared v (n + 1) items → IsSaid v (n + 1) body declaration → length news ≡ length items
    → (1 ≤ body → body ≤ length items → get_or news (body - 1) None ≡ Some declaration)
    → ((row : ℕ) → 1 ≤ row → row ≢ body → get_or news (row - 1) None ≡ get_or items (row - 1) None)
    → AreDeclared v n news
put_declared v n body declaration items news are said size named others = record {
  size = size ∙ are.size;
  each = λ method some few. ⊎_elim
      (λ e.
      let here : get_or news (body - 1) None ≡ Some declaration = named (omega (arith, said.may.row.some)) (omega (arith, said.may.row.few, are.size)) in
      subst (λ m. IsDeclaredBehind v n m (get_or news (m - 1) None)) (sym e)
      (subst (λ o. IsDeclaredBehind v n body o) (sym here) (record { row = n + 1; behind = omega arith; said = said; first = λ r o less below again. omega arith })))
      (λ ne.
      subst (λ o. IsDeclaredBehind v n method o) (sym (others method some ne))
      (skip_one v n method _ (λ o again. ne (same_body v (n + 1) body declaration method o said again)) (are.each method some few)))
      (cases_eq method body);
}

first_of_all : (v : View) (method : ℕ) (declared : Option ℕ) → IsDeclaredBehind v 0 method declared → IsDeclared v method declared
first_of_all v method None none = λ row other said. none row other said.there.some said
first_of_all v method (Some x) is = record { row = is.row; said = is.said; first = λ r o below said. is.first r o said.there.some below said }

pub all_declared : (v : View) (n : ℕ) (items : List (Option ℕ)) → n ≡ 0 → AreDeclared v n items → AreRows IsDeclared v methods items
all_declared v n items e are = record {
  count = are.size;
  each = λ k item stands.
      let within = slice_get_within items k item stands in
      let same : (k + 1) - 1 ≡ k = omega arith in
      let behind = subst (λ j. IsDeclaredBehind v n (k + 1) (get_or items j None)) same (are.each (k + 1) (omega arith) (omega (arith, are.size))) in
      first_of_all v (k + 1) item
      (subst (λ m. IsDeclaredBehind v m (k + 1) item) e (subst (λ o. IsDeclaredBehind v n (k + 1) o) (get_or_from_slice_get items k item None stands) behind));
}

pub may_by : (b : Bool) (P Q : Type 0) → (P → Q) → (Q → P) → MatchBool b P (P → ⊥) → MatchBool b Q (Q → ⊥)
may_by true P Q there back p = there p
may_by false P Q there back none = λ q. none (back q)

pub named_or_none : (v : View) (method owner : ℕ) (o : Option ℕ) → owner ≡ owner_of v methods method → is_new_slot v method ≡ false → MatchOption o ((other : ℕ) → IsNearest v method owner other → ⊥) (IsNearest v method owner)
    → MatchOption o ((other : ℕ) → is_new_slot v method ≡ false → IsNearest v method (owner_of v methods method) other → ⊥) (IsNamed v method)
named_or_none v method owner None e old none = λ other slot n. none other (subst (λ t. IsNearest v method t other) (sym e) n)
named_or_none v method owner (Some x) e old n = record { old_slot = old; nearest = subst (λ t. IsNearest v method t x) e n }
