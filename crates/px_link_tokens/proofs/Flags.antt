-- The flags of types that have an initialiser.
use Rattle.std.proofs.Common.{◌≡◌, ◌≢◌, ℕ, zero, suc, ◌+◌, ◌-◌, ◌≤◌, Bool, true, false, List, length, get_or, refl, sym, ap, ◌∙◌, subst, ⊎_elim, arith}
use Rattle.std.specs.Prelude.{◌==◌, ◌&&◌, ◌||◌, codes}
use Rattle.std.specs.List.{list_any, range_with_len}
use Rattle.std.specs.Str.{bytes_eq}
use Rattle.std.proofs.lemmas.Bool.{cases_eq, eq-eqb, ne_eqb}
use Rattle.std.proofs.lemmas.Option.{get_or_from_slice_get, slice_get_within}
use Rattle.px_tables.specs.Metadata.{View}
use Rattle.px_meta.specs.Members.{IsMethod}
use Rattle.px_meta.specs.Rows.{cell, count_of, methods, text_at, type_defs}
use Rattle.px_meta.specs.declared.meta.MetaMethod.{MetaMethod}
use Rattle.px_meta.proofs.Alike.{text_is}
use Rattle.px_link_tokens.specs.Operands.{is_initialiser}
use Rattle.px_link_tokens.specs.Parts.{AreInitialised}

-- the flags tell which types have an initialiser among the first methods
pub record AreFlagged (v : View) (n : ℕ) (flags : List Bool) : Type 0 where
  pub size : length flags ≡ count_of v type_defs
  pub each : (row : ℕ) → 1 ≤ row → row ≤ count_of v type_defs → get_or flags (row - 1) false ≡ list_any (is_initialiser v row) (range_with_len 1 n)

-- one more method
any_more : (p : ℕ → Bool) (a n j : ℕ) → a + n ≡ j → list_any p (range_with_len a (suc n)) ≡ (list_any p (range_with_len a n) || p j)
any_more p a zero j e = let same : a ≡ j = omega arith in or_false (p a) ∙ ap p same
  where
    or_false : (b : Bool) → (b || false) ≡ b
    or_false true = refl
    or_false false = refl
any_more p a (suc n) j e = ap (λ b. p a || b) (any_more p (a + 1) n j (omega arith)) ∙ or_in (p a) (list_any p (range_with_len (a + 1) n)) (p j)
  where
    or_in : (b c d : Bool) → (b || (c || d)) ≡ ((b || c) || d)
    or_in true c d = refl
    or_in false c d = refl

test_by : (v : View) (row n : ℕ) (m : MetaMethod) (t : Bool) → IsMethod v n m → bytes_eq m.name.now (codes ".cctor") ≡ t → is_initialiser v row n ≡ ((m.owner == row) && t)
test_by v row n m t is told =
    ap (λ o. (o == row) && bytes_eq (text_at v (cell v methods n 3)) (codes ".cctor")) (sym is.owner)
    ∙ ap (λ x. (m.owner == row) && x) (ap (λ name. bytes_eq name (codes ".cctor")) (text_is v (cell v methods n 3) m.name.now is.name) ∙ told)

and_not : (b : Bool) → (b && false) ≡ false
and_not true = refl
and_not false = refl

or_not : (b : Bool) → (b || false) ≡ b
or_not true = refl
or_not false = refl

or_so : (b : Bool) → (b || true) ≡ true
or_so true = refl
or_so false = refl

more : (v : View) (row n : ℕ) → list_any (is_initialiser v row) (range_with_len 1 (n + 1)) ≡ (list_any (is_initialiser v row) (range_with_len 1 n) || is_initialiser v row (n + 1))
more v row n =
    let one : n + 1 ≡ suc n = omega arith in
    ap (λ k. list_any (is_initialiser v row) (range_with_len 1 k)) one ∙ any_more (is_initialiser v row) 1 n (n + 1) (omega arith)

-- a method that is no initialiser sets no flag
pub flags_kept : (v : View) (n : ℕ) (m : MetaMethod) (flags : List Bool) → AreFlagged v n flags → IsMethod v (n + 1) m → bytes_eq m.name.now (codes ".cctor") ≡ false → AreFlagged v (n + 1) flags
flags_kept v n m flags are is other = record {
  size = are.size;
  each = λ row some few.
      are.each row some few
      ∙ sym (more v row n ∙ ap (λ b. list_any (is_initialiser v row) (range_with_len 1 n) || b) (test_by v row (n + 1) m false is other ∙ and_not (m.owner == row)) ∙ or_not _);
}

-- an initialiser sets the flag of its type alone
pub flag_set : (v : View) (n : ℕ) (m : MetaMethod) (flags news : List Bool) → AreFlagged v n flags → IsMethod v (n + 1) m → bytes_eq m.name.now (codes ".cctor") ≡ true → length news ≡ length flags
    → (1 ≤ m.owner → m.owner ≤ length flags → get_or news (m.owner - 1) false ≡ true)
    → ((other : ℕ) → 1 ≤ other → other ≢ m.owner → get_or news (other - 1) false ≡ get_or flags (other - 1) false)
    → AreFlagged v (n + 1) news
flag_set v n m flags news are is told size named others = record {
  size = size ∙ are.size;
  each = λ row some few.
      let before = list_any (is_initialiser v row) (range_with_len 1 n) in
      ⊎_elim
      (λ same.
      subst (λ o. get_or news (o - 1) false ≡ true) same (named (omega arith) (omega (arith, are.size)))
      ∙ sym (more v row n ∙ ap (λ b. before || b) (test_by v row (n + 1) m true is told ∙ ap (λ b. b && true) (eq-eqb m.owner row same)) ∙ or_so before))
      (λ differs.
      others row some (λ e. differs (sym e)) ∙ are.each row some few
      ∙ sym (more v row n ∙ ap (λ b. before || b) (test_by v row (n + 1) m true is told ∙ ap (λ b. b && true) (ne_eqb m.owner row differs)) ∙ or_not before))
      (cases_eq m.owner row);
}

pub all_flagged : (v : View) (n : ℕ) (flags : List Bool) → AreFlagged v n flags → n ≡ count_of v methods → AreInitialised v flags
all_flagged v n flags are all = record {
  count = are.size;
  each = λ k flag is.
      let same : (k + 1) - 1 ≡ k = omega arith in
      let within = slice_get_within flags k flag is in
      sym (get_or_from_slice_get flags k flag false is) ∙ ap (λ j. get_or flags j false) (sym same) ∙ are.each (k + 1) (omega arith) (omega (arith, are.size))
      ∙ ap (λ j. list_any (is_initialiser v (k + 1)) (range_with_len 1 j)) all;
}
