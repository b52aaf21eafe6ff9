-- The first constructor of a class that takes nothing, and the parameters that can be given.
use Rattle.std.proofs.Common.{◌≡◌, ◌⊎◌, ℕ, zero, suc, ◌+◌, ◌<◌, ◌≤◌, Bool, true, false, cond, List, [], ◌∷◌, Option, Some, None, length, get_or, drop, refl, sym, ap, ◌∙◌, subst, inl, inr, ⊎_elim, arith}
use Rattle.std.specs.Prelude.{◌==◌, ◌&&◌, ◌||◌, not, codes, find, nat_le, nat_lt, if◌then◌else◌}
use Rattle.std.specs.List.{range_with_len}
use Rattle.std.specs.Option.{unwrap_or}
use Rattle.std.specs.Str.{bytes_eq}
use Rattle.std.proofs.lemmas.Bool.{cases_eq, cases_lt, cond-false, cond-true, eqb-true}
use Rattle.std.proofs.lemmas.Bool.Decides.{nat_tests}
use Rattle.std.proofs.lemmas.List.{at_drop_all, at_drop_more}
use Rattle.px_meta.specs.Members.{IsMethod, is_listed, list_end, list_start, owner_of}
use Rattle.px_meta.specs.Rows.{IsRow, cell, count_of, methods, rows_in, text_at, type_defs}
use Rattle.px_meta.specs.declared.meta.MetaMethod.{MetaMethod}
use Rattle.px_link_methods.specs.Methods.{sig_at}
use Rattle.px_sig.specs.declared.sig.SigType.{SigType}
use Rattle.px_tables.specs.Metadata.{View}
use Rattle.px_link_types.specs.Keys.{is_class}
use Rattle.px_link.specs.Link.{is_argument, is_maker, maker_in, takes_nothing, unfit_from}
use Rattle.px_link.specs.Parts.{is_constructor, makes}
use Rattle.px_meta.proofs.Alike.{text_is}

-- PARAMETERS

unfit_now : (k : ℕ) (types : List SigType) (d : SigType) → k < length types
    → unfit_from k (drop k types) ≡ (if (k == 16) || not (is_argument (get_or types k d)) then Some k else unfit_from (k + 1) (drop (k + 1) types))
unfit_now k types d less = at_drop_more (unfit_from k) types k d less

pub unfit_here : (k : ℕ) (types : List SigType) (d : SigType) → k < length types → ((k == 16) || not (is_argument (get_or types k d))) ≡ true
    → unfit_from k (drop k types) ≡ Some k
unfit_here k types d less unfit = unfit_now k types d less ∙ cond-true ((k == 16) || not (is_argument (get_or types k d))) (Some k) (unfit_from (k + 1) (drop (k + 1) types)) unfit

pub unfit_on : (k : ℕ) (types : List SigType) (d : SigType) → k < length types → ((k == 16) || not (is_argument (get_or types k d))) ≡ false
    → unfit_from k (drop k types) ≡ unfit_from (k + 1) (drop (k + 1) types)
unfit_on k types d less fit = unfit_now k types d less ∙ cond-false ((k == 16) || not (is_argument (get_or types k d))) (Some k) (unfit_from (k + 1) (drop (k + 1) types)) fit

pub unfit_end : (k : ℕ) (types : List SigType) → length types ≤ k → unfit_from k (drop k types) ≡ None
unfit_end k types all = at_drop_all (unfit_from k) types k all

-- THE FIRST OF A RANGE

find_head : (p : ℕ → Bool) (a : ℕ) (rest : Option ℕ) (b : Bool) → p a ≡ b → b ≡ false → cond (p a) (Some a) rest ≡ rest
find_head p a rest b is none = cond-false (p a) (Some a) rest (is ∙ none)

pub find_first : (p : ℕ → Bool) (a n row : ℕ) → a ≤ row → row < a + n → p row ≡ true → ((k : ℕ) → a ≤ k → k < row → p k ≡ false) → find p (range_with_len a n) ≡ Some row
find_first p a zero row from to is none = absurd (omega arith)
find_first p a (suc n) row from to is none =
    ⊎_elim
    (λ same. cond-true (p a) (Some a) (find p (range_with_len (a + 1) n)) (subst (λ k. p k ≡ true) (sym same) is) ∙ ap (λ k. Some k) same)
    (λ other. cond-false (p a) (Some a) (find p (range_with_len (a + 1) n)) (none a (omega arith) (omega arith))
    ∙ find_first p (a + 1) n row (omega arith) (omega arith) is (λ k more less. none k (omega arith) less))
    (cases_eq a row)

pub find_none : (p : ℕ → Bool) (a n : ℕ) → ((k : ℕ) → a ≤ k → k < a + n → p k ≡ false) → find p (range_with_len a n) ≡ None
find_none p a zero none = refl
find_none p a (suc n) none =
    cond-false (p a) (Some a) (find p (range_with_len (a + 1) n)) (none a (omega arith) (omega arith)) ∙ find_none p (a + 1) n (λ k more less. none k (omega arith) (omega arith))

-- LISTS OF METHODS

passes_by : (p : ℕ → Bool) (x n : ℕ) (rest : Option ℕ) (b : Bool) → p x ≡ b → (rest ≡ Some n → p n ≡ true) → cond b (Some x) rest ≡ Some n → p n ≡ true
passes_by p x n rest true is later e = let same : x ≡ n = cc in subst (λ k. p k ≡ true) same is
passes_by p x n rest false is later e = later e

pub found_passes : (p : ℕ → Bool) (xs : List ℕ) (n : ℕ) → find p xs ≡ Some n → p n ≡ true
found_passes p [] n e = absurd (cc)
found_passes p (x ∷ xs) n e = passes_by p x n (find p xs) (p x) refl (found_passes p xs n) e

some_from : (o : Option ℕ) (x : ℕ) → unwrap_or o 0 ≡ x → 1 ≤ x → o ≡ Some x
some_from None x e some = absurd (let none : 0 ≡ x = e in omega arith)
some_from (Some y) x e some = ap (λ k. Some k) e

-- a type that has a method lists it
owned_listed : (v : View) (class method : ℕ) → 1 ≤ class → owner_of v methods method ≡ class → is_listed v methods method class ≡ true
owned_listed v class method some e = found_passes (is_listed v methods method) (rows_in v type_defs) class (some_from _ class e some)

both_tests : (start end row : ℕ) → (nat_le start row && nat_lt row end) ≡ true → (start ≤ row) × (row < end)
both_tests start end row e = (grind (arith, nat_tests), grind (arith, nat_tests))

no_owner : (b c d f : Bool) → b ≡ false → (b && c && d && f) ≡ false
no_owner b c d f e = ap (λ x. x && c && d && f) e

differs : (a b : ℕ) (t : Bool) → (a == b) ≡ t → (a ≡ b → ⊥) → t ≡ false
differs a b true e ne = absurd (ne (eqb-true a b e))
differs a b false e ne = refl

-- what isn't in the list of a type makes none of its objects
pub outside : (v : View) (class method : ℕ) → IsRow v type_defs class → ((method < list_start v methods class) ⊎ (list_end v methods class ≤ method)) → is_maker v class method ≡ false
outside v class method is out =
    no_owner (owner_of v methods method == class) (bytes_eq (text_at v (cell v methods method 3)) (codes ".ctor")) (not (cell v methods method 0 == 0)) (takes_nothing (sig_at v method))
    (differs (owner_of v methods method) class (owner_of v methods method == class) refl
    (λ e.
    let in_list = both_tests (list_start v methods class) (list_end v methods class) method (owned_listed v class method is.some e) in
    ⊎_elim (λ before. omega (arith, in_list.0)) (λ behind. omega (arith, in_list.1)) out))

-- what was read of a method tells whether it is a maker
pub makes_by_row : (v : View) (class row : ℕ) (m : MetaMethod) → IsMethod v row m → makes class m ≡ is_maker v class row
makes_by_row v class row m is =
    ap (λ o. (o == class) && is_constructor m && not (m.rva == 0) && takes_nothing (Some m.sig)) is.owner
    ∙ ap (λ t. (owner_of v methods row == class) && bytes_eq t (codes ".ctor") && not (m.rva == 0) && takes_nothing (Some m.sig)) (sym (text_is v (cell v methods row 3) m.name.now is.name))
    ∙ ap (λ r. (owner_of v methods row == class) && bytes_eq (text_at v (cell v methods row 3)) (codes ".ctor") && not (r == 0) && takes_nothing (Some m.sig)) is.rva
    ∙ ap (λ s. (owner_of v methods row == class) && bytes_eq (text_at v (cell v methods row 3)) (codes ".ctor") && not (cell v methods row 0 == 0) && takes_nothing s) (sym is.sig)

-- none of the methods before a row is a maker
pub record IsNoneYet (v : View) (class row : ℕ) : Type 0 where
  pub none : (k : ℕ) → 1 ≤ k → k < row → is_maker v class k ≡ false

pub none_first : (v : View) (class row : ℕ) → IsRow v type_defs class → ((k : ℕ) → 1 ≤ k → k < row → k < list_start v methods class) → IsNoneYet v class row
none_first v class row is first = record { none = λ k some less. outside v class k is (inl (first k some less)) }

pub none_next : (v : View) (class row : ℕ) (m : MetaMethod) → IsNoneYet v class row → IsMethod v row m → makes class m ≡ false → IsNoneYet v class (row + 1)
none_next v class row m before is none = record {
  none = λ k some less.
      ⊎_elim
      (λ same. subst (λ r. is_maker v class r ≡ false) (sym same) (sym (makes_by_row v class row m is) ∙ none))
      (λ other. before.none k some (omega arith))
      (cases_eq k row);
}

pub maker_here : (v : View) (class row : ℕ) (m : MetaMethod) → is_class v class ≡ true → IsRow v methods row → IsNoneYet v class row → IsMethod v row m → makes class m ≡ true → Some row ≡ maker_in v class
maker_here v class row m is_class' there before is made =
    sym (cond-true (is_class v class) (find (is_maker v class) (rows_in v methods)) None is_class'
    ∙ find_first (is_maker v class) 1 (count_of v methods) row there.some (omega (arith, there.few)) (sym (makes_by_row v class row m is) ∙ made) (λ k some less. before.none k some less))

pub maker_nowhere : (v : View) (class row : ℕ) → is_class v class ≡ true → IsRow v type_defs class → IsNoneYet v class row
    → ((k : ℕ) → 1 ≤ k → row ≤ k → k ≤ count_of v methods → list_end v methods class ≤ k) → None ≡ maker_in v class
maker_nowhere v class row is_class' is before last =
    sym (cond-true (is_class v class) (find (is_maker v class) (rows_in v methods)) None is_class'
    ∙ find_none (is_maker v class) 1 (count_of v methods)
    (λ k some less. ⊎_elim (λ early. before.none k some early) (λ late. outside v class k is (inr (last k some late (omega arith)))) (cases_lt k row)))
