-- The rows of MemberRef that are made.
use Rattle.std.proofs.Common.{◌≡◌, ℕ, ◌+◌, ◌*◌, ◌<◌, ◌^◌, List, [], ◌∷◌, ◌++◌, Some, length, refl, sym, ap, ◌∙◌, subst, arith}
use Rattle.std.specs.Prelude.{Result, Ok, Err, IfOk, OnOk, codes, slice_get, slice_index}
use Rattle.std.proofs.lemmas.Option.{slice_get_within}
use Rattle.px_asm_heaps.specs.Heaps.{HasString}
use Rattle.px_program.specs.declared.program.Place.{Place}
use Rattle.px_program.specs.declared.program.Program.{Program}
use Rattle.px_sig.specs.Grammar.{method_sig}
use Rattle.px_sig.specs.declared.sig.MethodSig.{MethodSig}
use Rattle.px_tables.specs.declared.tables.Row.{Row}
use Rattle.px_asm_store.specs.Constructors.{HasConstructorSig}
use Rattle.px_asm_law_written.specs.Store.{AreReferences, HasSig, IsConstructorRow, IsReference, Store, StoreGrows, check_sig, constructor_sig}
use Rattle.px_asm_law_written.specs.Tokens.{HasConstructor}
use Rattle.px_asm_store.proofs.StoreStays.{constructor_row_stays, grows_same, references_more, store_grows_on}

-- ONE ROW

-- the cells of a reference
abbrev pub reference_cells : ℕ → ℕ → ℕ → List ℕ
reference_cells parent name sig = (8 * parent + 1) ∷ name ∷ sig ∷ 0 ∷ 0 ∷ 0 ∷ 0 ∷ 0 ∷ 0 ∷ []

abbrev first_three : List ℕ → List ℕ
first_three cells = slice_index cells 0 ∷ slice_index cells 1 ∷ slice_index cells 2 ∷ 0 ∷ 0 ∷ 0 ∷ 0 ∷ 0 ∷ 0 ∷ []

pub is_reference : (s : Store) (parent at sig_at : ℕ) (name : List ℕ) (sig : MethodSig) (row : Row) → row.cells ≡ reference_cells parent at sig_at → HasString s.strings at name → HasSig method_sig s.blob sig_at sig → IsReference s parent name sig row
is_reference s parent at sig_at name sig row is name_is sig_is = record {
  parent_is = ap (λ cells. slice_index cells 0) is;
  name_is = subst (λ n. HasString s.strings n name) (sym (ap (λ cells. slice_index cells 1) is)) name_is;
  sig_is = subst (λ n. HasSig method_sig s.blob n sig) (sym (ap (λ cells. slice_index cells 2) is)) sig_is;
  zeros = is ∙ ap first_three (sym is);
}

-- THE CHECKS

-- references to the two checks alone
pub two_checks : (p : Program) (s : Store) (assume assert : Row) → s.references ≡ assume ∷ assert ∷ [] → IsReference s 19 (codes "IsTrue") check_sig assume → IsReference s 20 (codes "IsTrue") check_sig assert → AreReferences p s
two_checks p s assume assert are assume_is assert_is = record {
  checks = record { assume = assume; assert = assert; others = []; are = are; assume_is = assume_is; assert_is = assert_is };
  others = λ n row at. absurd (omega (arith, slice_get_within s.references (n + 2) row at, ap length are));
}

-- CONSTRUCTORS

pub is_constructor_row : (p : Program) (s : Store) (class at sig_at : ℕ) (params : List Place) (row : Row) → row.cells ≡ reference_cells (class + 1) at sig_at → HasString s.strings at (codes ".ctor") → HasConstructorSig p s params sig_at → IsConstructorRow p s class params row
is_constructor_row p s class at sig_at params row is name sig = record {
  types = sig.types;
  takes = sig.takes;
  is = is_reference s (class + 1) at sig_at (codes ".ctor") (constructor_sig sig.types) row is name sig.stands;
}

-- a store with one row more
abbrev pub with_row : Store → Row → Store
with_row s row = record s { references = s.references ++ row ∷ [] }

pub grows_by_row : (s : Store) (row : Row) → StoreGrows s (with_row s row)
grows_by_row s row = record { strings = grows_same s.strings; texts = grows_same s.texts; blob = grows_same s.blob; references = record { more = row ∷ []; is = refl } }

last_row : (rows : List Row) (row : Row) → slice_get (rows ++ row ∷ []) (length rows) ≡ Some row
last_row [] row = refl
last_row (first ∷ rows) row = last_row rows row

pub has_constructor : (p : Program) (s : Store) (class : ℕ) (params : List Place) (row : Row) (at : ℕ) → IsConstructorRow p s class params row → at ≡ 0x0A * 2 ^ 24 + (length s.references + 1) → length s.references + 1 < 2 ^ 24
    → HasConstructor p (with_row s row) class params at
has_constructor p s class params row at is at_is few = record {
  table = omega (arith, at_is, few);
  n = length s.references;
  row_is = omega (arith, at_is, few);
  row = row;
  there = last_row s.references row;
  is = constructor_row_stays p s (with_row s row) class params row (grows_by_row s row) is;
}

-- the references from before and one more
pub more_references : (p : Program) (old s : Store) (class : ℕ) (params : List Place) (row : Row) → class < 17 → StoreGrows old s → s.references ≡ old.references → IsConstructorRow p s class params row → AreReferences p old → AreReferences p (with_row s row)
more_references p old s class params row few grows same is are =
    references_more p old (with_row s row) row (store_grows_on old s (with_row s row) grows (grows_by_row s row)) (ap (λ rows. rows ++ row ∷ []) same)
    (record { class = class; few = few; params = params; is = constructor_row_stays p s (with_row s row) class params row (grows_by_row s row) is }) are

-- ANSWERS

pub if_added : {X E : Type 0} (P Q : X → Type 0) (new made : Store) (S : Store → X → Type 0) (result : Result X E) → IfOk result P → IfOk result Q → OnOk result (new ≡ made) → ((x : X) → P x → Q x → S made x) → IfOk result (S new)
if_added P Q new made S (Ok x) p q is holds = subst (λ s. S s x) (sym is) (holds x p q)
if_added P Q new made S (Err e) p q is holds = tt

pub on_added : {X E : Type 0} (new made : Store) (S : Store → Type 0) (result : Result X E) → OnOk result (new ≡ made) → S made → OnOk result (S new)
on_added new made S (Ok x) is holds = subst S (sym is) holds
on_added new made S (Err e) is holds = tt
