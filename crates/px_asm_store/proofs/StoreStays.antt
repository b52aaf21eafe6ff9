-- What stands in heaps and in rows of MemberRef stays there, whatever is added behind it.
use Rattle.std.proofs.Common.{◌≡◌, ℕ, zero, suc, ◌+◌, List, [], ◌∷◌, ◌++◌, Some, sym, ap, ◌∙◌, subst, append_assoc, append-nil}
use Rattle.std.specs.Prelude.{Result, slice_get}
use Rattle.px_blobs.specs.Items.{IsStringAt, blob_at}
use Rattle.px_asm_heaps.specs.Heaps.{Grows, HasBlob, HasString, HasText}
use Rattle.px_program.specs.declared.program.Place.{Place}
use Rattle.px_program.specs.declared.program.Program.{Program}
use Rattle.px_sig.specs.declared.sig.MethodSig.{MethodSig}
use Rattle.px_tables.specs.declared.tables.Row.{Row}
use Rattle.px_asm_law_written.specs.Store.{AreReferences, HasChecks, HasSig, IsAnyConstructor, IsConstructorRow, IsReference, RowsGrow, Store, StoreGrows}
use Rattle.px_asm_law_written.specs.Tokens.{HasConstructor}

-- GROWING

pub grows_same : (heap : List ℕ) → Grows heap heap
grows_same heap = record { more = []; is = sym (append-nil heap) }

pub grows_on : (a b c : List ℕ) → Grows a b → Grows b c → Grows a c
grows_on a b c first later = record { more = first.more ++ later.more; is = later.is ∙ ap (λ l. l ++ later.more) first.is ∙ append_assoc a first.more later.more }

pub rows_grow_same : (rows : List Row) → RowsGrow rows rows
rows_grow_same rows = record { more = []; is = sym (append-nil rows) }

pub rows_grow_on : (a b c : List Row) → RowsGrow a b → RowsGrow b c → RowsGrow a c
rows_grow_on a b c first later = record { more = first.more ++ later.more; is = later.is ∙ ap (λ l. l ++ later.more) first.is ∙ append_assoc a first.more later.more }

pub store_grows_same : (s : Store) → StoreGrows s s
store_grows_same s = record { strings = grows_same s.strings; texts = grows_same s.texts; blob = grows_same s.blob; references = rows_grow_same s.references }

pub store_grows_on : (a b c : Store) → StoreGrows a b → StoreGrows b c → StoreGrows a c
store_grows_on a b c first later = record {
  strings = grows_on a.strings b.strings c.strings first.strings later.strings;
  texts = grows_on a.texts b.texts c.texts first.texts later.texts;
  blob = grows_on a.blob b.blob c.blob first.blob later.blob;
  references = rows_grow_on a.references b.references c.references first.references later.references;
}

-- HEAPS

joined : (old new rest : List ℕ) (grows : Grows old new) → old ++ (grows.more ++ rest) ≡ new ++ rest
joined old new rest grows = sym (append_assoc old grows.more rest) ∙ ap (λ l. l ++ rest) (sym grows.is)

pub string_stays : (old new : List ℕ) → Grows old new → (at : ℕ) (text : List ℕ) → HasString old at text → HasString new at text
string_stays old new grows at text stands rest = subst (λ heap. IsStringAt heap at text) (joined old new rest grows) (stands (grows.more ++ rest))

pub blob_stays : (old new : List ℕ) → Grows old new → (at : ℕ) (blob : List ℕ) → HasBlob old at blob → HasBlob new at blob
blob_stays old new grows at blob stands rest = subst (λ heap. blob_at heap at ≡ Some blob) (joined old new rest grows) (stands (grows.more ++ rest))

pub text_stays : (old new : List ℕ) → Grows old new → (at : ℕ) (units : List ℕ) → HasText old at units → HasText new at units
text_stays old new grows at units has = record { flag = has.flag; blob = blob_stays old new grows at _ has.blob }

pub sig_stays : {X : Type 0} (read : List ℕ → Result X ℕ) (old new : List ℕ) → Grows old new → (at : ℕ) (x : X) → HasSig read old at x → HasSig read new at x
sig_stays read old new grows at x has = record { blob = has.blob; stands = blob_stays old new grows at has.blob has.stands; reads = has.reads }

-- REFERENCES

pub reference_stays : (old new : Store) (parent : ℕ) (name : List ℕ) (sig : MethodSig) (row : Row) → StoreGrows old new → IsReference old parent name sig row → IsReference new parent name sig row
reference_stays old new parent name sig row grows is = record {
  parent_is = is.parent_is;
  name_is = string_stays old.strings new.strings grows.strings _ name is.name_is;
  sig_is = sig_stays _ old.blob new.blob grows.blob _ sig is.sig_is;
  zeros = is.zeros;
}

pub constructor_row_stays : (p : Program) (old new : Store) (class : ℕ) (params : List Place) (row : Row) → StoreGrows old new → IsConstructorRow p old class params row → IsConstructorRow p new class params row
constructor_row_stays p old new class params row grows is = record {
  types = is.types;
  takes = is.takes;
  is = reference_stays old new _ _ _ row grows is.is;
}

pub any_constructor_stays : (p : Program) (old new : Store) (row : Row) → StoreGrows old new → IsAnyConstructor p old row → IsAnyConstructor p new row
any_constructor_stays p old new row grows is = record { class = is.class; few = is.few; params = is.params; is = constructor_row_stays p old new is.class is.params row grows is.is }

pub row_stays : (old new : List Row) (n : ℕ) (row : Row) → RowsGrow old new → slice_get old n ≡ Some row → slice_get new n ≡ Some row
row_stays old new n row grows at = subst (λ rows. slice_get rows n ≡ Some row) (sym grows.is) (behind old n at)
  where
    behind : (rows : List Row) (k : ℕ) → slice_get rows k ≡ Some row → slice_get (rows ++ grows.more) k ≡ Some row
    behind [] k at = absurd (cc)
    behind (first ∷ rows) zero at = at
    behind (first ∷ rows) (suc k) at = behind rows k at

pub constructor_stays : (p : Program) (old new : Store) (class : ℕ) (params : List Place) (at : ℕ) → StoreGrows old new → HasConstructor p old class params at → HasConstructor p new class params at
constructor_stays p old new class params at grows has = record {
  table = has.table;
  n = has.n;
  row_is = has.row_is;
  row = has.row;
  there = row_stays old.references new.references has.n has.row grows.references has.there;
  is = constructor_row_stays p old new class params has.row grows has.is;
}

pub checks_stay : (old new : Store) → StoreGrows old new → HasChecks old → HasChecks new
checks_stay old new grows checks = record {
  assume = checks.assume;
  assert = checks.assert;
  others = checks.others ++ grows.references.more;
  are = grows.references.is ∙ ap (λ l. l ++ grows.references.more) checks.are;
  assume_is = reference_stays old new _ _ _ checks.assume grows checks.assume_is;
  assert_is = reference_stays old new _ _ _ checks.assert grows checks.assert_is;
}

-- where no row is added
pub references_stay : (p : Program) (old new : Store) → StoreGrows old new → new.references ≡ old.references → AreReferences p old → AreReferences p new
references_stay p old new grows same are = record {
  checks = checks_stay old new grows are.checks;
  others = λ n row at. any_constructor_stays p old new row grows (are.others n row (ap (λ rows. slice_get rows (n + 2)) (sym same) ∙ at));
}

-- ONE MORE ROW

added : (rows : List Row) (new : Row) (P : Row → Type 0) → P new → (n : ℕ) (row : Row) → ((row : Row) → slice_get rows n ≡ Some row → P row) → slice_get (rows ++ new ∷ []) n ≡ Some row → P row
added [] new P is zero row old at = let same : new ≡ row = cc in subst P same is
added [] new P is (suc n) row old at = absurd (cc)
added (first ∷ rows) new P is zero row old at = old row at
added (first ∷ rows) new P is (suc n) row old at = added rows new P is n row old at

-- one row more, of a constructor
pub references_more : (p : Program) (old new : Store) (row : Row) → StoreGrows old new → new.references ≡ old.references ++ row ∷ [] → IsAnyConstructor p new row → AreReferences p old → AreReferences p new
references_more p old new row grows is any are = record {
  checks = checks_stay old new grows are.checks;
  others = λ n other at.
      added old.references row (IsAnyConstructor p new) any (n + 2) other
      (λ earlier at_old. any_constructor_stays p old new earlier grows (are.others n earlier at_old))
      (ap (λ rows. slice_get rows (n + 2)) (sym is) ∙ at);
}
