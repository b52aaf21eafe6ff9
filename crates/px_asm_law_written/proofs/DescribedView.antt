-- What is written of a program, put into metadata and an image, and how it is read back.
use Rattle.std.proofs.Common.{◌≡◌, ℕ, ◌+◌, ◌-◌, ◌≤◌, ◌<◌, ◌^◌, List, [], length, append-nil, Some, Result, refl, sym, ap, ◌∙◌, subst, arith}
use Rattle.std.specs.Prelude.{slice_get, slice_index}
use Rattle.std.proofs.lemmas.Option.{slice_get_within}
use Rattle.px_asm_law_written.proofs.DescribedLists.{item_at}
use Rattle.px_asm_law_written.specs.Holds.{table_in}
use Rattle.px_asm_law_written.specs.Store.{HasSig, Store}
use Rattle.px_asm_law_written.specs.Written.{IsWritten}
use Rattle.px_blobs.specs.Items.{IsStringAt, blob_at}
use Rattle.px_asm_heaps.specs.Heaps.{HasBlob, HasString}
use Rattle.px_asm_image.specs.Image.{IsImageOf}
use Rattle.px_asm_image.specs.Layout.{Fits, IsMetadataOf}
use Rattle.px_asm_image.specs.declared.content.Content.{Content}
use Rattle.px_meta.proofs.Alike.{text_is}
use Rattle.px_meta.specs.Members.{read_of}
use Rattle.px_meta.specs.Rows.{IsReadable, IsRow, cell, count_of, text_at}
use Rattle.px_pe.specs.Image as pe
use Rattle.px_program.specs.declared.program.Program.{Program}
use Rattle.px_asm_described.specs.Writable.{IsWritable}
use Rattle.px_tables.specs.Metadata.{View}
use Rattle.px_tables.specs.declared.tables.Row.{Row}

-- a program that is written
pub record Put : Type 0 where
  pub p : Program
  pub content : Content
  pub bodies : List ℕ
  pub metadata : List ℕ
  pub file : List ℕ
  pub writable : IsWritable p
  pub written : IsWritten p content bodies
  pub fits : Fits content
  pub m : IsMetadataOf content metadata
  pub i : IsImageOf metadata bodies file

abbrev pub view : Put → View
view a = a.m.view

abbrev pub image : Put → pe.View
image a = a.i.view

abbrev pub store : Put → Store
store a = a.written.store

abbrev pub rows_at : Put → ℕ → List Row
rows_at a table = table_in a.content.rows table

-- ROWS

pub count_written : (a : Put) (table : ℕ) → count_of (view a) table ≡ length (rows_at a table)
count_written a table = a.m.counts table

pub few_written : (a : Put) (table : ℕ) → count_of (view a) table < 2 ^ 24
few_written a table = subst (λ n. n < 2 ^ 24) (sym (count_written a table)) (a.fits.few_rows table)

pub cell_written : (a : Put) (table n k : ℕ) (row : Row) → slice_get (rows_at a table) n ≡ Some row → cell (view a) table (n + 1) k ≡ slice_index row.cells k
cell_written a table n k row at = ap (λ cells. slice_index cells k) (a.m.cells table n row at)

row_some : (n : ℕ) → 1 ≤ n + 1
row_some n = omega arith

row_few : (n size count : ℕ) → n < size → count ≡ size → n + 1 ≤ count
row_few n size count less e = omega arith

pub row_there : (a : Put) (table n : ℕ) (row : Row) → slice_get (rows_at a table) n ≡ Some row → IsRow (view a) table (n + 1)
row_there a table n row at = record { some = row_some n; few = row_few n (length (rows_at a table)) (count_of (view a) table) (slice_get_within (rows_at a table) n row at) (count_written a table) }

-- a row that is read is one that was written
pub record IsPutRow (a : Put) (table at : ℕ) : Type 0 where
  pub n : ℕ
  pub is : at ≡ n + 1
  pub less : n < length (rows_at a table)
  pub row : Row
  pub there : slice_get (rows_at a table) n ≡ Some row

less_by : (at size count : ℕ) → 1 ≤ at → at ≤ count → count ≡ size → at - 1 < size
less_by at size count some few e = omega arith

back_by : (at : ℕ) → 1 ≤ at → at ≡ (at - 1) + 1
back_by at some = omega arith

pub put_row : (a : Put) (table at : ℕ) → IsRow (view a) table at → IsPutRow a table at
put_row a table at is =
    let less = less_by at (length (rows_at a table)) (count_of (view a) table) is.some is.few (count_written a table) in
    let found = item_at (rows_at a table) (at - 1) less in
    record { n = at - 1; is = back_by at is.some; less = less; row = found.0; there = found.1 }

-- HEAPS

string_written : (a : Put) (at : ℕ) (text : List ℕ) → HasString (store a).strings at text → IsStringAt (view a).strings at text
string_written a at text has = subst (λ heap. IsStringAt heap at text) (append-nil (store a).strings ∙ sym a.written.strings ∙ sym a.m.strings) (has [])

text_written : (a : Put) (at : ℕ) (text : List ℕ) → HasString (store a).strings at text → text_at (view a) at ≡ text
text_written a at text has = text_is (view a) at text (string_written a at text has)

pub text_read : (a : Put) (at there : ℕ) (text : List ℕ) → there ≡ at → HasString (store a).strings at text → text_at (view a) there ≡ text
text_read a at there text e has = ap (text_at (view a)) e ∙ text_written a at text has

pub readable : (a : Put) (at there : ℕ) (text : List ℕ) → there ≡ at → HasString (store a).strings at text → IsReadable (view a) there
readable a at there text e has = record { text = text; stands = subst (λ n. IsStringAt (view a).strings n text) (sym e) (string_written a at text has) }

blob_written : (a : Put) (at : ℕ) (blob : List ℕ) → HasBlob (store a).blob at blob → blob_at (view a).blob at ≡ Some blob
blob_written a at blob has = ap (λ heap. blob_at heap at) (a.m.blob ∙ a.written.blob ∙ sym (append-nil (store a).blob)) ∙ has []

pub units_written : (a : Put) (at : ℕ) (blob : List ℕ) → HasBlob (store a).texts at blob → blob_at (view a).user_strings at ≡ Some blob
units_written a at blob has = ap (λ heap. blob_at heap at) (a.m.user_strings ∙ a.written.texts ∙ sym (append-nil (store a).texts)) ∙ has []

pub sig_written : {X : Type 0} (a : Put) (read : List ℕ → Result X ℕ) (at there : ℕ) (x : X) → there ≡ at → HasSig read (store a).blob at x → read_of read (blob_at (view a).blob there) ≡ Some x
sig_written a read at there x e has = ap (λ n. read_of read (blob_at (view a).blob n)) e ∙ ap (read_of read) (blob_written a at has.blob has.stands) ∙ read_ok
  where
    read_ok : read_of read (Some has.blob) ≡ Some x
    read_ok = rw has.reads refl
