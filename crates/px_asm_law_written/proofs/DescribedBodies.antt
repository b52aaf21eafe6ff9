-- The bodies of methods, as an image has them.
use Rattle.std.proofs.Common.{◌≡◌, ℕ, ◌+◌, ◌*◌, ◌^◌, List, [], ◌∷◌, take, drop, Some, None, Result, Ok, Err, sym, ap, ◌∙◌, subst, arith}
use Rattle.std.specs.Prelude.{◌==◌, ◌&&◌, if◌then◌else◌, nat_le, slice_get, slice_index}
use Rattle.std.specs.List.{AllZip}
use Rattle.std.proofs.lemmas.Bool.{and_from, cond-false, cond-true, le-leb, ne_eqb}
use Rattle.std.proofs.lemmas.Option.{same_Some}
use Rattle.px_asm_image.specs.Image.{first_body}
use Rattle.px_asm_law_written.proofs.DescribedLists.{token_row, token_table, zip_weaken}
use Rattle.px_link_methods.proofs.RowPlaces.{beside, place_at_once}
use Rattle.px_asm_law_written.proofs.DescribedTokens.{few_row, token_names}
use Rattle.px_asm_law_written.proofs.DescribedView.{Put, cell_written, few_written, image, row_there, rows_at, sig_written, store, view}
use Rattle.px_asm_law_written.specs.Holds.{HasBodyAt, IsAddress, IsInstrIn, IsLocals}
use Rattle.px_code.specs.Body.{body_of}
use Rattle.px_reading.specs.Reading.{◌>>=◌}
use Rattle.px_code.specs.declared.body.Body.{Body}
use Rattle.px_code.specs.declared.body.RawInstr.{RawInstr}
use Rattle.px_meta.specs.Rows.{IsRow, cell, count_of, methods, some_row}
use Rattle.px_meta.specs.Tokens.{row_in, table_in}
use Rattle.px_pe.specs.Image as pe
use Rattle.px_pe.specs.Section.{Table, table_of}
use Rattle.px_pe.specs.declared.fault.PeFault.{PeFault}
use Rattle.px_pe.specs.declared.section.Span.{Span}
use Rattle.px_program.proofs.Types.{each_at}
use Rattle.px_program.specs.Formed.{HasOperands, IsFormedIn}
use Rattle.px_program.specs.declared.instr.Instr.{Instr}
use Rattle.px_program.specs.declared.program.Method.{Method}
use Rattle.px_link_reach.specs.Bodies.{body_at, body_in, locals_at, locals_in, no_body, stand_alone_sigs, whole_at, whole_of, with_locals}
use Rattle.px_asm_described.specs.Describes.{IsBodyOf, IsCodeRow, IsInstrOf, IsTypeOf, method_row}
use Rattle.px_sig.specs.Grammar.{locals_sig}
use Rattle.px_sig.specs.declared.sig.SigType.{SigType}

-- THE FILE

-- what is read last tells what is so of the result
last_read : {A B : Type 0} (P : B → Type 0) (r : Result A PeFault) (f : A → Result B PeFault) (b : B) → ((x : A) → f x ≡ Ok b → P b) → (r >>= f) ≡ Ok b → P b
last_read P (Ok x) f b goes e = goes x e
last_read P (Err fault) f b goes e = absurd (cc)

bytes_in : List ℕ → Result pe.View PeFault → List ℕ
bytes_in file (Ok v) = v.bytes
bytes_in file (Err fault) = file

-- an image has the bytes of the file that it is read from
bytes_kept : (file : List ℕ) (v : pe.View) → pe.image_of file ≡ Ok v → v.bytes ≡ file
unfolding pe.image_of bytes_in
bytes_kept file v e =
    let P : pe.View → Type 0 = λ w. w.bytes ≡ file in
    let made : Table → Span → Result pe.View PeFault = λ table metadata. Ok (record { bytes = file; sections = table.sections; metadata = metadata }) in
    last_read P (pe.pe_offset file) _ v
    (λ at f. last_read P (pe.headers_at file at) _ v
    (λ headers g. last_read P (table_of headers.count file headers.table) (λ table. pe.metadata_of table headers >>= made table) v
    (λ table h. last_read P (pe.metadata_of table headers) (made table) v (λ metadata k. sym (ap (bytes_in file) k)) h) g) f) e

-- LOCALS

module _ (a : Put) (j number : ℕ) (method : Method) (at : slice_get a.p.layout.methods j ≡ Some number) (is : slice_get a.p.methods number ≡ Some method) where
  row_is : method_row a.p number ≡ j + 1
  row_is = ap (λ n. n + 1) (place_at_once a.p.layout.methods j number a.writable.methods_once at)

  -- the types of the locals
  record HasLocals : Type 0 where
    types : List SigType
    there : IsRow (view a) stand_alone_sigs (j + 1)
    read : locals_in (view a) (Some (j + 1)) ≡ Some types
    are : AllZip (IsTypeOf a.p) method.locals types

  locals : HasLocals
  locals =
      let found = beside (IsLocals a.p (store a)) a.p.layout.methods (rows_at a 0x11) a.written.holds.locals j number at in
      let same = same_Some found.1.1.method method (sym found.1.1.at ∙ is) in
      record {
        types = found.1.1.types;
        there = row_there a 0x11 j found.0 found.1.0;
        read = sig_written a locals_sig (slice_index found.0.cells 0) (cell (view a) stand_alone_sigs (j + 1) 0) found.1.1.types (cell_written a 0x11 j 0 found.0 found.1.0) found.1.1.sig;
        are = subst (λ (m : Method). AllZip (IsTypeOf a.p) m.locals found.1.1.types) same found.1.1.are;
      }

  locals_read : (token : ℕ) → token ≡ 0x11 * 2 ^ 24 + method_row a.p number → locals_at (view a) token ≡ Some locals.types
  locals_read token e =
      let few = few_row (view a) stand_alone_sigs (j + 1) locals.there (few_written a 0x11) in
      let whole : token ≡ 0x11 * 2 ^ 24 + (j + 1) = e ∙ ap (λ n. 0x11 * 2 ^ 24 + n) row_is in
      let table : table_in token ≡ 0x11 = ap table_in whole ∙ token_table 0x11 (j + 1) few in
      let row : row_in token ≡ j + 1 = ap row_in whole ∙ token_row 0x11 (j + 1) few in
      ap (λ t. if t == stand_alone_sigs then locals_in (view a) (some_row (view a) stand_alone_sigs (row_in token)) else None) table
      ∙ ap (λ r. locals_in (view a) (some_row (view a) stand_alone_sigs r)) row
      ∙ ap (locals_in (view a))
      (cond-true (nat_le 1 (j + 1) && nat_le (j + 1) (count_of (view a) stand_alone_sigs)) (Some (j + 1)) None
      (and_from (nat_le 1 (j + 1)) (nat_le (j + 1) (count_of (view a) stand_alone_sigs)) (le-leb 1 (j + 1) locals.there.some) (le-leb (j + 1) (count_of (view a) stand_alone_sigs) locals.there.few)))
      ∙ locals.read

  -- BODIES

  whole_by : (body : Body) → body.locals_token ≡ 0x11 * 2 ^ 24 + method_row a.p number → whole_of (view a) body ≡ Ok (record { body = body; locals = locals.types })
  whole_by body e =
      cond-false (body.locals_token == 0) (with_locals body (Some [])) (with_locals body (locals_at (view a) body.locals_token)) (ne_eqb body.locals_token 0 (λ none. omega arith))
      ∙ ap (with_locals body) (locals_read body.locals_token e)

  body_written : (place : ℕ) → (has : HasBodyAt a.p (store a) a.bodies (method_row a.p number) method place) → body_at (image a) (first_body + place) ≡ Ok has.body
  body_written place has =
      let bodies = a.i.bodies_are place has.within in
      ap (body_in (image a).bytes) bodies.at
      ∙ ap (λ bytes. body_of (take bodies.span.len (drop bodies.span.start bytes))) (bytes_kept a.file (image a) a.i.read)
      ∙ ap body_of bodies.are ∙ has.read bodies.rest

  whole_written : (place : ℕ) → (has : HasBodyAt a.p (store a) a.bodies (method_row a.p number) method place) → cell (view a) methods (j + 1) 0 ≡ first_body + place
      → whole_at (view a) (image a) (j + 1) ≡ Ok (record { body = has.body; locals = locals.types })
  whole_written place has e =
      cond-false (cell (view a) methods (j + 1) 0 == 0) (Ok no_body) (body_at (image a) (cell (view a) methods (j + 1) 0) >>= whole_of (view a)) (ne_eqb (cell (view a) methods (j + 1) 0) 0 (λ none. omega arith))
      ∙ ap (λ rva. body_at (image a) rva >>= whole_of (view a)) e
      ∙ ap (λ read. read >>= whole_of (view a)) (body_written place has)
      ∙ whole_by has.body has.is.locals

  instr_described : (instr : Instr) (raw : RawInstr) → HasOperands a.p instr.code → IsInstrIn a.p (store a) instr raw → IsInstrOf a.p (view a) instr raw
  instr_described instr raw there has = record { token = has.token; fits = has.fits; is = has.is; names = token_names a instr.code has.token there has.has }

  body_described : (place : ℕ) → (has : HasBodyAt a.p (store a) a.bodies (method_row a.p number) method place) → IsBodyOf a.p (view a) method (record { body = has.body; locals = locals.types })
  body_described place has = record {
    formed = has.is.formed;
    max_stack = has.is.max_stack;
    locals = locals.are;
    code =
        zip_weaken (IsInstrIn a.p (store a)) (IsInstrOf a.p (view a)) (λ (i : Instr). HasOperands a.p i.code) instr_described method.code has.body.code
        (each_at (IsFormedIn a.p) a.p.methods a.writable.formed.methods number method is).operands has.is.code;
    clauses = has.is.clauses;
  }

  pub code_described : (code : List Instr) → IsAddress a.p (store a) a.bodies (method_row a.p number) method code (cell (view a) methods (j + 1) 0) → IsCodeRow a.p (view a) (image a) (j + 1) method code
  code_described [] address = address
  code_described (instr ∷ instrs) address = record {
    there = λ none. let e = address.is in omega arith;
    whole = record { body = address.body.body; locals = locals.types };
    read = whole_written address.at address.body address.is;
    is = body_described address.at address.body;
  }
