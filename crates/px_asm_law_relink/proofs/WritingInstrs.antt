-- The instructions of a linked program that runs whole are those of an assembly.
use Rattle.std.proofs.Common.{◌≡◌, ℕ, ◌+◌, ◌<◌, Bool, true, false, List, [], ◌∷◌, Option, Some, None, Result, Ok, Err, refl, sym, ap, ◌∙◌, subst, ⊎_elim, arith, eqb-true}
use Rattle.std.specs.Prelude.{◌==◌, ◌||◌, All, IfSome, drop, if◌then◌else◌, take}
use Rattle.std.specs.List.{AllByRecursion, AllZip}
use Rattle.std.proofs.lemmas.Bool.{cond_both, or_cases}
use Rattle.std.proofs.lemmas.List.Elements.{All-drop, All-take}
use Rattle.px_code.specs.Body as coded
use Rattle.px_code.specs.Body.{body_of}
use Rattle.px_code.specs.Reading.{PlacedFault}
use Rattle.px_reading.specs.Reading.{◌>>=◌}
use Rattle.px_code.specs.declared.body.Body.{Body}
use Rattle.px_code.specs.declared.body.Operand.TheVariants as size
use Rattle.px_code.specs.declared.body.RawInstr.{RawInstr}
use Rattle.px_asm_bodies.proofs.Read.{read_encodable}
use Rattle.px_asm_bodies.specs.Encoding.{HasNumber, HasOperand, IsEncodable, opcode_size}
use Rattle.px_link.proofs.LinkedProgram.{numbering_of}
use Rattle.px_meta.specs.Rows.{cell, methods}
use Rattle.px_link_methods.specs.Codes.{IsCode, IsInstr, IsTokenCode, Numbering, call_code, code_with, field_code, method_code, place_of, type_code}
use Rattle.px_link_methods.specs.Slots.{Forms, forms_of, is_barred}
use Rattle.px_link_opcodes.specs.Opcodes.{outside, plain_code}
use Rattle.px_link_tokens.specs.Operands.{operand_of}
use Rattle.px_link_tokens.specs.declared.operand.Operand.{Operand}
use Rattle.px_link_tokens.specs.declared.operand.Operand.TheVariants as operand
use Rattle.px_pe.specs.Image as pe
use Rattle.px_pe.specs.Image.{headers_at, image_of, metadata_of, pe_offset}
use Rattle.px_pe.specs.Section.{Table, rest_at, table_of}
use Rattle.px_pe.specs.declared.fault.PeFault.{PeFault}
use Rattle.px_pe.specs.declared.headers.Headers.{Headers}
use Rattle.px_pe.specs.declared.section.Span.{Span}
use Rattle.px_program.proofs.Types.{each_at}
use Rattle.px_program.specs.declared.instr.Callee.{Callee}
use Rattle.px_program.specs.declared.instr.Code.{Code}
use Rattle.px_program.specs.declared.instr.Code.TheVariants as code
use Rattle.px_program.specs.declared.instr.ElementForm.TheVariants as form
use Rattle.px_program.specs.declared.instr.Instr.{Instr}
use Rattle.px_program.specs.declared.program.Method.{Method}
use Rattle.px_program.specs.declared.program.Program.{Program}
use Rattle.px_link_reach.specs.Bodies.{body_at, body_in, locals_at, no_body, whole_at, whole_of, with_locals}
use Rattle.px_link_reach.specs.Met.{IsBody, operand_at}
use Rattle.px_link_reach.specs.declared.body.Whole.{Whole}
use Rattle.px_asm_opcodes.specs.Recoding.{HasRaw, IsPlain, token_opcode}
use Rattle.px_sig.specs.declared.sig.SigType.{SigType}
use Rattle.px_tables.specs.Metadata.{View}
use Rattle.px_link_types.specs.Numbers.{number_of, place_in}
use Rattle.px_link_types.specs.declared.key.Key.{Key}
use Rattle.px_asm_law_relink.proofs.InstrPlain.{plain_has_no_token}
use Rattle.px_asm_law_relink.proofs.WritingMethods.{each_at_place, has_row}
use Rattle.px_asm_law_relink.specs.Linked.{IsLinked, RunsWhole, is_run}

-- THE BYTES OF AN IMAGE

-- where there is an image, its bytes are the file's
abbrev HasBytes : List ℕ → Result pe.View PeFault → Type 0
HasBytes file (Ok image) = image.bytes ≡ file
HasBytes file (Err fault) = Unit {0}

goes_on : {A : Type 0} (file : List ℕ) (read : Result A PeFault) (next : A → Result pe.View PeFault) → ((x : A) → HasBytes file (next x)) → HasBytes file (read >>= next)
goes_on file (Ok x) next each = each x
goes_on file (Err e) next each = tt

-- how an image is read, from behind
abbrev of_metadata : List ℕ → Table → Span → Result pe.View PeFault
of_metadata file table metadata = Ok (record { bytes = file; sections = table.sections; metadata = metadata })

abbrev of_table : List ℕ → Headers → Table → Result pe.View PeFault
of_table file headers table = metadata_of table headers >>= of_metadata file table

abbrev of_headers : List ℕ → Headers → Result pe.View PeFault
of_headers file headers = table_of headers.count file headers.table >>= of_table file headers

abbrev of_offset : List ℕ → ℕ → Result pe.View PeFault
of_offset file at = headers_at file at >>= of_headers file

all_bytes : (file : List ℕ) → HasBytes file (image_of file)
unfolding image_of
all_bytes file =
    goes_on file (pe_offset file) (of_offset file)
    (λ at. goes_on file (headers_at file at) (of_headers file)
    (λ headers. goes_on file (table_of headers.count file headers.table) (of_table file headers)
    (λ table. goes_on file (metadata_of table headers) (of_metadata file table) (λ metadata. refl))))

pub image_bytes : (file : List ℕ) (image : pe.View) → image_of file ≡ Ok image → image.bytes ≡ file
image_bytes file image is = subst (HasBytes file) is (all_bytes file)

-- BODIES

-- where a body is read, its instructions can be written
abbrev CanBeWritten : Result Whole PlacedFault → Type 0
CanBeWritten (Ok whole) = AllByRecursion IsEncodable whole.body.code
CanBeWritten (Err fault) = Unit {0}

with_locals_written : (body : Body) (locals : Option (List SigType)) → AllByRecursion IsEncodable body.code → CanBeWritten (with_locals body locals)
with_locals_written body None each = tt
with_locals_written body (Some locals) each = each

whole_written : (v : View) (body : Body) → AllByRecursion IsEncodable body.code → CanBeWritten (whole_of v body)
whole_written v body each =
    cond_both (body.locals_token == 0) (with_locals body (Some [])) (with_locals body (locals_at v body.locals_token)) CanBeWritten (λ none. each) (λ some. with_locals_written body (locals_at v body.locals_token) each)

read_written : (v : View) (read : Result Body PlacedFault) → ((body : Body) → read ≡ Ok body → AllByRecursion IsEncodable body.code) → CanBeWritten (read >>= whole_of v)
read_written v (Ok body) each = whole_written v body (each body refl)
read_written v (Err fault) each = tt

body_written : (bytes : List ℕ) (span : Option Span) (body : Body) → All (λ byte. byte < 256) bytes → body_in bytes span ≡ Ok body → AllByRecursion IsEncodable body.code
body_written bytes None body small is = absurd (cc)
body_written bytes (Some span) body small is =
    read_encodable (take span.len (drop span.start bytes)) body
    (All-take (λ byte. byte < 256) span.len (drop span.start bytes) (All-drop (λ byte. byte < 256) span.start bytes small)) is

at_written : (v : View) (image : pe.View) (row : ℕ) → All (λ byte. byte < 256) image.bytes → CanBeWritten (whole_at v image row)
at_written v image row small =
    let rva = cell v methods row 0 in
    cond_both (rva == 0) (Ok no_body) (body_at image rva >>= whole_of v) CanBeWritten (λ none. tt)
    (λ some. read_written v (body_at image rva) (λ body is. body_written image.bytes (rest_at image.sections rva) body small is))

code_written : {p : Program} (l : IsLinked p) (row : ℕ) (whole : Whole) → IsBody l.assembly.v l.assembly.image row whole → AllByRecursion IsEncodable whole.body.code
code_written l row whole body =
    let bytes = image_bytes l.file l.assembly.image l.assembly.is_image in
    subst CanBeWritten body.read (at_written l.assembly.v l.assembly.image row (subst (All (λ byte. byte < 256)) (sym bytes) l.bytes))

-- INSTRUCTIONS WITH A TOKEN

-- an opcode of one byte with a token of four
record HasFour (opcode : ℕ) : Type 0 where
  one : opcode_size opcode ≡ 1
  four : coded.operand_of opcode ≡ Some (size.Number 4)

text_four : HasFour 0x72
unfolding coded.operand_of
text_four = record { one = refl; four = refl }

array_four : HasFour 0x8D
unfolding coded.operand_of
array_four = record { one = refl; four = refl }

load_four : HasFour 0xA3
unfolding coded.operand_of
load_four = record { one = refl; four = refl }

store_four : HasFour 0xA4
unfolding coded.operand_of
store_four = record { one = refl; four = refl }

cast_four : HasFour 0x74
unfolding coded.operand_of
cast_four = record { one = refl; four = refl }

test_four : HasFour 0x75
unfolding coded.operand_of
test_four = record { one = refl; four = refl }

field_four : HasFour 0x7B
unfolding coded.operand_of
field_four = record { one = refl; four = refl }

set_field_four : HasFour 0x7D
unfolding coded.operand_of
set_field_four = record { one = refl; four = refl }

static_four : HasFour 0x7E
unfolding coded.operand_of
static_four = record { one = refl; four = refl }

set_static_four : HasFour 0x80
unfolding coded.operand_of
set_static_four = record { one = refl; four = refl }

call_four : HasFour 0x28
unfolding coded.operand_of
call_four = record { one = refl; four = refl }

virtual_four : HasFour 0x6F
unfolding coded.operand_of
virtual_four = record { one = refl; four = refl }

made_four : HasFour 0x73
unfolding coded.operand_of
made_four = record { one = refl; four = refl }

-- an instruction of five bytes
abbrev IsFive : RawInstr → Type 0
IsFive raw = raw.next ≡ raw.offset + 5

five : (raw : RawInstr) (opcode : ℕ) → IsEncodable raw → HasFour opcode → (raw.opcode == opcode) ≡ true → IsFive raw
five raw opcode is has e =
    let same : raw.opcode ≡ opcode = eqb-true raw.opcode opcode e in
    let number : HasNumber raw 4 = subst (λ o. HasOperand o raw) (ap coded.operand_of same ∙ has.four) is.operand in
    let size_is = number.size_is in
    let one = ap opcode_size same ∙ has.one in
    omega arith

step : (P : Type 0) (test : Bool) (one other : Option Operand) → (test ≡ true → P) → IfSome other (λ o. P) → IfSome (if test then one else other) (λ o. P)
step P true None other here later = tt
step P true (Some o) other here later = here refl
step P false one other here later = later

named_five : (v : View) (raw : RawInstr) (at : ℕ) → IsEncodable raw → IfSome (operand_of v raw.opcode at) (λ o. IsFive raw)
unfolding operand_of
named_five v raw at is =
    let one : (opcode : ℕ) → HasFour opcode → (raw.opcode == opcode) ≡ true → IsFive raw = λ opcode has e. five raw opcode is has e in
    let either : (opcode other : ℕ) → HasFour opcode → HasFour other → ((raw.opcode == opcode) || (raw.opcode == other)) ≡ true → IsFive raw =
    λ opcode other has also e. ⊎_elim (one opcode has) (one other also) (or_cases (raw.opcode == opcode) (raw.opcode == other) e) in
    step (IsFive raw) (raw.opcode == 0x72) _ _ (one 0x72 text_four)
    (step (IsFive raw) (raw.opcode == 0x8D) _ _ (one 0x8D array_four)
    (step (IsFive raw) ((raw.opcode == 0xA3) || (raw.opcode == 0xA4)) _ _ (either 0xA3 0xA4 load_four store_four)
    (step (IsFive raw) ((raw.opcode == 0x74) || (raw.opcode == 0x75)) _ _ (either 0x74 0x75 cast_four test_four)
    (step (IsFive raw) ((raw.opcode == 0x7B) || (raw.opcode == 0x7D)) _ _ (either 0x7B 0x7D field_four set_field_four)
    (step (IsFive raw) ((raw.opcode == 0x7E) || (raw.opcode == 0x80)) _ _ (either 0x7E 0x80 static_four set_static_four)
    (step (IsFive raw) (raw.opcode == 0x28) _ _ (one 0x28 call_four)
    (step (IsFive raw) (raw.opcode == 0x6F) _ _ (one 0x6F virtual_four)
    (step (IsFive raw) (raw.opcode == 0x73) _ _ (one 0x73 made_four) tt))))))))

-- what a token does takes five bytes
abbrev TakesFive : Code → Type 0
TakesFive made = (instr : Instr) → instr.next ≡ instr.offset + 5 → HasRaw (token_opcode made) instr

type_five : (keys : List Key) (opcode : ℕ) (key : Key) → TakesFive (type_code keys opcode key)
type_five keys opcode key =
    cond_both (opcode == 0x8D) (code.NewArray (number_of keys key)) _ TakesFive (λ e instr is. is)
    (λ e. cond_both ((opcode == 0xA3) || (opcode == 0xA4)) (code.Element (opcode == 0xA4) (form.Typed (place_in keys key))) (code.Cast (opcode == 0x74) (number_of keys key)) TakesFive (λ f instr is. is) (λ f instr is. is))

field_five : (v : View) (keys : List Key) (opcode field : ℕ) → TakesFive (field_code v keys opcode field)
field_five v keys opcode field = cond_both ((opcode == 0x7B) || (opcode == 0x7D)) _ _ TakesFive (λ e instr is. is) (λ e instr is. is)

call_five : (opcode : ℕ) (callee : Callee) → TakesFive (call_code opcode callee)
call_five opcode callee = cond_both (opcode == 0x73) (code.NewObject callee) (code.Call callee) TakesFive (λ e instr is. is) (λ e instr is. is)

method_five : (rows : List ℕ) (opcode method : ℕ) → TakesFive (method_code rows opcode method)
method_five rows opcode method = cond_both (opcode == 0x6F) (code.CallVirtual (place_of rows method)) _ TakesFive (λ e instr is. is) (λ e. call_five opcode _)

token_five : (v : View) (n : Numbering) (opcode : ℕ) (o : Operand) → TakesFive (code_with v n opcode o)
token_five v n opcode (operand.Text units) instr is = is
token_five v n opcode (operand.Type key) instr is = type_five n.keys opcode key instr is
token_five v n opcode (operand.Field field) instr is = field_five v n.keys opcode field instr is
token_five v n opcode (operand.Method method) instr is = method_five n.rows opcode method instr is
token_five v n opcode (operand.Constructor class params) instr is = call_five opcode _ instr is
token_five v n opcode (operand.Check check) instr is = is

-- ALL INSTRUCTIONS

abbrev IsWritten : Instr → Type 0
IsWritten instr = HasRaw (token_opcode instr.code) instr

token_written : (v : View) (n : Numbering) (raw : RawInstr) (instr : Instr) (named : Option Operand) → instr.offset ≡ raw.offset → instr.next ≡ raw.next → is_run instr.code ≡ true → IfSome named (λ o. IsFive raw)
    → IsTokenCode v n raw named instr.code → IsWritten instr
token_written v n raw instr None offset next run five is = absurd (let not : is_run instr.code ≡ false = ap is_run is.is in cc)
token_written v n raw instr (Some o) offset next run five is =
    subst (λ made. HasRaw (token_opcode made) instr) (sym is) (token_five v n raw.opcode o instr (omega arith))

plain_written : (raw : RawInstr) (instr : Instr) (plain : Code) → instr.offset ≡ raw.offset → instr.next ≡ raw.next → IsEncodable raw → plain_code raw ≡ Some plain → instr.code ≡ plain → IsWritten instr
plain_written raw instr plain offset next encodable does is =
    let done : plain_code raw ≡ Some instr.code = does ∙ ap (λ c. Some c) (sym is) in
    let whole : IsPlain instr = record { raw = raw; encodable = encodable; placed = record { offset = sym offset; next = sym next }; does = done } in
    subst (λ o. HasRaw o instr) (sym (plain_has_no_token raw instr.code done)) whole

-- what is run is barred by no slot
not_barred : (barred : Bool) (made plain : Code) (opcode : ℕ) → is_run made ≡ true → made ≡ (if barred then outside opcode else plain) → made ≡ plain
not_barred true made plain opcode run is = absurd (let not : is_run made ≡ false = ap is_run is in cc)
not_barred false made plain opcode run is = is

code_is_written : (v : View) (n : Numbering) (forms : Forms) (raw : RawInstr) (instr : Instr) (plain : Option Code) → instr.offset ≡ raw.offset → instr.next ≡ raw.next → IsEncodable raw → is_run instr.code ≡ true → plain_code raw ≡ plain
    → IsCode v n forms raw plain instr.code → IsWritten instr
code_is_written v n forms raw instr None offset next encodable run e is = token_written v n raw instr (operand_at v raw) offset next run (named_five v raw _ encodable) is
code_is_written v n forms raw instr (Some plain) offset next encodable run e is =
    plain_written raw instr plain offset next encodable e (not_barred (is_barred forms plain) instr.code plain raw.opcode run is)

instrs_written : (v : View) (n : Numbering) (forms : Forms) (raws : List RawInstr) (instrs : List Instr) → AllZip (IsInstr v n forms) raws instrs → AllByRecursion IsEncodable raws → AllByRecursion (λ instr. is_run instr.code ≡ true) instrs
    → AllByRecursion IsWritten instrs
instrs_written v n forms [] [] are encodable run = tt
instrs_written v n forms [] (i ∷ instrs) are encodable run = absurd are
instrs_written v n forms (raw ∷ raws) [] are encodable run = absurd are
instrs_written v n forms (raw ∷ raws) (i ∷ instrs) are encodable run = (
  code_is_written v n forms raw i (plain_code raw) are.0.offset are.0.next encodable.0 run.0 refl are.0.code,
  instrs_written v n forms raws instrs are.1 encodable.1 run.1,
)

pub raws_are : (p : Program) → IsLinked p → RunsWhole p → AllByRecursion (λ (method : Method). AllByRecursion (λ (instr : Instr). HasRaw (token_opcode instr.code) instr) method.code) p.methods
raws_are p l runs =
    each_at_place (λ (method : Method). AllByRecursion IsWritten method.code) p.methods
    (λ number method at.
    let m = has_row l number method at in
    let run = each_at (λ (made : Method). AllByRecursion (λ instr. is_run instr.code ≡ true) made.code) p.methods runs number method at in
    instrs_written l.assembly.v (numbering_of l.assembly.reads) (forms_of l.assembly.v m.is.sig m.whole.locals) m.whole.body.code method.code m.is.code (code_written l m.row m.whole m.body) run)
