-- A body is read where its bytes stand.
use Rattle.std.proofs.Common.{◌≡◌, ◌≢◌, ℕ, ◌+◌, ◌-◌, ◌*◌, ◌/◌, ◌%◌, ◌^◌, ◌<◌, ◌≤◌, List, [], ◌∷◌, ◌++◌, length, take, drop, Option, None, Result, Ok, Err, Bool, true, false, refl, sym, ap, ◌∙◌, arith, append_assoc, length-append}
use Rattle.std.specs.Prelude.{slice_index, ◌==◌, if◌then◌else◌}
use Rattle.std.specs.List.{All, AllByRecursion, flat_map, list_all}
use Rattle.std.proofs.lemmas.Bool.{le-ltb, ne_eqb}
use Rattle.std.proofs.lemmas.List.{length-replicate}
use Rattle.std.proofs.Math.Seq.{take-append_seam}
use Rattle.px_code.specs.Reading.{PlacedFault}
use Rattle.px_reading.specs.Reading.{◌>>=◌}
use Rattle.px_code.specs.Body.{aligned, body_of, checked, clauses_of, end_of, fat_code, fat_header, first_bad, header_of, instrs_from, is_placed, made_of, number_at, sections_from, tiny_code, Follow, Header, IsFormed}
use Rattle.px_code.specs.declared.body.BodyKind.TheVariants.{BadHeader}
use Rattle.px_code.specs.declared.body.RawInstr.{RawInstr}
use Rattle.px_code.specs.declared.body.RawClause.{RawClause}
use Rattle.px_code.specs.declared.body.Body.{Body}
use Rattle.px_asm_bodies.specs.Bytes.{body_bytes, clause_bytes, code_bytes, has_clauses, header_bytes, header_flags, instr_bytes, little_bytes, section_bytes, zeros_behind}
use Rattle.px_asm_bodies.specs.Encoding.{IsEncodable}
use Rattle.px_asm_bodies.specs.Parts.{FitsHeader, IsNarrow}
use Rattle.px_asm_bodies.proofs.Little.{behind_is, ends_inside, length-little, number_is}
use Rattle.px_asm_bodies.proofs.Reading.{instrs_end, instrs_many, instrs_read}
use Rattle.px_asm_bodies.proofs.Clauses.{length-clauses, section_read}

-- HEADERS

form : (more init : Bool) → (header_flags more init % 4 == 3) ≡ true
form true true = refl
form true false = refl
form false true = refl
form false false = refl

bit_of_locals : (more init : Bool) → ((header_flags more init / 16) % 2 == 1) ≡ init
bit_of_locals true true = refl
bit_of_locals true false = refl
bit_of_locals false true = refl
bit_of_locals false false = refl

bit_of_sections : (more init : Bool) → ((header_flags more init / 8) % 2 == 1) ≡ more
bit_of_sections true true = refl
bit_of_sections true false = refl
bit_of_sections false true = refl
bit_of_sections false false = refl

-- the numbers of a header, which stand behind its flags
abbrev numbers : ℕ → ℕ → ℕ → List ℕ
numbers max_stack size token = little_bytes 2 max_stack ++ (little_bytes 4 size ++ little_bytes 4 token)

same_header : (h : Header) (max_stack : ℕ) (init : Bool) (token : ℕ) (code : List ℕ) (more : Bool) → max_stack ≡ h.max_stack → init ≡ h.init_locals → token ≡ h.locals_token → 12 ≡ h.base
    → code ≡ h.code → more ≡ h.more → record { max_stack = max_stack; init_locals = init; locals_token = token; base = 12; code = code; more = more } ≡ h
same_header h max_stack init token code more a b c d e f = rw (a, b, c, d, e, f) refl

fat_read : (bytes rest : List ℕ) (h : Header) → slice_index bytes 0 ≡ header_flags h.more h.init_locals → slice_index bytes 1 ≡ 0x30
    → drop 2 bytes ≡ numbers h.max_stack (length h.code) h.locals_token ++ (h.code ++ rest) → 2 ≤ length bytes → h.max_stack < 2 ^ 16 → length h.code < 2 ^ 32 → h.locals_token < 2 ^ 32
    → 12 ≡ h.base → 0 < length h.code → fat_code bytes ≡ Ok h
fat_read bytes rest h first second there before stack_small size_small token_small base some =
    let size = length h.code in
    let a = little_bytes 2 h.max_stack in
    let b = little_bytes 4 size in
    let c = little_bytes 4 h.locals_token in
    let tail = h.code ++ rest in
    let at2 : drop 2 bytes ≡ a ++ (b ++ (c ++ tail)) = there ∙ append_assoc a (b ++ c) tail ∙ ap (λ l. a ++ l) (append_assoc b c tail) in
    let at4 : drop 4 bytes ≡ b ++ (c ++ tail) = behind_is 2 2 bytes a (b ++ (c ++ tail)) at2 (sym (length-little 2 h.max_stack)) in
    let in4 : 4 ≤ length bytes = ends_inside 2 2 bytes a (b ++ (c ++ tail)) at2 (sym (length-little 2 h.max_stack)) before in
    let at8 : drop 8 bytes ≡ c ++ tail = behind_is 4 4 bytes b (c ++ tail) at4 (sym (length-little 4 size)) in
    let in8 : 8 ≤ length bytes = ends_inside 4 4 bytes b (c ++ tail) at4 (sym (length-little 4 size)) in4 in
    let at12 : drop 12 bytes ≡ tail = behind_is 8 4 bytes c tail at8 (sym (length-little 4 h.locals_token)) in
    let in12 : 12 ≤ length bytes = ends_inside 8 4 bytes c tail at8 (sym (length-little 4 h.locals_token)) in8 in
    let ends : 12 + size ≤ length bytes = ends_inside 12 size bytes h.code rest at12 refl in12 in
    let sized : number_at bytes 4 4 ≡ size = number_is bytes 4 4 size (c ++ tail) at4 size_small in
    let filled : (size == 0) ≡ false = ne_eqb size 0 (λ e. omega (arith, e)) in
    let code : take size (drop 12 bytes) ≡ h.code = ap (take size) at12 ∙ take-append_seam h.code rest in
    let made : fat_header bytes size ≡ h =
    same_header h _ _ _ _ _ (number_is bytes 2 2 h.max_stack (b ++ (c ++ tail)) at2 stack_small)
    (ap (λ n. (n / 16) % 2 == 1) first ∙ bit_of_locals h.more h.init_locals) (number_is bytes 8 4 h.locals_token tail at8 token_small) base code
    (ap (λ n. (n / 8) % 2 == 1) first ∙ bit_of_sections h.more h.init_locals) in
    rw (le-ltb (length bytes) 12 in12, sized, second, filled, le-ltb (length bytes) (12 + size) ends) (ap (λ g. Ok g) made)

header_read : (xs rest : List ℕ) (h : Header) → xs ≡ 0x30 ∷ (numbers h.max_stack (length h.code) h.locals_token ++ (h.code ++ rest)) → h.max_stack < 2 ^ 16 → length h.code < 2 ^ 32
    → h.locals_token < 2 ^ 32 → 12 ≡ h.base → 0 < length h.code → header_of (header_flags h.more h.init_locals ∷ xs) ≡ Ok h
header_read xs rest h are stack_small size_small token_small base some =
    let flags = header_flags h.more h.init_locals in
    let tail = numbers h.max_stack (length h.code) h.locals_token ++ (h.code ++ rest) in
    let read : fat_code (flags ∷ 0x30 ∷ tail) ≡ Ok h = fat_read (flags ∷ 0x30 ∷ tail) rest h refl refl refl (omega arith) stack_small size_small token_small base some in
    let form3 : (flags % 4 == 3) ≡ true = form h.more h.init_locals in
    ap (λ (ys : List ℕ). header_of (flags ∷ ys)) are
    ∙ ap (λ (b : Bool). if b then fat_code (flags ∷ 0x30 ∷ tail) else if flags % 4 == 2 then tiny_code (flags ∷ 0x30 ∷ tail) (flags / 4) else Err (BadHeader, 0)) form3
    ∙ read

-- CODE

size_is : (instrs : List RawInstr) → instrs ≢ [] → Follow 0 instrs → AllByRecursion IsEncodable instrs → length (flat_map instr_bytes instrs) ≡ end_of instrs
size_is [] some follow can = absurd (some refl)
size_is (i ∷ rest) some follow can = omega (arith, instrs_end 0 i rest follow can)

some_bytes : (instrs : List RawInstr) → instrs ≢ [] → Follow 0 instrs → AllByRecursion IsEncodable instrs → 0 < length (flat_map instr_bytes instrs)
some_bytes [] some follow can = absurd (some refl)
some_bytes (i ∷ rest) some follow can = omega (arith, instrs_many 0 (i ∷ rest) follow can)

-- SECTIONS

aligned_behind : (size : ℕ) → aligned (12 + size) ≡ 12 + size + (aligned size - size)
aligned_behind size = omega arith

sections_read : (h : Header) (instrs : List RawInstr) (clauses : List RawClause) (bytes rest : List ℕ) → h.more ≡ has_clauses clauses → 12 ≡ h.base
    → list_all (is_placed instrs) clauses ≡ true → All IsNarrow clauses → length clauses ≤ 699050
    → drop 12 bytes ≡ h.code ++ (zeros_behind (length h.code) ++ (section_bytes clauses ++ rest)) → 12 ≤ length bytes → clauses_of h instrs bytes ≡ Ok clauses
sections_read h instrs [] bytes rest more base placed narrow few there before = rw more refl
sections_read h instrs (clause ∷ clauses) bytes rest more base placed narrow few there before =
    let size = length h.code in
    let zeros = zeros_behind size in
    let tail = section_bytes (clause ∷ clauses) ++ rest in
    let padded : aligned size - size ≡ length zeros = sym (length-replicate {A = ℕ} (aligned size - size) 0) in
    let one : drop (12 + size) bytes ≡ zeros ++ tail = behind_is 12 size bytes h.code (zeros ++ tail) there refl in
    let one_in : 12 + size ≤ length bytes = ends_inside 12 size bytes h.code (zeros ++ tail) there refl before in
    let two : drop (12 + size + (aligned size - size)) bytes ≡ tail = behind_is (12 + size) (aligned size - size) bytes zeros tail one padded in
    let two_in : 12 + size + (aligned size - size) ≤ length bytes = ends_inside (12 + size) (aligned size - size) bytes zeros tail one padded one_in in
    let place : aligned (h.base + size) ≡ 12 + size + (aligned size - size) = ap (λ n. aligned (n + size)) (sym base) ∙ aligned_behind size in
    let read = section_read (length bytes) instrs clause clauses bytes rest (12 + size + (aligned size - size)) (omega arith) placed narrow few two two_in in
    rw more (ap (sections_from (length bytes) instrs bytes) place ∙ read)

-- BODIES

-- what the header of a body says
abbrev header : Body → Header
header body = record { max_stack = body.max_stack; init_locals = body.init_locals; locals_token = body.locals_token; base = 12; code = flat_map instr_bytes body.code; more = has_clauses body.clauses }

body_by : (bytes : List ℕ) (h : Header) (instrs : List RawInstr) (clauses : List RawClause) → header_of bytes ≡ Ok h → instrs_from (length h.code) h.base h.code 0 ≡ Ok instrs → first_bad instrs ≡ None
    → clauses_of h instrs bytes ≡ Ok clauses → body_of bytes ≡ Ok (made_of h instrs clauses)
unfolding body_of
body_by bytes h instrs clauses a b c d =
    ap (λ (r : Result Header PlacedFault). r >>= (λ h. instrs_from (length h.code) h.base h.code 0 >>= (λ instrs. checked h instrs (first_bad instrs) bytes))) a
    ∙ ap (λ (r : Result (List RawInstr) PlacedFault). r >>= (λ instrs. checked h instrs (first_bad instrs) bytes)) b
    ∙ ap (λ (o : Option RawInstr). checked h instrs o bytes) c
    ∙ ap (λ (r : Result (List RawClause) PlacedFault). r >>= (λ clauses. Ok (made_of h instrs clauses))) d

-- the parts of a body one after the other, and what follows
abbrev tail_of : Body → List ℕ → List ℕ
tail_of body rest = zeros_behind (length (flat_map instr_bytes body.code)) ++ (section_bytes body.clauses ++ rest)

parts : (body : Body) (rest : List ℕ) → body_bytes body ++ rest
    ≡ header_flags (has_clauses body.clauses) body.init_locals ∷ 0x30 ∷ (numbers body.max_stack (end_of body.code) body.locals_token ++ (flat_map instr_bytes body.code ++ tail_of body rest))
unfolding body_bytes header_bytes code_bytes
parts body rest = simp append_assoc

pub body_read : (body : Body) (rest : List ℕ) → IsFormed body → AllByRecursion IsEncodable body.code → FitsHeader body → All IsNarrow body.clauses → length body.clauses ≤ 699050
    → body_of (body_bytes body ++ rest) ≡ Ok body
body_read body rest formed can fits narrow few =
    let h = header body in
    let instrs = body.code in
    let code = flat_map instr_bytes instrs in
    let size : length code ≡ end_of instrs = size_is instrs formed.some formed.follow can in
    let some : 0 < length code = some_bytes instrs formed.some formed.follow can in
    let small : length code < 2 ^ 32 = omega (arith, size, fits.end) in
    let flags = header_flags (has_clauses body.clauses) body.init_locals in
    let tail = numbers body.max_stack (length code) body.locals_token ++ (code ++ tail_of body rest) in
    let bytes = flags ∷ 0x30 ∷ tail in
    let are : body_bytes body ++ rest ≡ bytes = parts body rest ∙ ap (λ n. flags ∷ 0x30 ∷ (numbers body.max_stack n body.locals_token ++ (code ++ tail_of body rest))) (sym size) in
    let front : 10 ≡ length (numbers body.max_stack (length code) body.locals_token) =
    omega (
      arith,
      length-append (little_bytes 2 body.max_stack) (little_bytes 4 (length code) ++ little_bytes 4 body.locals_token),
      length-append (little_bytes 4 (length code)) (little_bytes 4 body.locals_token),
      length-little 2 body.max_stack,
      length-little 4 (length code),
      length-little 4 body.locals_token,
    ) in
    let behind : drop 12 bytes ≡ code ++ tail_of body rest = behind_is 2 10 bytes (numbers body.max_stack (length code) body.locals_token) (code ++ tail_of body rest) refl front in
    let inside : 12 ≤ length bytes = ends_inside 2 10 bytes (numbers body.max_stack (length code) body.locals_token) (code ++ tail_of body rest) refl front (omega arith) in
    let headed : header_of bytes ≡ Ok h = header_read (0x30 ∷ tail) (tail_of body rest) h refl fits.max_stack small fits.locals_token refl some in
    let read : instrs_from (length code) 12 code 0 ≡ Ok instrs = instrs_read (length code) 12 code 0 instrs formed.follow can small refl (omega arith) (instrs_many 0 instrs formed.follow can) in
    let sections : clauses_of h instrs bytes ≡ Ok body.clauses = sections_read h instrs body.clauses bytes rest refl refl formed.ranges narrow few behind inside in
    ap body_of are ∙ body_by bytes h instrs body.clauses headed read formed.lead sections

-- SIZES

length-header : (body : Body) → length (header_bytes body) ≡ 12
unfolding header_bytes
length-header body =
    omega (
      arith,
      length-append (little_bytes 2 body.max_stack) (little_bytes 4 (end_of body.code) ++ little_bytes 4 body.locals_token),
      length-append (little_bytes 4 (end_of body.code)) (little_bytes 4 body.locals_token),
      length-little 2 body.max_stack,
      length-little 4 (end_of body.code),
      length-little 4 body.locals_token,
    )

length-code : (instrs : List RawInstr) → length (code_bytes instrs) % 4 ≡ 0
unfolding code_bytes
length-code instrs =
    let size = length (flat_map instr_bytes instrs) in
    omega (arith, length-append (flat_map instr_bytes instrs) (zeros_behind size), length-replicate {A = ℕ} (aligned size - size) 0)

length-section : (clauses : List RawClause) → length (section_bytes clauses) % 4 ≡ 0
unfolding section_bytes
length-section [] = refl
length-section (clause ∷ clauses) =
    let size = 4 + 24 * length (clause ∷ clauses) in
    omega (arith, length-append (little_bytes 3 size) (flat_map clause_bytes (clause ∷ clauses)), length-little 3 size, length-clauses (clause ∷ clauses))

pub header_aligned : (v0 v1 : List ℕ) (body : Body) → v0 ≡ [] → v1 ≡ v0 ++ header_bytes body → length v1 % 4 ≡ 0
header_aligned v0 v1 body a b = omega (arith, ap (length {A = ℕ}) a, ap (length {A = ℕ}) b, length-append v0 (header_bytes body), length-header body)

-- the parts that were pushed are the bytes of the body
pub body_pushed : (body : Body) (v0 v1 v2 v3 : List ℕ) → v0 ≡ [] → v1 ≡ v0 ++ header_bytes body → v2 ≡ v1 ++ code_bytes body.code → v3 ≡ v2 ++ section_bytes body.clauses → v3 ≡ body_bytes body
unfolding body_bytes
body_pushed body v0 v1 v2 v3 a b c d = rw (d, c, b, a) (append_assoc (header_bytes body) (code_bytes body.code) (section_bytes body.clauses))

pub body_aligned : (body : Body) → length (body_bytes body) % 4 ≡ 0
unfolding body_bytes
body_aligned body =
    omega (
      arith,
      length-append (header_bytes body) (code_bytes body.code ++ section_bytes body.clauses),
      length-append (code_bytes body.code) (section_bytes body.clauses),
      length-header body,
      length-code body.code,
      length-section body.clauses,
    )
