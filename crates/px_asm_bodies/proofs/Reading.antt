-- Instructions are read where their bytes stand.
use Rattle.std.proofs.Common.{◌≡◌, ℕ, zero, suc, ◌+◌, ◌*◌, ◌%◌, ◌^◌, ◌<◌, ◌≤◌, List, [], ◌∷◌, ◌++◌, length, get_or, drop, Option, Some, None, Ok, true, false, ◌⊎◌, inl, inr, refl, sym, ap, ◌∙◌, arith, append_assoc, append-nil, length-append, length-drop, add-zero}
use Rattle.std.specs.Prelude.{nat_le, slice_index, ◌==◌}
use Rattle.std.specs.List.{AllByRecursion, flat_map}
use Rattle.std.proofs.lemmas.Bool.{cases_lt, le-ltb, lt-ltb}
use Rattle.std.proofs.lemmas.Bool.Decides.{nat_tests}
use Rattle.std.proofs.lemmas.List.{get_or-drop}
use Rattle.px_code.specs.Body.{behind, end_of, instr_at, instr_by, instr_of, instrs_from, number_at, operand_of, target_of, targets_at, within, Follow, Position}
use Rattle.px_code.specs.declared.body.Operand.{Operand}
use Rattle.px_code.specs.declared.body.Operand.TheVariants.{Number, Target, Switch}
use Rattle.px_code.specs.declared.body.RawInstr.{RawInstr}
use Rattle.px_asm_bodies.specs.Bytes.{distance, distances_bytes, instr_bytes, little_bytes, opcode_bytes, operand_bytes}
use Rattle.px_asm_bodies.specs.Encoding.{is_opcode, opcode_size, HasOperand, IsEncodable, LeadsTo}
use Rattle.px_asm_bodies.proofs.Little.{behind_is, ends_inside, length-little, number_is}
use Rattle.px_asm_bodies.proofs.Operands.{kind_of, IsKind}

-- TARGETS

short_distance : (next operand : ℕ) → next < 2 ^ 32 → operand < 256 → distance next (target_of next 1 operand) % 256 ≡ operand
short_distance next operand near small = elim (cases_lt operand 128) [
  | inl ahead ↦ rw (lt-ltb operand 128 ahead) (omega arith)
  | inr back ↦ rw (le-ltb operand 128 back) (omega arith)
]

long_distance : (next operand : ℕ) → next < 2 ^ 32 → operand < 2 ^ 32 → distance next (target_of next 4 operand) ≡ operand
long_distance next operand near small = elim (cases_lt operand (2 ^ 31)) [
  | inl ahead ↦ rw (lt-ltb operand (2 ^ 31) ahead) (omega arith)
  | inr back ↦ rw (le-ltb operand (2 ^ 31) back) (omega arith)
]

one_byte : (n m : ℕ) → m < 256 → n % 256 ≡ m → little_bytes 1 n ≡ little_bytes 1 m
unfolding little_bytes
one_byte n m small is = let e : n % 256 ≡ m % 256 = omega arith in ap (λ b. b ∷ []) e

-- the low bytes of a distance are those of the number that leads to the target
distance_is : (next size target : ℕ) (l : LeadsTo next size target) → (size ≡ 1) ⊎ (size ≡ 4) → next < 2 ^ 32 → little_bytes size (distance next target) ≡ little_bytes size l.operand
distance_is next size target l (inl one) near =
    let fits : l.operand < 256 = omega (arith, rw one at l.fits) in
    let leads : target_of next 1 l.operand ≡ target = rw one at l.leads in
    rw one (one_byte (distance next target) l.operand fits (ap (λ t. distance next t % 256) (sym leads) ∙ short_distance next l.operand near fits))
distance_is next size target l (inr four) near =
    let fits : l.operand < 2 ^ 32 = omega (arith, rw four at l.fits) in
    let leads : target_of next 4 l.operand ≡ target = rw four at l.leads in
    rw four (ap (little_bytes 4) (ap (distance next) (sym leads) ∙ long_distance next l.operand near fits))

-- a target by the number that leads to it
target_read : (next at size target : ℕ) (code rest : List ℕ) → LeadsTo next size target → (size ≡ 1) ⊎ (size ≡ 4) → next < 2 ^ 32
    → drop at code ≡ little_bytes size (distance next target) ++ rest → target_of next size (number_at code at size) ≡ target
target_read next at size target code rest l sizes near there =
    let stands : drop at code ≡ little_bytes size l.operand ++ rest = there ∙ ap (λ bytes. bytes ++ rest) (distance_is next size target l sizes near) in
    ap (target_of next size) (number_is code at size l.operand rest stands l.fits) ∙ l.leads

length-distances : (next : ℕ) (targets : List ℕ) → length (distances_bytes next 4 targets) ≡ 4 * length targets
unfolding distances_bytes
length-distances next [] = refl
length-distances next (target ∷ targets) =
    let bytes = little_bytes 4 (distance next target) in
    omega (arith, length-append bytes (flat_map (λ t. little_bytes 4 (distance next t)) targets), length-little 4 (distance next target), length-distances next targets)

-- the targets of a switch
targets_read : (next : ℕ) (targets code rest : List ℕ) (at : ℕ) → AllByRecursion (LeadsTo next 4) targets → next < 2 ^ 32 → drop at code ≡ distances_bytes next 4 targets ++ rest
    → targets_at next code at (length targets) ≡ targets
unfolding distances_bytes
targets_read next [] code rest at lead near there = refl
targets_read next (target ∷ targets) code rest at lead near there =
    let bytes = little_bytes 4 (distance next target) in
    let more = distances_bytes next 4 targets in
    let stands : drop at code ≡ bytes ++ (more ++ rest) = there ∙ append_assoc bytes more rest in
    let first : target_of next 4 (number_at code at 4) ≡ target = target_read next at 4 target code (more ++ rest) lead.0 (inr refl) near stands in
    let others : targets_at next code (at + 4) (length targets) ≡ targets =
    targets_read next targets code rest (at + 4) lead.1 near (behind_is at 4 code bytes (more ++ rest) stands (sym (length-little 4 (distance next target)))) in
    rw (first, others) refl

-- OPERANDS

same_instr : (raw : RawInstr) (offset next opcode operand : ℕ) (targets : List ℕ) → offset ≡ raw.offset → next ≡ raw.next → opcode ≡ raw.opcode → operand ≡ raw.operand → targets ≡ raw.targets
    → record { offset = offset; next = next; opcode = opcode; operand = operand; targets = targets } ≡ raw
same_instr raw offset next opcode operand targets a b c d e = rw (a, b, c, d, e) refl

-- where an instruction stands
record Stands (p : Position) (raw : RawInstr) : Type 0 where
  at : p.at ≡ raw.offset
  opcode : p.opcode ≡ raw.opcode
  size : p.size ≡ opcode_size raw.opcode

within_is : (p : Position) (code : List ℕ) (size : ℕ) (made raw : RawInstr) → behind p + size ≤ length code → made ≡ raw
    → within p code size made ≡ Ok raw
within_is p code size made raw inside is = rw (le-ltb (length code) (behind p + size) inside) (ap (λ i. Ok i) is)

one_target : (next size target : ℕ) → distances_bytes next size (target ∷ []) ≡ little_bytes size (distance next target)
unfolding distances_bytes
one_target next size target = append-nil (little_bytes size (distance next target))

operand_read : (o : Option Operand) (p : Position) (code rest : List ℕ) (raw : RawInstr) → HasOperand o raw → IsKind raw.opcode o → Stands p raw → raw.next < 2 ^ 32
    → drop (behind p) code ≡ operand_bytes o raw ++ rest → behind p ≤ length code → instr_of o p code ≡ Ok raw
operand_read None p code rest raw has kind stands near there before = absurd has
operand_read (Some (Number size)) p code rest raw has kind stands near there before =
    let inside = ends_inside (behind p) size code (little_bytes size raw.operand) rest there (sym (length-little size raw.operand)) before in
    let next : behind p + size ≡ raw.next = omega (arith, has.size_is, stands.at, stands.size) in
    within_is p code size _ raw inside
    (same_instr raw p.at (behind p + size) p.opcode (number_at code (behind p) size) [] stands.at next stands.opcode (number_is code (behind p) size raw.operand rest there has.fits) (sym has.no_targets))
operand_read (Some (Target size)) p code rest raw has kind stands near there before =
    let next : behind p + size ≡ raw.next = omega (arith, has.size_is, stands.at, stands.size) in
    let bytes = little_bytes size (distance raw.next has.target) in
    let here : drop (behind p) code ≡ bytes ++ rest = there ∙ ap (λ ts. distances_bytes raw.next size ts ++ rest) has.is ∙ ap (λ b. b ++ rest) (one_target raw.next size has.target) in
    let inside = ends_inside (behind p) size code bytes rest here (sym (length-little size (distance raw.next has.target))) before in
    let leads : target_of (behind p + size) size (number_at code (behind p) size) ≡ has.target =
    ap (λ n. target_of n size (number_at code (behind p) size)) next ∙ target_read raw.next (behind p) size has.target code rest has.leads kind near here in
    within_is p code size _ raw inside
    (same_instr raw p.at (behind p + size) p.opcode 0 (target_of (behind p + size) size (number_at code (behind p) size) ∷ []) stands.at next stands.opcode (sym has.no_number) (ap (λ t. t ∷ []) leads ∙ sym has.is))
operand_read (Some Switch) p code rest raw has kind stands near there before =
    let count = length raw.targets in
    let size = 4 + 4 * count in
    let bytes = little_bytes 4 count in
    let more = distances_bytes raw.next 4 raw.targets in
    let next : behind p + size ≡ raw.next = omega (arith, has.size_is, stands.at, stands.size) in
    let few : count < 256 ^ 4 = omega (arith, has.few) in
    let here : drop (behind p) code ≡ bytes ++ (more ++ rest) = there ∙ append_assoc bytes more rest in
    let four : behind p + 4 ≤ length code = ends_inside (behind p) 4 code bytes (more ++ rest) here (sym (length-little 4 count)) before in
    let later : drop (behind p + 4) code ≡ more ++ rest = behind_is (behind p) 4 code bytes (more ++ rest) here (sym (length-little 4 count)) in
    let inside : behind p + 4 + 4 * count ≤ length code = ends_inside (behind p + 4) (4 * count) code more rest later (sym (length-distances raw.next raw.targets)) four in
    let counted : number_at code (behind p) 4 ≡ count = number_is code (behind p) 4 count (more ++ rest) here few in
    let targets : targets_at (behind p + size) code (behind p + 4) count ≡ raw.targets =
    ap (λ n. targets_at n code (behind p + 4) count) next ∙ targets_read raw.next raw.targets code rest (behind p + 4) has.lead near later in
    rw (le-ltb (length code) (behind p + 4) four, counted)
    (within_is p code size _ raw (omega arith)
    (same_instr raw p.at (behind p + size) p.opcode 0 (targets_at (behind p + size) code (behind p + 4) count) stands.at next stands.opcode (sym has.no_number) targets))

-- INSTRUCTIONS

-- the byte at a place
pub byte_there : (code rest : List ℕ) (at byte : ℕ) → drop at code ≡ byte ∷ rest → slice_index code at ≡ byte
byte_there code rest at byte there = ap (λ n. get_or code n 0) (sym (add-zero at)) ∙ sym (get_or-drop at code 0 0) ∙ ap (λ l. get_or l 0 0) there

instr_by_read : (base : ℕ) (code rest : List ℕ) (at opcode size : ℕ) (raw : RawInstr) → IsEncodable raw → at ≡ raw.offset → opcode ≡ raw.opcode → size ≡ opcode_size raw.opcode
    → raw.next < 2 ^ 32 → drop (at + size) code ≡ operand_bytes (operand_of raw.opcode) raw ++ rest → at + size ≤ length code → instr_by base code at opcode size ≡ Ok raw
instr_by_read base code rest at opcode size raw can here is sized near there before =
    ap (λ o. instr_of o (record { base = base; at = at; opcode = opcode; size = size }) code) (ap operand_of is)
    ∙ operand_read (operand_of raw.opcode) (record { base = base; at = at; opcode = opcode; size = size }) code rest raw can.operand (kind_of raw.opcode)
    (record { at = here; opcode = is; size = sized }) near there before

other_byte : (n : ℕ) → n < 256 → is_opcode n ≡ true → (n == 0xFE) ≡ false
other_byte n small known = grind (arith, nat_tests)

second_byte : (n : ℕ) → 256 ≤ n → is_opcode n ≡ true → 0xFE00 + n % 0x100 ≡ n
second_byte n large known = let range : (0xFE00 ≤ n) × (n ≤ 0xFEFF) = grind (arith, nat_tests) in omega (arith, range)

short_read : (base : ℕ) (code rest : List ℕ) (raw : RawInstr) → IsEncodable raw → raw.opcode < 256 → raw.next < 2 ^ 32 → drop raw.offset code ≡ instr_bytes raw ++ rest → raw.offset ≤ length code
    → instr_at base code raw.offset ≡ Ok raw
unfolding instr_bytes instr_at
short_read base code rest raw can small near there before =
    let at = raw.offset in
    let operand = operand_bytes (operand_of raw.opcode) raw in
    let one : opcode_bytes raw.opcode ≡ raw.opcode ∷ [] = rw (lt-ltb raw.opcode 256 small) refl in
    let here : drop at code ≡ raw.opcode ∷ (operand ++ rest) = there ∙ ap (λ b. (b ++ operand) ++ rest) one in
    let byte = byte_there code (operand ++ rest) at raw.opcode here in
    let sized : 1 ≡ opcode_size raw.opcode = rw (lt-ltb raw.opcode 256 small) refl in
    let later : drop (at + 1) code ≡ operand ++ rest = behind_is at 1 code (raw.opcode ∷ []) (operand ++ rest) here refl in
    let ends : at + 1 ≤ length code = ends_inside at 1 code (raw.opcode ∷ []) (operand ++ rest) here refl before in
    rw (byte, other_byte raw.opcode small can.opcode) (instr_by_read base code rest at raw.opcode 1 raw can refl refl sized near later ends)

long_read : (base : ℕ) (code rest : List ℕ) (raw : RawInstr) → IsEncodable raw → 256 ≤ raw.opcode → raw.next < 2 ^ 32 → drop raw.offset code ≡ instr_bytes raw ++ rest → raw.offset ≤ length code
    → instr_at base code raw.offset ≡ Ok raw
unfolding instr_bytes instr_at
long_read base code rest raw can large near there before =
    let at = raw.offset in
    let operand = operand_bytes (operand_of raw.opcode) raw in
    let low = raw.opcode % 0x100 in
    let two : opcode_bytes raw.opcode ≡ 0xFE ∷ low ∷ [] = rw (le-ltb raw.opcode 256 large) refl in
    let here : drop at code ≡ 0xFE ∷ low ∷ (operand ++ rest) = there ∙ ap (λ b. (b ++ operand) ++ rest) two in
    let byte : slice_index code at ≡ 0xFE = byte_there code (low ∷ (operand ++ rest)) at 0xFE here in
    let next : drop (at + 1) code ≡ low ∷ (operand ++ rest) = behind_is at 1 code (0xFE ∷ []) (low ∷ (operand ++ rest)) here refl in
    let byte2 : slice_index code (at + 1) ≡ low = byte_there code (operand ++ rest) (at + 1) low next in
    let sized : 2 ≡ opcode_size raw.opcode = rw (le-ltb raw.opcode 256 large) refl in
    let later : drop (at + 2) code ≡ operand ++ rest = behind_is at 2 code (0xFE ∷ low ∷ []) (operand ++ rest) here refl in
    let ends : at + 2 ≤ length code = ends_inside at 2 code (0xFE ∷ low ∷ []) (operand ++ rest) here refl before in
    let more : nat_le (length code) (at + 1) ≡ false = grind (arith, nat_tests) in
    rw (byte, more, byte2) (instr_by_read base code rest at (0xFE00 + low) 2 raw can refl (second_byte raw.opcode large can.opcode) sized near later ends)

-- the instruction that stands at an offset
pub instr_read : (base : ℕ) (code rest : List ℕ) (raw : RawInstr) → IsEncodable raw → raw.next < 2 ^ 32 → drop raw.offset code ≡ instr_bytes raw ++ rest → raw.offset ≤ length code
    → instr_at base code raw.offset ≡ Ok raw
instr_read base code rest raw can near there before = elim (cases_lt raw.opcode 256) [
  | inl small ↦ short_read base code rest raw can small near there before
  | inr large ↦ long_read base code rest raw can large near there before
]

length-opcode : (n : ℕ) → length (opcode_bytes n) ≡ opcode_size n
length-opcode n = elim (cases_lt n 256) [
  | inl small ↦ rw (lt-ltb n 256 small) refl
  | inr large ↦ rw (le-ltb n 256 large) refl
]

operand_ends : (o : Option Operand) (raw : RawInstr) → HasOperand o raw → raw.offset + (opcode_size raw.opcode + length (operand_bytes o raw)) ≡ raw.next
operand_ends None raw has = absurd has
operand_ends (Some (Number size)) raw has = omega (arith, has.size_is, length-little size raw.operand)
operand_ends (Some (Target size)) raw has =
    let len : length (distances_bytes raw.next size raw.targets) ≡ size =
    ap (λ ts. length (distances_bytes raw.next size ts)) has.is ∙ ap (length {A = ℕ}) (one_target raw.next size has.target) ∙ length-little size (distance raw.next has.target) in
    omega (arith, has.size_is, len)
operand_ends (Some Switch) raw has =
    omega (arith, has.size_is, length-append (little_bytes 4 (length raw.targets)) (distances_bytes raw.next 4 raw.targets), length-little 4 (length raw.targets), length-distances raw.next raw.targets)

-- the bytes of an instruction end where the next one starts
pub instr_ends : (raw : RawInstr) → IsEncodable raw → raw.offset + length (instr_bytes raw) ≡ raw.next
unfolding instr_bytes
instr_ends raw can =
    omega (arith, length-append (opcode_bytes raw.opcode) (operand_bytes (operand_of raw.opcode) raw), length-opcode raw.opcode, operand_ends (operand_of raw.opcode) raw can.operand)

-- ALL INSTRUCTIONS

none_left : (n base : ℕ) (code : List ℕ) (at : ℕ) → length code ≤ at → instrs_from n base code at ≡ Ok []
unfolding instrs_from
none_left zero base code at past = refl
none_left (suc n) base code at past = rw (le-ltb at (length code) past) refl

-- the instructions that stand from an offset on to the end of the code
pub instrs_read : (n base : ℕ) (code : List ℕ) (at : ℕ) (instrs : List RawInstr) → Follow at instrs → AllByRecursion IsEncodable instrs → length code < 2 ^ 32
    → drop at code ≡ flat_map instr_bytes instrs → at ≤ length code → length instrs ≤ n → instrs_from n base code at ≡ Ok instrs
unfolding instrs_from
instrs_read n base code at [] follow can small there before room =
    none_left n base code at (omega (arith, length-drop at code, ap (length {A = ℕ}) there))
instrs_read zero base code at (i ∷ rest) follow can small there before room = absurd (omega arith)
instrs_read (suc n) base code at (i ∷ rest) follow can small there before room =
    let bytes = instr_bytes i in
    let more = flat_map instr_bytes rest in
    let ends : i.offset + length bytes ≡ i.next = instr_ends i can.0 in
    let len : at + length bytes ≤ length code = ends_inside at (length bytes) code bytes more there refl before in
    let next : at + length bytes ≡ i.next = omega (arith, ends, follow.0) in
    let near : i.next < 2 ^ 32 = omega (arith, next, len, small) in
    let here : drop i.offset code ≡ bytes ++ more = ap (λ n. drop n code) follow.0 ∙ there in
    let read : instr_at base code at ≡ Ok i = ap (instr_at base code) (sym follow.0) ∙ instr_read base code more i can.0 near here (omega (arith, follow.0)) in
    let later : drop i.next code ≡ more = ap (λ n. drop n code) (sym next) ∙ behind_is at (length bytes) code bytes more there refl in
    let others : instrs_from n base code i.next ≡ Ok rest = instrs_read n base code i.next rest follow.2 can.1 small later (omega (arith, next, len)) (omega arith) in
    let less : at < length code = omega (arith, follow.1, next, len) in
    rw (lt-ltb at (length code) less, read, others) refl

-- the bytes of all instructions end where the last one does
pub instrs_end : (at : ℕ) (i : RawInstr) (rest : List RawInstr) → Follow at (i ∷ rest) → AllByRecursion IsEncodable (i ∷ rest) → at + length (flat_map instr_bytes (i ∷ rest)) ≡ end_of (i ∷ rest)
instrs_end at i [] follow can = omega (arith, instr_ends i can.0, follow.0, length-append {A = ℕ} (instr_bytes i) [])
instrs_end at i (j ∷ rest) follow can =
    omega (arith, instr_ends i can.0, follow.0, length-append (instr_bytes i) (flat_map instr_bytes (j ∷ rest)), instrs_end i.next j rest follow.2 can.1)

-- an instruction has at least one byte
pub instrs_many : (at : ℕ) (instrs : List RawInstr) → Follow at instrs → AllByRecursion IsEncodable instrs → length instrs ≤ length (flat_map instr_bytes instrs)
instrs_many at [] follow can = omega arith
instrs_many at (i ∷ rest) follow can =
    omega (arith, instr_ends i can.0, follow.0, follow.1, length-append (instr_bytes i) (flat_map instr_bytes rest), instrs_many i.next rest follow.2 can.1)
