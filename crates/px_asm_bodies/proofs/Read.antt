-- Instructions that were read can be written.
use Rattle.std.proofs.Common.{◌≡◌, ℕ, suc, zero, ◌+◌, ◌*◌, ◌^◌, ◌/◌, ◌%◌, ◌<◌, ◌≤◌, List, [], ◌∷◌, length, get_or, take, drop, Option, Some, None, Result, Ok, Err, Bool, true, false, lit<, refl, sym, ap, ◌∙◌, subst, arith, length-take, inl, inr}
use Rattle.std.specs.Prelude.{nat_lt, nat_le, slice_index, not, ◌==◌, ◌||◌, if◌then◌else◌}
use Rattle.std.specs.List.{All, AllByRecursion}
use Rattle.std.proofs.Math.Nat.{one-le-pow, pow-suc}
use Rattle.std.proofs.lemmas.Bool.{cases_lt, lt-ltb}
use Rattle.std.proofs.lemmas.Bool.Decides.{nat_tests}
use Rattle.std.proofs.lemmas.List.{get_or_default, get_or_past}
use Rattle.std.proofs.lemmas.List.Elements.{All-take, All-drop}
use Rattle.px_code.specs.Reading.{PlacedFault}
use Rattle.px_reading.specs.Reading.{◌>>=◌}
use Rattle.px_code.specs.Body.{behind, body_of, checked, clauses_of, fat_code, fat_header, first_bad, header_of, instr_at, instr_by, instr_of, instrs_from, little_endian, made_of, number_at, operand_of, switch_at, target_of, targets_at, tiny_code, with_number, Header, Position}
use Rattle.px_code.specs.declared.body.BodyKind.TheVariants.{BadHeader, Cut}
use Rattle.px_code.specs.declared.body.Operand.{Operand}
use Rattle.px_code.specs.declared.body.Operand.TheVariants.{Number, Target, Switch}
use Rattle.px_code.specs.declared.body.RawInstr.{RawInstr}
use Rattle.px_code.specs.declared.body.RawClause.{RawClause}
use Rattle.px_code.specs.declared.body.Body.{Body}
use Rattle.px_code.proofs.Following.{bind_ok, guard_not, rest_of}
use Rattle.px_asm_bodies.specs.Encoding.{is_opcode, opcode_size, HasNumber, HasOperand, HasTarget, IsEncodable, IsSwitch, LeadsTo}

-- the numbers are bytes
abbrev pub AreBytes : List ℕ → Type 0
AreBytes bytes = All (λ byte. byte < 256) bytes

-- a slice of bytes, by its items
pub are_bytes : (bytes : List ℕ) → ((k : ℕ) → get_or bytes k 0 < 256) → AreBytes bytes
are_bytes bytes small k d inside = let same : get_or bytes k d ≡ get_or bytes k 0 = get_or_default bytes k d 0 inside in omega (arith, same, small k)

-- NUMBERS

below : (bytes : List ℕ) (size : ℕ) → AreBytes bytes → length bytes ≤ size → little_endian bytes < 256 ^ size
below [] size are short = one-le-pow size 256 (lit< tt)
below (x ∷ xs) zero are short = absurd (omega arith)
below (x ∷ xs) (suc n) are short =
    let rest : little_endian xs < 256 ^ n = below xs n (λ k d h. are (suc k) d (omega arith)) (omega arith) in
    let first : x < 256 = are 0 x (omega arith) in
    let size : 256 ^ suc n ≡ 256 ^ n * 256 = pow-suc 256 n in
    omega arith

number_fits : (code : List ℕ) (at size : ℕ) → AreBytes code → number_at code at size < 256 ^ size
number_fits code at size are =
    below (take size (drop at code)) size (All-take (λ byte. byte < 256) size (drop at code) (All-drop (λ byte. byte < 256) at code are)) (omega (arith, length-take {A = ℕ}))

is_byte : (code : List ℕ) (at : ℕ) → AreBytes code → slice_index code at < 256
is_byte code at are = elim (cases_lt at (length code)) [
  | inl inside ↦ are at 0 inside
  | inr outside ↦ rw (get_or_past code at 0 outside) (lit< tt)
]

-- OPERANDS

length-targets : (next : ℕ) (code : List ℕ) (at n : ℕ) → length (targets_at next code at n) ≡ n
length-targets next code at zero = refl
length-targets next code at (suc n) = ap suc (length-targets next code (at + 4) n)

targets_lead : (next : ℕ) (code : List ℕ) (at n : ℕ) → AreBytes code → AllByRecursion (LeadsTo next 4) (targets_at next code at n)
targets_lead next code at zero are = tt
targets_lead next code at (suc n) are =
    (record { operand = number_at code at 4; fits = number_fits code at 4 are; leads = refl }, targets_lead next code (at + 4) n are)

operands : (o : Option Operand) (p : Position) (code : List ℕ) (i : RawInstr) → AreBytes code → opcode_size p.opcode ≡ p.size → instr_of o p code ≡ Ok i
    → (i.opcode ≡ p.opcode) × HasOperand o i
operands None p code i are is h = absurd (cc)
operands (Some (Number size)) p code i are is h =
    let made = with_number p size (number_at code (behind p) size) [] in
    let q : (nat_lt (length code) (behind p + size) ≡ false) × (Ok made ≡ Ok i) = guard_not _ (Ok made) _ i h in
    let same : made ≡ i = cc in (
      ap (λ (j : RawInstr). j.opcode) (sym same),
      subst (λ (j : RawInstr). HasNumber j size) same (record { size_is = ap (λ n. p.at + n + size) (sym is); fits = number_fits code (behind p) size are; no_targets = refl }),
    )
operands (Some (Target size)) p code i are is h =
    let operand = number_at code (behind p) size in
    let target = target_of (behind p + size) size operand in
    let made = with_number p size 0 (target ∷ []) in
    let q : (nat_lt (length code) (behind p + size) ≡ false) × (Ok made ≡ Ok i) = guard_not _ (Ok made) _ i h in
    let same : made ≡ i = cc in (
      ap (λ (j : RawInstr). j.opcode) (sym same),
      subst (λ (j : RawInstr). HasTarget j size) same (record {
        size_is = ap (λ n. p.at + n + size) (sym is);
        no_number = refl;
        target = target;
        is = refl;
        leads = record { operand = operand; fits = number_fits code (behind p) size are; leads = refl };
      }),
    )
operands (Some Switch) p code i are is h =
    let count = number_at code (behind p) 4 in
    let size = 4 + 4 * count in
    let targets = targets_at (behind p + size) code (behind p + 4) count in
    let made = with_number p size 0 targets in
    let q : (nat_lt (length code) (behind p + 4) ≡ false) × (switch_at p code count ≡ Ok i) = guard_not _ (switch_at p code count) _ i h in
    let r : (nat_lt (length code) (behind p + size) ≡ false) × (Ok made ≡ Ok i) = guard_not _ (Ok made) _ i q.1 in
    let same : made ≡ i = cc in
    let len : length targets ≡ count = length-targets (behind p + size) code (behind p + 4) count in
    let few : count < 256 ^ 4 = number_fits code (behind p) 4 are in (
      ap (λ (j : RawInstr). j.opcode) (sym same),
      subst (λ (j : RawInstr). IsSwitch j) same (record {
        size_is = omega (arith, len, is);
        no_number = refl;
        few = omega (arith, len, few);
        lead = targets_lead (behind p + size) code (behind p + 4) count are;
      }),
    )

-- INSTRUCTIONS

encodable_by : (base : ℕ) (code : List ℕ) (at opcode size : ℕ) (i : RawInstr) → AreBytes code → opcode_size opcode ≡ size → is_opcode opcode ≡ true
    → instr_by base code at opcode size ≡ Ok i → IsEncodable i
encodable_by base code at opcode size i are is known h =
    let p : (i.opcode ≡ opcode) × HasOperand (operand_of opcode) i = operands (operand_of opcode) (record { base = base; at = at; opcode = opcode; size = size }) code i are is h in
    record { opcode = ap is_opcode p.0 ∙ known; operand = subst (λ n. HasOperand (operand_of n) i) (sym p.0) p.1 }

by_first : {A : Type 0} (P : A → Type 0) (a c : Bool) (e : PlacedFault) (one two : Result A PlacedFault) → (a ≡ false → (i : A) → one ≡ Ok i → P i) → ((i : A) → two ≡ Ok i → P i)
    → (i : A) → (if not a then one else if c then Err e else two) ≡ Ok i → P i
by_first P false c e one two first second i h = first refl i h
by_first P true true e one two first second i h = absurd (cc)
by_first P true false e one two first second i h = second i h

short_opcode : (n : ℕ) → n < 256 → (n == 0xFE) ≡ false → (opcode_size n ≡ 1) × (is_opcode n ≡ true)
short_opcode n byte other = (rw (lt-ltb n 256 byte) refl, rw (lt-ltb n 256 byte, other) refl)

long_opcode : (n : ℕ) → n < 256 → (opcode_size (0xFE00 + n) ≡ 2) × (is_opcode (0xFE00 + n) ≡ true)
long_opcode n byte = (grind (arith, nat_tests), grind (arith, nat_tests))

pub instr_encodable : (base : ℕ) (code : List ℕ) (at : ℕ) (i : RawInstr) → AreBytes code → instr_at base code at ≡ Ok i → IsEncodable i
unfolding instr_at
instr_encodable base code at i are h =
    let first = is_byte code at are in
    let second = long_opcode (slice_index code (at + 1)) (is_byte code (at + 1) are) in
    by_first IsEncodable (slice_index code at == 0xFE) (nat_le (length code) (at + 1)) _
    (instr_by base code at (slice_index code at) 1) (instr_by base code at (0xFE00 + slice_index code (at + 1)) 2)
    (λ other i read. let o = short_opcode (slice_index code at) first other in encodable_by base code at (slice_index code at) 1 i are o.0 o.1 read)
    (λ i read. encodable_by base code at (0xFE00 + slice_index code (at + 1)) 2 i are second.0 second.1 read)
    i h

-- what was read first, and then the rest
split : (n base : ℕ) (code : List ℕ) (at : ℕ) (xs : List RawInstr) → (instr_at base code at >>= rest_of n base code) ≡ Ok xs
    → (i : RawInstr) × (ys : List RawInstr) × (instr_at base code at ≡ Ok i) × (instrs_from n base code i.next ≡ Ok ys) × (xs ≡ i ∷ ys)
split n base code at xs h =
    let p : (i : RawInstr) × (instr_at base code at ≡ Ok i) × (rest_of n base code i ≡ Ok xs) = bind_ok (instr_at base code at) (rest_of n base code) xs h in
    let q : (ys : List RawInstr) × (instrs_from n base code p.0.next ≡ Ok ys) × (Ok (p.0 ∷ ys) ≡ Ok xs) = bind_ok (instrs_from n base code p.0.next) (λ rest. Ok (p.0 ∷ rest)) xs p.2 in
    (p.0, q.0, p.1, q.1, cc)

pub instrs_encodable : (n base : ℕ) (code : List ℕ) (at : ℕ) (xs : List RawInstr) → AreBytes code → instrs_from n base code at ≡ Ok xs → AllByRecursion IsEncodable xs
unfolding instrs_from
instrs_encodable zero base code at xs are h = let e : [] ≡ xs = cc in subst (λ v. AllByRecursion IsEncodable v) e tt
instrs_encodable (suc n) base code at xs are h = by_test (nat_lt at (length code)) refl (λ i ys read. instrs_encodable n base code i.next ys are read)
  where
    by_test : (b : Bool) → nat_lt at (length code) ≡ b → ((i : RawInstr) (ys : List RawInstr) → instrs_from n base code i.next ≡ Ok ys → AllByRecursion IsEncodable ys) → AllByRecursion IsEncodable xs
    by_test false e later = let empty : Result (List RawInstr) PlacedFault = Ok [] in let none : empty ≡ Ok xs = rw e at h in let f : [] ≡ xs = cc in subst (λ v. AllByRecursion IsEncodable v) f tt
    by_test true e later =
        let p = split n base code at xs (rw e at h) in
        subst (λ v. AllByRecursion IsEncodable v) {x = p.0 ∷ p.1} (sym p.4) (instr_encodable base code at p.0 are p.2, later p.0 p.1 p.3)

-- BODIES

tiny_bytes : (bytes : List ℕ) (size : ℕ) (h : Header) → AreBytes bytes → tiny_code bytes size ≡ Ok h → AreBytes h.code
tiny_bytes bytes size h are read =
    let code = take size (drop 1 bytes) in
    let one = guard_not (size == 0) _ _ h read in
    let two = guard_not (nat_lt (length bytes) (size + 1)) _ _ h one.1 in
    let same : code ≡ h.code = cc in
    subst AreBytes same (All-take (λ byte. byte < 256) size (drop 1 bytes) (All-drop (λ byte. byte < 256) 1 bytes are))

fat_bytes : (bytes : List ℕ) (h : Header) → AreBytes bytes → fat_code bytes ≡ Ok h → AreBytes h.code
fat_bytes bytes h are read =
    let size = number_at bytes 4 4 in
    let made : Result Header PlacedFault = Ok (fat_header bytes size) in
    let inner : Result Header PlacedFault = if nat_lt (length bytes) (12 + size) then Err (Cut, length bytes) else made in
    let one = guard_not (nat_lt (length bytes) 12) (if (not (slice_index bytes 1 / 16 == 3) || (size == 0)) then Err (BadHeader, 0) else inner) (Cut, length bytes) h read in
    let two = guard_not (not (slice_index bytes 1 / 16 == 3) || (size == 0)) inner (BadHeader, 0) h one.1 in
    let three = guard_not (nat_lt (length bytes) (12 + size)) made (Cut, length bytes) h two.1 in
    let same : fat_header bytes size ≡ h = cc in
    subst (λ (g : Header). AreBytes g.code) same (All-take (λ byte. byte < 256) size (drop 12 bytes) (All-drop (λ byte. byte < 256) 12 bytes are))

header_bytes : (bytes : List ℕ) (h : Header) → AreBytes bytes → header_of bytes ≡ Ok h → AreBytes h.code
header_bytes [] h are read = absurd (cc)
header_bytes (first ∷ rest) h are read = by_form (first % 4 == 3) (first % 4 == 2) read
  where
    by_form : (a b : Bool) → (if a then fat_code (first ∷ rest) else if b then tiny_code (first ∷ rest) (first / 4) else Err (BadHeader, 0)) ≡ Ok h → AreBytes h.code
    by_form true b read = fat_bytes (first ∷ rest) h are read
    by_form false true read = tiny_bytes (first ∷ rest) (first / 4) h are read
    by_form false false read = absurd (cc)

code_is : (h : Header) (instrs : List RawInstr) (bad : Option RawInstr) (bytes : List ℕ) (body : Body) → checked h instrs bad bytes ≡ Ok body → instrs ≡ body.code
code_is h instrs None bytes body read =
    let p : (clauses : List RawClause) × (clauses_of h instrs bytes ≡ Ok clauses) × (Ok (made_of h instrs clauses) ≡ Ok body) = bind_ok (clauses_of h instrs bytes) (λ clauses. Ok (made_of h instrs clauses)) body read in
    let same : made_of h instrs p.0 ≡ body = cc in
    ap (λ (b : Body). b.code) same
code_is h instrs (Some i) bytes body read = absurd (cc)

-- what was read from bytes can be written
pub read_encodable : (bytes : List ℕ) (body : Body) → All (λ byte. byte < 256) bytes → body_of bytes ≡ Ok body → AllByRecursion IsEncodable body.code
unfolding body_of
read_encodable bytes body are read =
    let p = bind_ok (header_of bytes) (λ h. instrs_from (length h.code) h.base h.code 0 >>= λ instrs. checked h instrs (first_bad instrs) bytes) body read in
    let h : Header = p.0 in
    let q = bind_ok (instrs_from (length h.code) h.base h.code 0) (λ instrs. checked h instrs (first_bad instrs) bytes) body p.2 in
    subst (λ v. AllByRecursion IsEncodable v) (code_is h q.0 (first_bad q.0) bytes body q.2)
    (instrs_encodable (length h.code) h.base h.code 0 q.0 (header_bytes bytes h are p.1) q.1)
