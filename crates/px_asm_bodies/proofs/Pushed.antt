-- What is pushed, one part after the other.
use Rattle.std.proofs.Common.{◌≡◌, ℕ, ◌-◌, List, [], ◌∷◌, ◌++◌, length, Result, Ok, Err, true, false, refl, sym, ◌∙◌, ap, append_assoc}
use Rattle.std.specs.Prelude.{◌==◌, if◌then◌else◌, is_ok, OnOk}
use Rattle.std.proofs.lemmas.Bool.{eqb-true}
use Rattle.px_code.specs.Body.{end_of, operand_of}
use Rattle.px_code.specs.declared.body.RawInstr.{RawInstr}
use Rattle.px_code.specs.declared.body.RawClause.{RawClause}
use Rattle.px_code.specs.declared.body.Body.{Body}
use Rattle.px_asm_bodies.specs.Bytes.{clause_bytes, distances_bytes, has_clauses, header_bytes, header_flags, little_bytes, operand_bytes}
use Rattle.px_asm_bodies.specs.Encoding.{opcode_size, HasOperand}
use Rattle.px_asm_bodies.proofs.Operands.{number_bytes, switch_bytes, target_bytes}

-- what one call pushed
pub pushed : {E : Type 0} (r : Result (Unit {0}) E) (new old other whole : List ℕ) → new ≡ (if is_ok r then old ++ other else old) → old ++ other ≡ whole → OnOk r (new ≡ whole)
pushed (Ok x) new old other whole is same = is ∙ same
pushed (Err e) new old other whole is same = tt

-- what follows where the call went well
pub follows : {E : Type 0} (P Q : Type 0) (r : Result (Unit {0}) E) → (P → Q) → OnOk r P → OnOk r Q
follows P Q (Ok x) step p = step p
follows P Q (Err e) step p = tt

pub clause_pushed : (clause : RawClause) (n1 n2 n3 n4 n5 n6 : ℕ) (v0 v1 v2 v3 v4 v5 v6 : List ℕ) → n1 ≡ clause.flags → n2 ≡ clause.from → n3 ≡ clause.to - clause.from → n4 ≡ clause.start
    → n5 ≡ clause.stop - clause.start → n6 ≡ clause.class → v1 ≡ v0 ++ little_bytes 4 n1 → v2 ≡ v1 ++ little_bytes 4 n2 → v3 ≡ v2 ++ little_bytes 4 n3
    → v4 ≡ v3 ++ little_bytes 4 n4 → v5 ≡ v4 ++ little_bytes 4 n5 → v6 ≡ v5 ++ little_bytes 4 n6 → v6 ≡ v0 ++ clause_bytes clause
unfolding clause_bytes
clause_pushed clause n1 n2 n3 n4 n5 n6 v0 v1 v2 v3 v4 v5 v6 e1 e2 e3 e4 e5 e6 a1 a2 a3 a4 a5 a6 =
    rw (a6, a5, a4, a3, a2, a1, e1, e2, e3, e4, e5, e6) (simp append_assoc)

pub header_pushed : (body : Body) (n1 n3 n4 n5 : ℕ) (v0 v1 v2 v3 v4 v5 : List ℕ) → n1 ≡ header_flags (has_clauses body.clauses) body.init_locals → n3 ≡ body.max_stack
    → n4 ≡ end_of body.code → n5 ≡ body.locals_token → v1 ≡ v0 ++ n1 ∷ [] → v2 ≡ v1 ++ 0x30 ∷ [] → v3 ≡ v2 ++ little_bytes 2 n3 → v4 ≡ v3 ++ little_bytes 4 n4
    → v5 ≡ v4 ++ little_bytes 4 n5 → v5 ≡ v0 ++ header_bytes body
unfolding header_bytes
header_pushed body n1 n3 n4 n5 v0 v1 v2 v3 v4 v5 e1 e3 e4 e5 a1 a2 a3 a4 a5 = rw (a5, a4, a3, a2, a1, e1, e3, e4, e5) (simp append_assoc)

-- OPERANDS

pub switch_pushed : (raw : RawInstr) (targets v0 v1 v2 : List ℕ) → targets ≡ raw.targets → HasOperand (operand_of raw.opcode) raw → raw.opcode ≡ 0x45
    → v1 ≡ v0 ++ little_bytes 4 (length targets) → v2 ≡ v1 ++ distances_bytes raw.next 4 targets → v2 ≡ v0 ++ operand_bytes (operand_of raw.opcode) raw
switch_pushed raw targets v0 v1 v2 are has is a1 a2 = rw (switch_bytes raw has is, a2, a1, are) (append_assoc v0 (little_bytes 4 (length raw.targets)) (distances_bytes raw.next 4 raw.targets))

pub number_pushed : (raw : RawInstr) (targets : List ℕ) (size : ℕ) (v0 v1 : List ℕ) → targets ≡ raw.targets → HasOperand (operand_of raw.opcode) raw → (raw.opcode ≡ 0x45 → ⊥)
    → size ≡ opcode_size raw.opcode → true ≡ (length targets == 0) → v1 ≡ v0 ++ little_bytes (raw.next - raw.offset - size) raw.operand
    → v1 ≡ v0 ++ operand_bytes (operand_of raw.opcode) raw
number_pushed raw targets size v0 v1 are has other is none a1 =
    let empty : length raw.targets ≡ 0 = ap (length {A = ℕ}) (sym are) ∙ eqb-true (length targets) 0 (sym none) in
    rw (number_bytes raw has other empty, a1, is) refl

pub target_pushed : (raw : RawInstr) (targets : List ℕ) (size : ℕ) (v0 v1 : List ℕ) → targets ≡ raw.targets → HasOperand (operand_of raw.opcode) raw → (raw.opcode ≡ 0x45 → ⊥)
    → size ≡ opcode_size raw.opcode → false ≡ (length targets == 0) → v1 ≡ v0 ++ distances_bytes raw.next (raw.next - raw.offset - size) targets
    → v1 ≡ v0 ++ operand_bytes (operand_of raw.opcode) raw
target_pushed raw targets size v0 v1 are has other is some a1 =
    let filled : length raw.targets ≡ 0 → ⊥ = λ none. absurd (let e : (length targets == 0) ≡ true = rw (ap (length {A = ℕ}) are ∙ none) refl in cc) in
    rw (target_bytes raw has other filled, a1, are, is) refl
