-- What follows an opcode, by its kind.
use Rattle.std.proofs.Common.{◌≡◌, ℕ, ◌-◌, ◌≤◌, ◌++◌, length, Option, Some, None, Bool, true, false, ◌⊎◌, inl, inr, lit≤, refl, ap, ◌∙◌, arith}
use Rattle.std.specs.Prelude.{◌==◌, ◌||◌, if◌then◌else◌}
use Rattle.std.proofs.lemmas.Bool.{eqb-true}
use Rattle.px_code.specs.Body.{is_among, operand_of, with_byte, with_eight_bytes, with_four_bytes, with_long_target, with_short_target, with_token, with_two_bytes, without_operand}
use Rattle.px_code.specs.declared.body.Operand.{Operand}
use Rattle.px_code.specs.declared.body.Operand.TheVariants.{Number, Target, Switch}
use Rattle.px_code.specs.declared.body.RawInstr.{RawInstr}
use Rattle.px_asm_bodies.specs.Bytes.{distances_bytes, little_bytes, operand_bytes}
use Rattle.px_asm_bodies.specs.Encoding.{opcode_size, HasOperand}

-- numbers have at most eight bytes and targets one or four, and one opcode has several
abbrev pub IsKind : ℕ → Option Operand → Type 0
IsKind n None = Unit {0}
IsKind n (Some (Number size)) = size ≤ 8
IsKind n (Some (Target size)) = (size ≡ 1) ⊎ (size ≡ 4)
IsKind n (Some Switch) = n ≡ 0x45

by_tests : (a b c d e f g h : Bool) (n : ℕ) → (h ≡ true → n ≡ 0x45)
    → IsKind n (if a then Some (Number 0) else if b then Some (Number 1) else if c then Some (Number 2) else if d then Some (Number 4) else if e then Some (Number 8) else if f then Some (Target 1) else if g then Some (Target 4) else if h then Some Switch else None)
by_tests true b c d e f g h n is = lit≤ tt
by_tests false true c d e f g h n is = lit≤ tt
by_tests false false true d e f g h n is = lit≤ tt
by_tests false false false true e f g h n is = lit≤ tt
by_tests false false false false true f g h n is = lit≤ tt
by_tests false false false false false true g h n is = inl refl
by_tests false false false false false false true h n is = inr refl
by_tests false false false false false false false true n is = is refl
by_tests false false false false false false false false n is = tt

pub kind_of : (n : ℕ) → IsKind n (operand_of n)
unfolding operand_of
kind_of n =
    by_tests (is_among without_operand n) (is_among with_byte n) (is_among with_two_bytes n) (is_among with_four_bytes n || is_among with_token n)
    (is_among with_eight_bytes n) (is_among with_short_target n) (is_among with_long_target n) (n == 0x45) n (eqb-true n 0x45)

several : operand_of 0x45 ≡ Some Switch
unfolding operand_of
several = refl

switch_by : (o : Option Operand) (raw : RawInstr) → HasOperand o raw → o ≡ Some Switch → operand_bytes o raw ≡ little_bytes 4 (length raw.targets) ++ distances_bytes raw.next 4 raw.targets
switch_by None raw has is = absurd has
switch_by (Some (Number size)) raw has is = absurd (cc)
switch_by (Some (Target size)) raw has is = absurd (cc)
switch_by (Some Switch) raw has is = refl

-- the bytes of a switch
pub switch_bytes : (raw : RawInstr) → HasOperand (operand_of raw.opcode) raw → raw.opcode ≡ 0x45
    → operand_bytes (operand_of raw.opcode) raw ≡ little_bytes 4 (length raw.targets) ++ distances_bytes raw.next 4 raw.targets
switch_bytes raw has is = switch_by (operand_of raw.opcode) raw has (ap operand_of is ∙ several)

-- how many bytes there are behind the opcode
abbrev pub size_of : RawInstr → ℕ
size_of raw = raw.next - raw.offset - opcode_size raw.opcode

few_by : (o : Option Operand) (raw : RawInstr) → HasOperand o raw → IsKind raw.opcode o → (raw.opcode ≡ 0x45 → ⊥) → size_of raw ≤ 8
few_by None raw has kind other = absurd has
few_by (Some (Number size)) raw has kind other = omega (arith, has.size_is, kind)
few_by (Some (Target size)) raw has (inl one) other = omega (arith, has.size_is, one)
few_by (Some (Target size)) raw has (inr four) other = omega (arith, has.size_is, four)
few_by (Some Switch) raw has kind other = absurd (other kind)

pub few : (raw : RawInstr) → HasOperand (operand_of raw.opcode) raw → (raw.opcode ≡ 0x45 → ⊥) → size_of raw ≤ 8
few raw has other = few_by (operand_of raw.opcode) raw has (kind_of raw.opcode) other

number_by : (o : Option Operand) (raw : RawInstr) → HasOperand o raw → IsKind raw.opcode o → (raw.opcode ≡ 0x45 → ⊥) → length raw.targets ≡ 0
    → operand_bytes o raw ≡ little_bytes (size_of raw) raw.operand
number_by None raw has kind other none = absurd has
number_by (Some (Number size)) raw has kind other none =
    let is : size ≡ size_of raw = omega (arith, has.size_is) in ap (λ n. little_bytes n raw.operand) is
number_by (Some (Target size)) raw has kind other none = absurd (omega (arith, none, ap (length {A = ℕ}) has.is))
number_by (Some Switch) raw has kind other none = absurd (other kind)

-- the bytes of a number
pub number_bytes : (raw : RawInstr) → HasOperand (operand_of raw.opcode) raw → (raw.opcode ≡ 0x45 → ⊥) → length raw.targets ≡ 0
    → operand_bytes (operand_of raw.opcode) raw ≡ little_bytes (size_of raw) raw.operand
number_bytes raw has other none = number_by (operand_of raw.opcode) raw has (kind_of raw.opcode) other none

target_by : (o : Option Operand) (raw : RawInstr) → HasOperand o raw → IsKind raw.opcode o → (raw.opcode ≡ 0x45 → ⊥) → (length raw.targets ≡ 0 → ⊥)
    → operand_bytes o raw ≡ distances_bytes raw.next (size_of raw) raw.targets
target_by None raw has kind other some = absurd has
target_by (Some (Number size)) raw has kind other some = absurd (some (ap (length {A = ℕ}) has.no_targets))
target_by (Some (Target size)) raw has kind other some =
    let is : size ≡ size_of raw = omega (arith, has.size_is) in ap (λ n. distances_bytes raw.next n raw.targets) is
target_by (Some Switch) raw has kind other some = absurd (other kind)

-- the bytes of a target
pub target_bytes : (raw : RawInstr) → HasOperand (operand_of raw.opcode) raw → (raw.opcode ≡ 0x45 → ⊥) → (length raw.targets ≡ 0 → ⊥)
    → operand_bytes (operand_of raw.opcode) raw ≡ distances_bytes raw.next (size_of raw) raw.targets
target_bytes raw has other some = target_by (operand_of raw.opcode) raw has (kind_of raw.opcode) other some
