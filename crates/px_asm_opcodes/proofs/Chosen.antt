-- An instruction without a token has the opcode and the operand that are chosen by what it does and by its size.
use Rattle.std.proofs.Common.{◌≡◌, ℕ, ◌+◌, ◌-◌, ◌<◌, ◌^◌, ◌%◌, Bool, true, false, List, [], ◌∷◌, Option, Some, None, length, refl, sym, ap, ◌∙◌, subst, inl, inr, ⊎_elim, arith}
use Rattle.std.specs.Prelude.{◌==◌, ◌||◌, ◌⊎◌, nat_lt, nat_le, slice_index, if◌then◌else◌, IfSome}
use Rattle.std.proofs.Math.Nat.{mod-eq_of_lt}
use Rattle.std.proofs.lemmas.Bool.{cond_both, eq-eqb, eqb-true, or_cases}
use Rattle.px_code.specs.Body.{is_from_to, operand_of}
use Rattle.px_code.specs.declared.body.Operand.{Operand}
use Rattle.px_code.specs.declared.body.Operand.TheVariants.{Number, Target, Switch}
use Rattle.px_code.specs.declared.body.RawInstr.{RawInstr}
use Rattle.px_asm_bodies.specs.Encoding.{HasNumber, HasOperand, HasSize, HasTarget, IsEncodable, IsSwitch, opcode_size}
use Rattle.px_link_opcodes.specs.Opcodes.{◌orelse◌, arithmetic_code, branch_by, checked_code, converted, converted_checked, converted_unsigned, converts, converts_checked, flow_code, loaded, moves, other_code, plain_code, reaches, short_form, signed_byte, slot_move, stack_move, stored, test_of}
use Rattle.px_program.specs.Formed.{targets_of}
use Rattle.px_program.specs.declared.instr.Code.{Code}
use Rattle.px_program.specs.declared.instr.Code.TheVariants as code
use Rattle.px_program.specs.declared.instr.ElementForm.{ElementForm}
use Rattle.px_program.specs.declared.instr.IntegerType.{IntegerType}
use Rattle.px_program.specs.declared.instr.Move.{Move}
use Rattle.px_program.specs.declared.instr.Move.TheVariants as move
use Rattle.px_program.specs.declared.instr.Instr.{Instr}
use Rattle.px_asm_opcodes.specs.Choosing.{opcode_by, operand_by}
use Rattle.px_asm_opcodes.specs.Recoding.{IsPlain}
use Rattle.px_asm_opcodes.proofs.Intervals.{EachFrom, one_in, two_forms}

pub record IsChosen (raw : RawInstr) (code : Code) : Type 0 where
  pub opcode : opcode_by code (raw.next - raw.offset) ≡ raw.opcode
  pub operand : operand_by code (raw.next - raw.offset) ≡ raw.operand
  pub targets : targets_of code ≡ raw.targets

-- STEPS

either : {X : Type 0} (P : X → Type 0) (test : Bool) (one other : Option X) → (test ≡ true → IfSome one P) → IfSome other P → IfSome (if test then one else other) P
either P true one other here later = here refl
either P false one other here later = later

step : {X : Type 0} (P : X → Type 0) (test : Bool) (x : X) (other : Option X) → (test ≡ true → P x) → IfSome other P → IfSome (if test then Some x else other) P
step P test x other here later = either P test (Some x) other here later

first : (P : Code → Type 0) (a b : Option Code) → IfSome a P → IfSome b P → IfSome (a orelse b) P
first P (Some code) b here later = here
first P None b here later = later

at_opcode : (raw : RawInstr) (k : ℕ) (o : Option Operand) → operand_of k ≡ o → IsEncodable raw → raw.opcode ≡ k → HasOperand o raw
at_opcode raw k o is encodable at = subst (λ x. HasOperand x raw) (ap operand_of at ∙ is) encodable.operand

size_at : (raw : RawInstr) (k size : ℕ) → HasSize raw size → raw.opcode ≡ k → raw.next - raw.offset ≡ opcode_size k + size
size_at raw k size has at = subst (λ n. raw.next - raw.offset ≡ opcode_size n + size) at (omega (arith, has))

-- an opcode of one form, without an operand
abbrev StandsAlone : ℕ → Code → Type 0
StandsAlone k code = (operand_of k ≡ Some (Number 0)) × (opcode_by code (opcode_size k + 0) ≡ k) × (operand_by code (opcode_size k + 0) ≡ 0) × (targets_of code ≡ [])

-- an opcode with a target in one byte, and another with one in four
abbrev StandsTwice : ℕ → ℕ → Code → List ℕ → Type 0
StandsTwice short long code targets =
    (operand_of short ≡ Some (Target 1)) × (opcode_by code (opcode_size short + 1) ≡ short) × (operand_by code (opcode_size short + 1) ≡ 0) × (operand_of long ≡ Some (Target 4))
    × (opcode_by code (opcode_size long + 4) ≡ long) × (operand_by code (opcode_size long + 4) ≡ 0) × (targets_of code ≡ slice_index targets 0 ∷ [])

-- a byte of a constant comes back
byte_back : (byte : ℕ) → byte < 256 → signed_byte (byte % 2 ^ 8) % 2 ^ 8 ≡ byte
byte_back byte less = rw (mod-eq_of_lt less) (cond_both (nat_lt byte 128) byte (byte + (2 ^ 32 - 256)) (λ n. n % 2 ^ 8 ≡ byte) (λ _. mod-eq_of_lt less) (λ _. omega (arith, less)))

module _ (raw : RawInstr) (encodable : IsEncodable raw) where
  -- an opcode with an operand of so many bytes
  sized : (k size : ℕ) (code : Code) → operand_of k ≡ Some (Number size) → opcode_by code (opcode_size k + size) ≡ k → (raw.operand < 256 ^ size → operand_by code (opcode_size k + size) ≡ raw.operand) → targets_of code ≡ []
      → raw.opcode ≡ k → IsChosen raw code
  sized k size code follows chosen operand none at =
      let has : HasNumber raw size = at_opcode raw k (Some (Number size)) follows encodable at in
      let is = size_at raw k size has.size_is at in
      record {
        opcode = subst (λ s. opcode_by code s ≡ raw.opcode) (sym is) (chosen ∙ sym at);
        operand = subst (λ s. operand_by code s ≡ raw.operand) (sym is) (operand has.fits);
        targets = none ∙ sym has.no_targets;
      }

  bare : (k : ℕ) (code : Code) → StandsAlone k code → raw.opcode ≡ k → IsChosen raw code
  bare k code stands = sized k 0 code stands.0 stands.1 (λ less. stands.2 ∙ omega (arith, less)) stands.3

  alone : (k : ℕ) (code : Code) → StandsAlone k code → (raw.opcode == k) ≡ true → IsChosen raw code
  alone k code stands at = bare k code stands (eqb-true raw.opcode k at)

  with_number : (k size : ℕ) (code : Code) → operand_of k ≡ Some (Number size) → opcode_by code (opcode_size k + size) ≡ k → (raw.operand < 256 ^ size → operand_by code (opcode_size k + size) ≡ raw.operand) → targets_of code ≡ []
      → (raw.opcode == k) ≡ true → IsChosen raw code
  with_number k size code follows chosen operand none at = sized k size code follows chosen operand none (eqb-true raw.opcode k at)

  -- ARITHMETIC AND THE REST

  arithmetic_chosen : IfSome (arithmetic_code raw.opcode) (IsChosen raw)
  unfolding arithmetic_code operand_of
  arithmetic_chosen =
      let n = raw.opcode in
      step (IsChosen raw) (n == 0x58) _ _ (alone 0x58 _ (refl, refl, refl, refl))
      (step (IsChosen raw) (n == 0x59) _ _ (alone 0x59 _ (refl, refl, refl, refl))
      (step (IsChosen raw) (n == 0x5A) _ _ (alone 0x5A _ (refl, refl, refl, refl))
      (step (IsChosen raw) (n == 0x5B) _ _ (alone 0x5B _ (refl, refl, refl, refl))
      (step (IsChosen raw) (n == 0x5C) _ _ (alone 0x5C _ (refl, refl, refl, refl))
      (step (IsChosen raw) (n == 0x5D) _ _ (alone 0x5D _ (refl, refl, refl, refl))
      (step (IsChosen raw) (n == 0x5E) _ _ (alone 0x5E _ (refl, refl, refl, refl))
      (step (IsChosen raw) (n == 0x5F) _ _ (alone 0x5F _ (refl, refl, refl, refl))
      (step (IsChosen raw) (n == 0x60) _ _ (alone 0x60 _ (refl, refl, refl, refl))
      (step (IsChosen raw) (n == 0x61) _ _ (alone 0x61 _ (refl, refl, refl, refl))
      (step (IsChosen raw) (n == 0x62) _ _ (alone 0x62 _ (refl, refl, refl, refl))
      (step (IsChosen raw) (n == 0x63) _ _ (alone 0x63 _ (refl, refl, refl, refl))
      (step (IsChosen raw) (n == 0x64) _ _ (alone 0x64 _ (refl, refl, refl, refl))
      (step (IsChosen raw) (n == 0x65) _ _ (alone 0x65 _ (refl, refl, refl, refl))
      (step (IsChosen raw) (n == 0x66) _ _ (alone 0x66 _ (refl, refl, refl, refl)) tt))))))))))))))

  checked_chosen : IfSome (checked_code raw.opcode) (IsChosen raw)
  unfolding checked_code operand_of
  checked_chosen =
      let n = raw.opcode in
      step (IsChosen raw) (n == 0xD6) _ _ (alone 0xD6 _ (refl, refl, refl, refl))
      (step (IsChosen raw) (n == 0xD7) _ _ (alone 0xD7 _ (refl, refl, refl, refl))
      (step (IsChosen raw) (n == 0xD8) _ _ (alone 0xD8 _ (refl, refl, refl, refl))
      (step (IsChosen raw) (n == 0xD9) _ _ (alone 0xD9 _ (refl, refl, refl, refl))
      (step (IsChosen raw) (n == 0xDA) _ _ (alone 0xDA _ (refl, refl, refl, refl))
      (step (IsChosen raw) (n == 0xDB) _ _ (alone 0xDB _ (refl, refl, refl, refl))
      (step (IsChosen raw) (n == 0xFE01) _ _ (alone 0xFE01 _ (refl, refl, refl, refl))
      (step (IsChosen raw) (n == 0xFE02) _ _ (alone 0xFE02 _ (refl, refl, refl, refl))
      (step (IsChosen raw) (n == 0xFE03) _ _ (alone 0xFE03 _ (refl, refl, refl, refl))
      (step (IsChosen raw) (n == 0xFE04) _ _ (alone 0xFE04 _ (refl, refl, refl, refl))
      (step (IsChosen raw) (n == 0xFE05) _ _ (alone 0xFE05 _ (refl, refl, refl, refl)) tt))))))))))

  other_chosen : IfSome (other_code raw.opcode) (IsChosen raw)
  unfolding other_code operand_of
  other_chosen =
      let n = raw.opcode in
      step (IsChosen raw) (n == 0x00) _ _ (alone 0x00 _ (refl, refl, refl, refl))
      (step (IsChosen raw) (n == 0x01) _ _ (alone 0x01 _ (refl, refl, refl, refl))
      (step (IsChosen raw) (n == 0x2A) _ _ (alone 0x2A _ (refl, refl, refl, refl))
      (step (IsChosen raw) (n == 0x7A) _ _ (alone 0x7A _ (refl, refl, refl, refl))
      (step (IsChosen raw) (n == 0x8E) _ _ (alone 0x8E _ (refl, refl, refl, refl))
      (step (IsChosen raw) (n == 0xDC) _ _ (alone 0xDC _ (refl, refl, refl, refl))
      (step (IsChosen raw) (n == 0xFE1A) _ _ (alone 0xFE1A _ (refl, refl, refl, refl)) tt))))))

  -- CONVERSIONS

  converted_chosen : IfSome (converted raw.opcode) (λ to. IsChosen raw (code.Convert to))
  unfolding converted operand_of
  converted_chosen =
      let n = raw.opcode in
      step (λ to. IsChosen raw (code.Convert to)) (n == 0x67) _ _ (alone 0x67 _ (refl, refl, refl, refl))
      (step (λ to. IsChosen raw (code.Convert to)) (n == 0x68) _ _ (alone 0x68 _ (refl, refl, refl, refl))
      (step (λ to. IsChosen raw (code.Convert to)) (n == 0x69) _ _ (alone 0x69 _ (refl, refl, refl, refl))
      (step (λ to. IsChosen raw (code.Convert to)) (n == 0x6A) _ _ (alone 0x6A _ (refl, refl, refl, refl))
      (step (λ to. IsChosen raw (code.Convert to)) (n == 0x6D) _ _ (alone 0x6D _ (refl, refl, refl, refl))
      (step (λ to. IsChosen raw (code.Convert to)) (n == 0x6E) _ _ (alone 0x6E _ (refl, refl, refl, refl))
      (step (λ to. IsChosen raw (code.Convert to)) (n == 0xD1) _ _ (alone 0xD1 _ (refl, refl, refl, refl))
      (step (λ to. IsChosen raw (code.Convert to)) (n == 0xD2) _ _ (alone 0xD2 _ (refl, refl, refl, refl))
      (step (λ to. IsChosen raw (code.Convert to)) (n == 0xD3) _ _ (alone 0xD3 _ (refl, refl, refl, refl))
      (step (λ to. IsChosen raw (code.Convert to)) (n == 0xE0) _ _ (alone 0xE0 _ (refl, refl, refl, refl)) tt)))))))))

  signed_chosen : IfSome (converted_checked raw.opcode) (λ to. IsChosen raw (code.ConvertChecked to true))
  unfolding converted_checked operand_of
  signed_chosen =
      let n = raw.opcode in
      step (λ to. IsChosen raw (code.ConvertChecked to true)) (n == 0xB3) _ _ (alone 0xB3 _ (refl, refl, refl, refl))
      (step (λ to. IsChosen raw (code.ConvertChecked to true)) (n == 0xB4) _ _ (alone 0xB4 _ (refl, refl, refl, refl))
      (step (λ to. IsChosen raw (code.ConvertChecked to true)) (n == 0xB5) _ _ (alone 0xB5 _ (refl, refl, refl, refl))
      (step (λ to. IsChosen raw (code.ConvertChecked to true)) (n == 0xB6) _ _ (alone 0xB6 _ (refl, refl, refl, refl))
      (step (λ to. IsChosen raw (code.ConvertChecked to true)) (n == 0xB7) _ _ (alone 0xB7 _ (refl, refl, refl, refl))
      (step (λ to. IsChosen raw (code.ConvertChecked to true)) (n == 0xB8) _ _ (alone 0xB8 _ (refl, refl, refl, refl))
      (step (λ to. IsChosen raw (code.ConvertChecked to true)) (n == 0xB9) _ _ (alone 0xB9 _ (refl, refl, refl, refl))
      (step (λ to. IsChosen raw (code.ConvertChecked to true)) (n == 0xBA) _ _ (alone 0xBA _ (refl, refl, refl, refl))
      (step (λ to. IsChosen raw (code.ConvertChecked to true)) (n == 0xD4) _ _ (alone 0xD4 _ (refl, refl, refl, refl))
      (step (λ to. IsChosen raw (code.ConvertChecked to true)) (n == 0xD5) _ _ (alone 0xD5 _ (refl, refl, refl, refl)) tt)))))))))

  unsigned_chosen : IfSome (converted_unsigned raw.opcode) (λ to. IsChosen raw (code.ConvertChecked to false))
  unfolding converted_unsigned operand_of
  unsigned_chosen =
      let n = raw.opcode in
      step (λ to. IsChosen raw (code.ConvertChecked to false)) (n == 0x82) _ _ (alone 0x82 _ (refl, refl, refl, refl))
      (step (λ to. IsChosen raw (code.ConvertChecked to false)) (n == 0x83) _ _ (alone 0x83 _ (refl, refl, refl, refl))
      (step (λ to. IsChosen raw (code.ConvertChecked to false)) (n == 0x84) _ _ (alone 0x84 _ (refl, refl, refl, refl))
      (step (λ to. IsChosen raw (code.ConvertChecked to false)) (n == 0x85) _ _ (alone 0x85 _ (refl, refl, refl, refl))
      (step (λ to. IsChosen raw (code.ConvertChecked to false)) (n == 0x86) _ _ (alone 0x86 _ (refl, refl, refl, refl))
      (step (λ to. IsChosen raw (code.ConvertChecked to false)) (n == 0x87) _ _ (alone 0x87 _ (refl, refl, refl, refl))
      (step (λ to. IsChosen raw (code.ConvertChecked to false)) (n == 0x88) _ _ (alone 0x88 _ (refl, refl, refl, refl))
      (step (λ to. IsChosen raw (code.ConvertChecked to false)) (n == 0x89) _ _ (alone 0x89 _ (refl, refl, refl, refl))
      (step (λ to. IsChosen raw (code.ConvertChecked to false)) (n == 0x8A) _ _ (alone 0x8A _ (refl, refl, refl, refl))
      (step (λ to. IsChosen raw (code.ConvertChecked to false)) (n == 0x8B) _ _ (alone 0x8B _ (refl, refl, refl, refl)) tt)))))))))

  -- ELEMENTS

  loaded_chosen : IfSome (loaded raw.opcode) (λ form. IsChosen raw (code.Element false form))
  unfolding loaded operand_of
  loaded_chosen =
      let n = raw.opcode in
      step (λ form. IsChosen raw (code.Element false form)) (n == 0x90) _ _ (alone 0x90 _ (refl, refl, refl, refl))
      (step (λ form. IsChosen raw (code.Element false form)) (n == 0x91) _ _ (alone 0x91 _ (refl, refl, refl, refl))
      (step (λ form. IsChosen raw (code.Element false form)) (n == 0x92) _ _ (alone 0x92 _ (refl, refl, refl, refl))
      (step (λ form. IsChosen raw (code.Element false form)) (n == 0x93) _ _ (alone 0x93 _ (refl, refl, refl, refl))
      (step (λ form. IsChosen raw (code.Element false form)) (n == 0x94) _ _ (alone 0x94 _ (refl, refl, refl, refl))
      (step (λ form. IsChosen raw (code.Element false form)) (n == 0x95) _ _ (alone 0x95 _ (refl, refl, refl, refl))
      (step (λ form. IsChosen raw (code.Element false form)) (n == 0x96) _ _ (alone 0x96 _ (refl, refl, refl, refl))
      (step (λ form. IsChosen raw (code.Element false form)) (n == 0x97) _ _ (alone 0x97 _ (refl, refl, refl, refl))
      (step (λ form. IsChosen raw (code.Element false form)) (n == 0x9A) _ _ (alone 0x9A _ (refl, refl, refl, refl)) tt))))))))

  stored_chosen : IfSome (stored raw.opcode) (λ form. IsChosen raw (code.Element true form))
  unfolding stored operand_of
  stored_chosen =
      let n = raw.opcode in
      step (λ form. IsChosen raw (code.Element true form)) (n == 0x9B) _ _ (alone 0x9B _ (refl, refl, refl, refl))
      (step (λ form. IsChosen raw (code.Element true form)) (n == 0x9C) _ _ (alone 0x9C _ (refl, refl, refl, refl))
      (step (λ form. IsChosen raw (code.Element true form)) (n == 0x9D) _ _ (alone 0x9D _ (refl, refl, refl, refl))
      (step (λ form. IsChosen raw (code.Element true form)) (n == 0x9E) _ _ (alone 0x9E _ (refl, refl, refl, refl))
      (step (λ form. IsChosen raw (code.Element true form)) (n == 0x9F) _ _ (alone 0x9F _ (refl, refl, refl, refl))
      (step (λ form. IsChosen raw (code.Element true form)) (n == 0xA2) _ _ (alone 0xA2 _ (refl, refl, refl, refl)) tt)))))

  -- MOVES

  -- a number that stands in the opcode
  in_opcode : (low high n : ℕ) (made : ℕ → Code) → low + n ≡ high + 1 → is_from_to low high raw.opcode ≡ true → EachFrom (λ k. StandsAlone k (made k)) low n → IsChosen raw (made raw.opcode)
  in_opcode low high n made count in_it each = bare raw.opcode (made raw.opcode) (one_in (λ k. StandsAlone k (made k)) low high raw.opcode n count in_it each) refl

  slot_chosen : IfSome (slot_move raw.opcode raw.operand) (λ step. IsChosen raw (code.Move step))
  unfolding slot_move operand_of
  slot_chosen =
      let n = raw.opcode in
      let P = λ (m : Move). IsChosen raw (code.Move m) in
      step P (is_from_to 0x02 0x05 n) _ _ (λ e. in_opcode 0x02 0x05 4 (λ k. code.Move (move.Argument (k - 0x02))) refl e ((refl, refl, refl, refl), ((refl, refl, refl, refl), ((refl, refl, refl, refl), ((refl, refl, refl, refl), tt)))))
      (step P (is_from_to 0x06 0x09 n) _ _ (λ e. in_opcode 0x06 0x09 4 (λ k. code.Move (move.Local (k - 0x06))) refl e ((refl, refl, refl, refl), ((refl, refl, refl, refl), ((refl, refl, refl, refl), ((refl, refl, refl, refl), tt)))))
      (step P (is_from_to 0x0A 0x0D n) _ _ (λ e. in_opcode 0x0A 0x0D 4 (λ k. code.Move (move.SetLocal (k - 0x0A))) refl e ((refl, refl, refl, refl), ((refl, refl, refl, refl), ((refl, refl, refl, refl), ((refl, refl, refl, refl), tt)))))
      (step P (n == 0x0E) _ _ (with_number 0x0E 1 _ refl refl (λ less. mod-eq_of_lt less) refl)
      (step P (n == 0x10) _ _ (with_number 0x10 1 _ refl refl (λ less. mod-eq_of_lt less) refl)
      (step P (n == 0x11) _ _ (with_number 0x11 1 _ refl refl (λ less. mod-eq_of_lt less) refl)
      (step P (n == 0x13) _ _ (with_number 0x13 1 _ refl refl (λ less. mod-eq_of_lt less) refl)
      (step P (n == 0xFE09) _ _ (with_number 0xFE09 2 _ refl refl (λ less. mod-eq_of_lt less) refl)
      (step P (n == 0xFE0B) _ _ (with_number 0xFE0B 2 _ refl refl (λ less. mod-eq_of_lt less) refl)
      (step P (n == 0xFE0C) _ _ (with_number 0xFE0C 2 _ refl refl (λ less. mod-eq_of_lt less) refl)
      (step P (n == 0xFE0E) _ _ (with_number 0xFE0E 2 _ refl refl (λ less. mod-eq_of_lt less) refl) tt))))))))))

  stack_chosen : IfSome (stack_move raw.opcode raw.operand) (λ step. IsChosen raw (code.Move step))
  unfolding stack_move operand_of
  stack_chosen =
      let n = raw.opcode in
      let P = λ (m : Move). IsChosen raw (code.Move m) in
      step P (n == 0x14) _ _ (alone 0x14 _ (refl, refl, refl, refl))
      (step P (n == 0x15) _ _ (alone 0x15 _ (refl, refl, refl, refl))
      (step P (is_from_to 0x16 0x1E n) _ _ (λ e. in_opcode 0x16 0x1E 9 (λ k. code.Move (move.Constant32 (k - 0x16))) refl e ((refl, refl, refl, refl), ((refl, refl, refl, refl), ((refl, refl, refl, refl), ((refl, refl, refl, refl), ((refl, refl, refl, refl), ((refl, refl, refl, refl), ((refl, refl, refl, refl), ((refl, refl, refl, refl), ((refl, refl, refl, refl), tt))))))))))
      (step P (n == 0x1F) _ _ (with_number 0x1F 1 _ refl refl (λ less. byte_back raw.operand less) refl)
      (step P (n == 0x20) _ _ (with_number 0x20 4 _ refl refl (λ less. mod-eq_of_lt less) refl)
      (step P (n == 0x21) _ _ (with_number 0x21 8 _ refl refl (λ less. refl) refl)
      (step P (n == 0x25) _ _ (alone 0x25 _ (refl, refl, refl, refl))
      (step P (n == 0x26) _ _ (alone 0x26 _ (refl, refl, refl, refl)) tt)))))))

  -- BRANCHES

  one_target : (targets : List ℕ) (target : ℕ) → targets ≡ target ∷ [] → slice_index targets 0 ∷ [] ≡ targets
  one_target targets target is = subst (λ ts. slice_index ts 0 ∷ [] ≡ ts) (sym is) refl

  targeted : (k size : ℕ) (code : Code) → operand_of k ≡ Some (Target size) → opcode_by code (opcode_size k + size) ≡ k → operand_by code (opcode_size k + size) ≡ 0 → targets_of code ≡ slice_index raw.targets 0 ∷ []
      → raw.opcode ≡ k → IsChosen raw code
  targeted k size code follows chosen none leads at =
      let has : HasTarget raw size = at_opcode raw k (Some (Target size)) follows encodable at in
      let is = size_at raw k size has.size_is at in
      record {
        opcode = subst (λ s. opcode_by code s ≡ raw.opcode) (sym is) (chosen ∙ sym at);
        operand = subst (λ s. operand_by code s ≡ raw.operand) (sym is) (none ∙ sym has.no_number);
        targets = leads ∙ one_target raw.targets has.target has.is;
      }

  in_two_forms : (short long : ℕ) (code : Code) → StandsTwice short long code raw.targets → (raw.opcode ≡ short) ⊎ (raw.opcode ≡ long) → IsChosen raw code
  in_two_forms short long code stands at =
      ⊎_elim (targeted short 1 code stands.0 stands.1 stands.2 stands.6) (targeted long 4 code stands.3 stands.4 stands.5 stands.6) at

  branched : (short : ℕ) (code : Code) → StandsTwice short (short + 0x0D) code raw.targets → (short_form raw.opcode == short) ≡ true → IsChosen raw code
  branched short code stands at = in_two_forms short (short + 0x0D) code stands (two_forms raw.opcode short at)

  compared : (low high n : ℕ) (made : ℕ → Code) → low + n ≡ high + 1 → is_from_to low high (short_form raw.opcode) ≡ true → EachFrom (λ k. StandsTwice k (k + 0x0D) (made k) raw.targets) low n → IsChosen raw (made (short_form raw.opcode))
  compared low high n made count in_it each =
      let short = short_form raw.opcode in
      branched short (made short) (one_in (λ k. StandsTwice k (k + 0x0D) (made k) raw.targets) low high short n count in_it each) (eq-eqb short short refl)

  branch_chosen : IfSome (branch_by (short_form raw.opcode) (slice_index raw.targets 0)) (IsChosen raw)
  unfolding branch_by operand_of
  branch_chosen =
      let short = short_form raw.opcode in
      step (IsChosen raw) (short == 0x2B) _ _ (branched 0x2B _ (refl, refl, refl, refl, refl, refl, refl))
      (step (IsChosen raw) (short == 0x2C) _ _ (branched 0x2C _ (refl, refl, refl, refl, refl, refl, refl))
      (step (IsChosen raw) (short == 0x2D) _ _ (branched 0x2D _ (refl, refl, refl, refl, refl, refl, refl))
      (step (IsChosen raw) (is_from_to 0x2E 0x32 short) _ _ (λ e. compared 0x2E 0x32 5 (λ k. code.BranchCompare (test_of k) true (slice_index raw.targets 0)) refl e ((refl, refl, refl, refl, refl, refl, refl), ((refl, refl, refl, refl, refl, refl, refl), ((refl, refl, refl, refl, refl, refl, refl), ((refl, refl, refl, refl, refl, refl, refl), ((refl, refl, refl, refl, refl, refl, refl), tt))))))
      (step (IsChosen raw) (is_from_to 0x33 0x37 short) _ _ (λ e. compared 0x33 0x37 5 (λ k. code.BranchCompare (test_of k) false (slice_index raw.targets 0)) refl e ((refl, refl, refl, refl, refl, refl, refl), ((refl, refl, refl, refl, refl, refl, refl), ((refl, refl, refl, refl, refl, refl, refl), ((refl, refl, refl, refl, refl, refl, refl), ((refl, refl, refl, refl, refl, refl, refl), tt)))))) tt))))

  left : ((raw.opcode == 0xDD) || (raw.opcode == 0xDE)) ≡ true → IsChosen raw (code.Leave (slice_index raw.targets 0))
  unfolding operand_of
  left e = in_two_forms 0xDE 0xDD _ (refl, refl, refl, refl, refl, refl, refl) (⊎_elim (λ long. inr (eqb-true raw.opcode 0xDD long)) (λ short. inl (eqb-true raw.opcode 0xDE short)) (or_cases (raw.opcode == 0xDD) (raw.opcode == 0xDE) e))

  switched : (raw.opcode == 0x45) ≡ true → IsChosen raw (code.Switch raw.targets)
  unfolding operand_of
  switched e =
      let at = eqb-true raw.opcode 0x45 e in
      let has : IsSwitch raw = at_opcode raw 0x45 (Some Switch) refl encodable at in
      record { opcode = sym at; operand = sym has.no_number; targets = refl }

  flow_chosen : IfSome (flow_code raw.opcode raw.targets) (IsChosen raw)
  unfolding flow_code
  flow_chosen =
      let n = raw.opcode in
      either (IsChosen raw) (n == 0x45) _ _ (λ e. step (IsChosen raw) (nat_le (length raw.targets) 128) _ _ (λ _. switched e) tt)
      (step (IsChosen raw) ((n == 0xDD) || (n == 0xDE)) _ _ left branch_chosen)

  -- ALL

  moves_chosen : (o : Option Move) → IfSome o (λ step. IsChosen raw (code.Move step)) → IfSome (moves o) (IsChosen raw)
  moves_chosen None is = tt
  moves_chosen (Some step) is = is

  converts_chosen : (o : Option IntegerType) → IfSome o (λ to. IsChosen raw (code.Convert to)) → IfSome (converts o) (IsChosen raw)
  converts_chosen None is = tt
  converts_chosen (Some to) is = is

  converts_checked_chosen : (signed : Bool) (o : Option IntegerType) → IfSome o (λ to. IsChosen raw (code.ConvertChecked to signed)) → IfSome (converts_checked signed o) (IsChosen raw)
  converts_checked_chosen signed None is = tt
  converts_checked_chosen signed (Some to) is = is

  reaches_chosen : (store : Bool) (o : Option ElementForm) → IfSome o (λ form. IsChosen raw (code.Element store form)) → IfSome (reaches store o) (IsChosen raw)
  reaches_chosen store None is = tt
  reaches_chosen store (Some form) is = is

  plain_chosen : IfSome (plain_code raw) (IsChosen raw)
  plain_chosen =
      let n = raw.opcode in
      first (IsChosen raw) _ _ (moves_chosen (slot_move n raw.operand) slot_chosen)
      (first (IsChosen raw) _ _ (moves_chosen (stack_move n raw.operand) stack_chosen)
      (first (IsChosen raw) _ _ arithmetic_chosen
      (first (IsChosen raw) _ _ checked_chosen
      (first (IsChosen raw) _ _ (converts_chosen (converted n) converted_chosen)
      (first (IsChosen raw) _ _ (converts_checked_chosen true (converted_checked n) signed_chosen)
      (first (IsChosen raw) _ _ (converts_checked_chosen false (converted_unsigned n) unsigned_chosen)
      (first (IsChosen raw) _ _ flow_chosen
      (first (IsChosen raw) _ _ (reaches_chosen false (loaded n) loaded_chosen)
      (first (IsChosen raw) _ _ (reaches_chosen true (stored n) stored_chosen) other_chosen)))))))))

  chosen_by : (code : Code) → plain_code raw ≡ Some code → IsChosen raw code
  chosen_by code is = subst (λ o. IfSome o (IsChosen raw)) is plain_chosen

abbrev built : ℕ → ℕ → ℕ → ℕ → List ℕ → RawInstr
built offset next opcode operand targets = record { offset = offset; next = next; opcode = opcode; operand = operand; targets = targets }

same_built : (a b c d s t u v : ℕ) (ps qs : List ℕ) → a ≡ s → b ≡ t → c ≡ u → d ≡ v → ps ≡ qs → built a b c d ps ≡ built s t u v qs
same_built a b c d s t u v ps qs offset next opcode operand targets = cc

same_raw : (one other : RawInstr) → one.offset ≡ other.offset → one.next ≡ other.next → one.opcode ≡ other.opcode → one.operand ≡ other.operand → one.targets ≡ other.targets → one ≡ other
same_raw one other = same_built one.offset one.next one.opcode one.operand other.offset other.next other.opcode other.operand one.targets other.targets

-- an instruction of what is chosen stands in the same place and does the same
pub chosen_raw : (instr : Instr) (made : RawInstr) → IsPlain instr → made.offset ≡ instr.offset → made.next ≡ instr.next → made.opcode ≡ opcode_by instr.code (instr.next - instr.offset) → made.operand ≡ operand_by instr.code (instr.next - instr.offset)
    → made.targets ≡ targets_of instr.code → IsEncodable made × (plain_code made ≡ Some instr.code)
chosen_raw instr made plain offset next opcode operand targets =
    let raw = plain.raw in
    let is = chosen_by raw plain.encodable instr.code plain.does in
    let here = plain.placed in
    let size : instr.next - instr.offset ≡ raw.next - raw.offset = omega (arith, here.offset, here.next) in
    let same = same_raw made raw (offset ∙ sym here.offset) (next ∙ sym here.next) (opcode ∙ ap (opcode_by instr.code) size ∙ is.opcode) (operand ∙ ap (operand_by instr.code) size ∙ is.operand) (targets ∙ is.targets) in
    subst (λ (r : RawInstr). IsEncodable r × (plain_code r ≡ Some instr.code)) (sym same) (plain.encodable, plain.does)
