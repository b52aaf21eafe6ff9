-- The instruction of an assembly leads where that of the program does.
use Rattle.std.proofs.Common.{◌≡◌, ℕ, zero, suc, ◌+◌, ◌<◌, ◌≤◌, Bool, true, false, List, [], ◌∷◌, Option, Some, None, length, refl, sym, ap, subst, ⊎_elim, arith}
use Rattle.std.specs.Prelude.{◌==◌, ◌||◌, nat_le, if◌then◌else◌, IfSome}
use Rattle.std.specs.List.{list_all}
use Rattle.std.proofs.lemmas.Bool.{and_parts, cases_eq, cond_both, eqb-true, leb-true, or_cases}
use Rattle.px_code.specs.Body.{is_among, is_from_to, operand_of, with_byte, with_eight_bytes, with_four_bytes, with_long_target, with_short_target, with_token, with_two_bytes, without_operand}
use Rattle.px_code.specs.declared.body.Operand.{Operand}
use Rattle.px_code.specs.declared.body.Operand.TheVariants.{Number}
use Rattle.px_code.specs.declared.body.RawInstr.{RawInstr}
use Rattle.px_asm_bodies.specs.Encoding.{HasOperand, IsEncodable}
use Rattle.px_link_opcodes.specs.Opcodes.{◌orelse◌, arithmetic_code, branch_by, checked_code, converted, converted_checked, converted_unsigned, flow_code, loaded, other_code, plain_code, slot_move, stack_move, stored}
use Rattle.px_program.specs.Formed.{targets_of}
use Rattle.px_program.specs.declared.instr.Code.{Code}
use Rattle.px_program.specs.declared.instr.Code.TheVariants as code
use Rattle.px_program.specs.declared.instr.Instr.{Instr}
use Rattle.px_asm_opcodes.specs.Recoding.{Does, IsRawOf, token_opcode}

-- INTERVALS

-- so many numbers from the first on
abbrev EachFrom : (ℕ → Type 0) → ℕ → ℕ → Type 0
EachFrom P first zero = Unit {0}
EachFrom P first (suc n) = P first × EachFrom P (first + 1) n

one_of : (P : ℕ → Type 0) (first n at : ℕ) → EachFrom P first n → first ≤ at → at < first + n → P at
one_of P first zero at each least less = absurd (omega arith)
one_of P first (suc n) at each least less =
    ⊎_elim
    (λ (e : at ≡ first). subst P (sym e) each.0)
    (λ apart. one_of P (first + 1) n at each.1 (omega (arith, least, apart)) (omega (arith, less)))
    (cases_eq at first)

one_in : (P : ℕ → Type 0) (first last at n : ℕ) → first + n ≡ last + 1 → is_from_to first last at ≡ true → EachFrom P first n → P at
one_in P first last at n count in_it each =
    let parts = and_parts (nat_le first at) (nat_le at last) in_it in
    one_of P first n at each (leb-true first at parts.0) (omega (arith, leb-true at last parts.1, count))

-- the number lies in one of two ranges
in_two : (P : ℕ → Type 0) (low high other last at : ℕ) → is_among ((low, high) ∷ (other, last) ∷ []) at ≡ true → (is_from_to low high at ≡ true → P at) → (is_from_to other last at ≡ true → P at) → P at
in_two P low high other last at among one two =
    ⊎_elim one (λ e. ⊎_elim two (λ f. absurd (cc)) (or_cases (is_from_to other last at) false e)) (or_cases (is_from_to low high at) (is_from_to other last at || false) among)

-- OPCODES

-- what an opcode does leads to these places, where it is one that is known
abbrev LeadsTo : ℕ → List ℕ → ℕ → Type 0
LeadsTo operand targets opcode = IfSome (plain_code (record { offset = 0; next = 0; opcode = opcode; operand = operand; targets = targets })) (λ made. targets_of made ≡ targets)

short_leads : (operand target opcode : ℕ) → is_among with_short_target opcode ≡ true → LeadsTo operand (target ∷ []) opcode
unfolding slot_move stack_move arithmetic_code checked_code converted converted_checked converted_unsigned flow_code branch_by loaded stored other_code
short_leads operand target opcode among =
    in_two (LeadsTo operand (target ∷ [])) 0x2B 0x37 0xDE 0xDE opcode among
    (λ e. one_in (LeadsTo operand (target ∷ [])) 0x2B 0x37 opcode 13 refl e (refl, (refl, (refl, (refl, (refl, (refl, (refl, (refl, (refl, (refl, (refl, (refl, (refl, tt))))))))))))))
    (λ e. one_in (LeadsTo operand (target ∷ [])) 0xDE 0xDE opcode 1 refl e (refl, tt))

long_leads : (operand target opcode : ℕ) → is_among with_long_target opcode ≡ true → LeadsTo operand (target ∷ []) opcode
unfolding slot_move stack_move arithmetic_code checked_code converted converted_checked converted_unsigned flow_code branch_by loaded stored other_code
long_leads operand target opcode among =
    in_two (LeadsTo operand (target ∷ [])) 0x38 0x44 0xDD 0xDD opcode among
    (λ e. one_in (LeadsTo operand (target ∷ [])) 0x38 0x44 opcode 13 refl e (refl, (refl, (refl, (refl, (refl, (refl, (refl, (refl, (refl, (refl, (refl, (refl, (refl, tt))))))))))))))
    (λ e. one_in (LeadsTo operand (target ∷ [])) 0xDD 0xDD opcode 1 refl e (refl, tt))

switch_leads : (operand : ℕ) (targets : List ℕ) → LeadsTo operand targets 0x45
unfolding slot_move stack_move arithmetic_code checked_code converted converted_checked converted_unsigned flow_code branch_by loaded stored other_code
switch_leads operand targets = cond_both (nat_le (length targets) 128) (Some (code.Switch targets)) None (λ o. IfSome (o orelse None) (λ made. targets_of made ≡ targets)) (λ e. refl) (λ e. tt)

-- INSTRUCTIONS

none_passes : (passes : ℕ → Bool) (targets : List ℕ) → targets ≡ [] → list_all passes targets ≡ true
none_passes passes targets none = ap (λ ts. list_all passes ts) none

choose : {X : Type 0} (P : X → Type 0) (test : Bool) (one other : X) → (test ≡ true → P one) → P other → P (if test then one else other)
choose P true one other here later = here refl
choose P false one other here later = later

in_some : {X : Type 0} (P Q : X → Type 0) (o : Option X) → ((x : X) → P x → Q x) → IfSome o P → IfSome o Q
in_some P Q None goes h = tt
in_some P Q (Some x) goes h = goes x h

some_all : {X : Type 0} (Q : X → Type 0) (o : Option X) → ((x : X) → Q x) → IfSome o Q
some_all Q None each = tt
some_all Q (Some x) each = each x

module _ (raw : RawInstr) (passes : ℕ → Bool) where
  -- where the instruction leads passes, if where its code leads does
  abbrev Passes : Code → Type 0
  Passes made = list_all passes (targets_of made) ≡ true → list_all passes raw.targets ≡ true

  passes_by : (targets : List ℕ) → raw.targets ≡ targets → LeadsTo raw.operand targets raw.opcode → IfSome (plain_code raw) Passes
  passes_by targets is leads =
      in_some (λ made. targets_of made ≡ raw.targets) Passes (plain_code raw) (λ made e h. subst (λ ts. list_all passes ts ≡ true) e h)
      (subst (λ ts. LeadsTo raw.operand ts raw.opcode) (sym is) leads)

  with_none : raw.targets ≡ [] → IfSome (plain_code raw) Passes
  with_none none = some_all Passes (plain_code raw) (λ made h. none_passes passes raw.targets none)

  abbrev ByOperand : Option Operand → Type 0
  ByOperand o = HasOperand o raw → IfSome (plain_code raw) Passes

  with_number : (size : ℕ) → ByOperand (Some (Number size))
  with_number size has = with_none has.no_targets

  by_operand : ByOperand (operand_of raw.opcode)
  unfolding operand_of
  by_operand =
      let n = raw.opcode in
      choose ByOperand (is_among without_operand n) _ _ (λ e. with_number 0)
      (choose ByOperand (is_among with_byte n) _ _ (λ e. with_number 1)
      (choose ByOperand (is_among with_two_bytes n) _ _ (λ e. with_number 2)
      (choose ByOperand (is_among with_four_bytes n || is_among with_token n) _ _ (λ e. with_number 4)
      (choose ByOperand (is_among with_eight_bytes n) _ _ (λ e. with_number 8)
      (choose ByOperand (is_among with_short_target n) _ _ (λ e has. passes_by (has.target ∷ []) has.is (short_leads raw.operand has.target n e))
      (choose ByOperand (is_among with_long_target n) _ _ (λ e has. passes_by (has.target ∷ []) has.is (long_leads raw.operand has.target n e))
      (choose ByOperand (n == 0x45) _ _ (λ e has. passes_by raw.targets refl (subst (λ k. LeadsTo raw.operand raw.targets k) (sym (eqb-true n 0x45 e)) (switch_leads raw.operand raw.targets)))
      (λ has. absurd has))))))))

does_lead : (o : Option ℕ) (made : Code) (token : ℕ) (raw : RawInstr) (passes : ℕ → Bool) → IsEncodable raw → Does o made token raw → list_all passes (targets_of made) ≡ true → list_all passes raw.targets ≡ true
does_lead None made token raw passes encodable does leads = subst (λ o. IfSome o (Passes raw passes)) does (by_operand raw passes encodable.operand) leads
does_lead (Some opcode) made token raw passes encodable does leads = none_passes passes raw.targets does.no_targets

-- where the instruction leads passes, if where that of the program leads does
pub raw_leads : (instr : Instr) (token : ℕ) (raw : RawInstr) (passes : ℕ → Bool) → IsRawOf instr token raw → list_all passes (targets_of instr.code) ≡ true → list_all passes raw.targets ≡ true
raw_leads instr token raw passes is leads = does_lead (token_opcode instr.code) instr.code token raw passes is.encodable is.does leads
