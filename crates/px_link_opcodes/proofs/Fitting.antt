-- What instructions without a token do leads to their targets alone, and names nothing by a number.
use Rattle.std.proofs.Common.{◌≡◌, ℕ, List, Option, Some, None, Bool, true, false, length, refl}
use Rattle.std.specs.Prelude.{◌==◌, ◌||◌, ◌&&◌, nat_le, slice_index, if◌then◌else◌}
use Rattle.std.specs.List.{list_all}
use Rattle.px_code.specs.declared.body.RawInstr.{RawInstr}
use Rattle.px_code.specs.Body.{is_from_to}
use Rattle.px_program.specs.declared.instr.Code.{Code}
use Rattle.px_program.specs.declared.instr.ElementForm.{ElementForm}
use Rattle.px_program.specs.declared.instr.IntegerType.{IntegerType}
use Rattle.px_program.specs.declared.instr.Move.{Move}
use Rattle.px_program.specs.declared.program.Program.{Program}
use Rattle.px_program.specs.Formed.{FitsForm, HasOperands, targets_of}
use Rattle.px_link_opcodes.specs.Opcodes.{◌orelse◌, arithmetic_code, branch_by, checked_code, converted, converted_checked, converted_unsigned, converts, converts_checked, flow_code, known_or_outside, loaded, moves, other_code, plain_code, reaches, short_form, slot_move, stack_move, stored}

-- all targets pass the test, and what is named by a number is there
pub record Fits (p : ℕ → Bool) (program : Program) (code : Code) : Type 0 where
  pub leads : list_all p (targets_of code) ≡ true
  pub operands : HasOperands program code

abbrev pub FitsIf : (ℕ → Bool) → Program → Option Code → Type 0
FitsIf p program None = Unit {0}
FitsIf p program (Some code) = Fits p program code

either : (p : ℕ → Bool) (program : Program) (b : Bool) (x y : Option Code) → FitsIf p program x → FitsIf p program y → FitsIf p program (if b then x else y)
either p program true x y hx hy = hx
either p program false x y hx hy = hy

first : (p : ℕ → Bool) (program : Program) (a b : Option Code) → FitsIf p program a → FitsIf p program b → FitsIf p program (a orelse b)
first p program (Some code) b h k = h
first p program None b h k = k

moves_fit : (p : ℕ → Bool) (program : Program) (o : Option Move) → FitsIf p program (moves o)
moves_fit p program None = tt
moves_fit p program (Some move) = record { leads = refl; operands = tt }

converts_fit : (p : ℕ → Bool) (program : Program) (o : Option IntegerType) → FitsIf p program (converts o)
converts_fit p program None = tt
converts_fit p program (Some to) = record { leads = refl; operands = tt }

checked_fit : (p : ℕ → Bool) (program : Program) (signed : Bool) (o : Option IntegerType) → FitsIf p program (converts_checked signed o)
checked_fit p program signed None = tt
checked_fit p program signed (Some to) = record { leads = refl; operands = tt }

arithmetic_fits : (p : ℕ → Bool) (program : Program) (opcode : ℕ) → FitsIf p program (arithmetic_code opcode)
unfolding arithmetic_code
arithmetic_fits p program n =
    either p program (n == 0x58) _ _ (record { leads = refl; operands = tt })
    (either p program (n == 0x59) _ _ (record { leads = refl; operands = tt })
    (either p program (n == 0x5A) _ _ (record { leads = refl; operands = tt })
    (either p program (n == 0x5B) _ _ (record { leads = refl; operands = tt })
    (either p program (n == 0x5C) _ _ (record { leads = refl; operands = tt })
    (either p program (n == 0x5D) _ _ (record { leads = refl; operands = tt })
    (either p program (n == 0x5E) _ _ (record { leads = refl; operands = tt })
    (either p program (n == 0x5F) _ _ (record { leads = refl; operands = tt })
    (either p program (n == 0x60) _ _ (record { leads = refl; operands = tt })
    (either p program (n == 0x61) _ _ (record { leads = refl; operands = tt })
    (either p program (n == 0x62) _ _ (record { leads = refl; operands = tt })
    (either p program (n == 0x63) _ _ (record { leads = refl; operands = tt })
    (either p program (n == 0x64) _ _ (record { leads = refl; operands = tt })
    (either p program (n == 0x65) _ _ (record { leads = refl; operands = tt })
    (either p program (n == 0x66) _ _ (record { leads = refl; operands = tt }) tt))))))))))))))

checked_code_fits : (p : ℕ → Bool) (program : Program) (opcode : ℕ) → FitsIf p program (checked_code opcode)
unfolding checked_code
checked_code_fits p program n =
    either p program (n == 0xD6) _ _ (record { leads = refl; operands = tt })
    (either p program (n == 0xD7) _ _ (record { leads = refl; operands = tt })
    (either p program (n == 0xD8) _ _ (record { leads = refl; operands = tt })
    (either p program (n == 0xD9) _ _ (record { leads = refl; operands = tt })
    (either p program (n == 0xDA) _ _ (record { leads = refl; operands = tt })
    (either p program (n == 0xDB) _ _ (record { leads = refl; operands = tt })
    (either p program (n == 0xFE01) _ _ (record { leads = refl; operands = tt })
    (either p program (n == 0xFE02) _ _ (record { leads = refl; operands = tt })
    (either p program (n == 0xFE03) _ _ (record { leads = refl; operands = tt })
    (either p program (n == 0xFE04) _ _ (record { leads = refl; operands = tt })
    (either p program (n == 0xFE05) _ _ (record { leads = refl; operands = tt }) tt))))))))))

other_fits : (p : ℕ → Bool) (program : Program) (opcode : ℕ) → FitsIf p program (other_code opcode)
unfolding other_code
other_fits p program n =
    either p program (n == 0x00) _ _ (record { leads = refl; operands = tt })
    (either p program (n == 0x01) _ _ (record { leads = refl; operands = tt })
    (either p program (n == 0x2A) _ _ (record { leads = refl; operands = tt })
    (either p program (n == 0x7A) _ _ (record { leads = refl; operands = tt })
    (either p program (n == 0x8E) _ _ (record { leads = refl; operands = tt })
    (either p program (n == 0xDC) _ _ (record { leads = refl; operands = tt })
    (either p program (n == 0xFE1A) _ _ (record { leads = refl; operands = tt }) tt))))))

-- FLOW

branch_fits : (p : ℕ → Bool) (program : Program) (opcode target : ℕ) → p target ≡ true → FitsIf p program (branch_by opcode target)
unfolding branch_by
branch_fits p program n target h =
    let to : (p target && true) ≡ true = rw h refl in
    either p program (n == 0x2B) _ _ (record { leads = to; operands = tt })
    (either p program (n == 0x2C) _ _ (record { leads = to; operands = tt })
    (either p program (n == 0x2D) _ _ (record { leads = to; operands = tt })
    (either p program (is_from_to 0x2E 0x32 n) _ _ (record { leads = to; operands = tt })
    (either p program (is_from_to 0x33 0x37 n) _ _ (record { leads = to; operands = tt }) tt))))

flow_fits : (p : ℕ → Bool) (program : Program) (opcode : ℕ) (targets : List ℕ) → list_all p targets ≡ true → p (slice_index targets 0) ≡ true → FitsIf p program (flow_code opcode targets)
unfolding flow_code
flow_fits p program n targets all h =
    let to : (p (slice_index targets 0) && true) ≡ true = rw h refl in
    either p program (n == 0x45) _ _ (either p program (nat_le (length targets) 128) _ _ (record { leads = all; operands = tt }) tt)
    (either p program ((n == 0xDD) || (n == 0xDE)) _ _ (record { leads = to; operands = tt }) (branch_fits p program (short_form n) (slice_index targets 0) h))

-- ELEMENTS

-- the form names no place
record NamesNone (form : ElementForm) : Type 0 where
  none : (program : Program) → FitsForm program.types form

abbrev NamesNoneIf : Option ElementForm → Type 0
NamesNoneIf None = Unit {0}
NamesNoneIf (Some form) = NamesNone form

either_form : (b : Bool) (x y : Option ElementForm) → NamesNoneIf x → NamesNoneIf y → NamesNoneIf (if b then x else y)
either_form true x y hx hy = hx
either_form false x y hx hy = hy

loaded_none : (opcode : ℕ) → NamesNoneIf (loaded opcode)
unfolding loaded
loaded_none n =
    either_form (n == 0x90) _ _ (record { none = λ program. tt })
    (either_form (n == 0x91) _ _ (record { none = λ program. tt })
    (either_form (n == 0x92) _ _ (record { none = λ program. tt })
    (either_form (n == 0x93) _ _ (record { none = λ program. tt })
    (either_form (n == 0x94) _ _ (record { none = λ program. tt })
    (either_form (n == 0x95) _ _ (record { none = λ program. tt })
    (either_form (n == 0x96) _ _ (record { none = λ program. tt })
    (either_form (n == 0x97) _ _ (record { none = λ program. tt })
    (either_form (n == 0x9A) _ _ (record { none = λ program. tt }) tt))))))))

stored_none : (opcode : ℕ) → NamesNoneIf (stored opcode)
unfolding stored
stored_none n =
    either_form (n == 0x9B) _ _ (record { none = λ program. tt })
    (either_form (n == 0x9C) _ _ (record { none = λ program. tt })
    (either_form (n == 0x9D) _ _ (record { none = λ program. tt })
    (either_form (n == 0x9E) _ _ (record { none = λ program. tt })
    (either_form (n == 0x9F) _ _ (record { none = λ program. tt })
    (either_form (n == 0xA2) _ _ (record { none = λ program. tt }) tt)))))

reaches_fit : (p : ℕ → Bool) (program : Program) (store : Bool) (o : Option ElementForm) → NamesNoneIf o → FitsIf p program (reaches store o)
reaches_fit p program store None h = tt
reaches_fit p program store (Some form) h = record { leads = refl; operands = h.none program }

-- ALL

pub plain_fits : (p : ℕ → Bool) (program : Program) (raw : RawInstr) → list_all p raw.targets ≡ true → p (slice_index raw.targets 0) ≡ true → FitsIf p program (plain_code raw)
plain_fits p program raw all target =
    let n = raw.opcode in
    first p program _ _ (moves_fit p program (slot_move n raw.operand))
    (first p program _ _ (moves_fit p program (stack_move n raw.operand))
    (first p program _ _ (arithmetic_fits p program n)
    (first p program _ _ (checked_code_fits p program n)
    (first p program _ _ (converts_fit p program (converted n))
    (first p program _ _ (checked_fit p program true (converted_checked n))
    (first p program _ _ (checked_fit p program false (converted_unsigned n))
    (first p program _ _ (flow_fits p program n raw.targets all target)
    (first p program _ _ (reaches_fit p program false (loaded n) (loaded_none n))
    (first p program _ _ (reaches_fit p program true (stored n) (stored_none n)) (other_fits p program n))))))))))

pub known_fits : (p : ℕ → Bool) (program : Program) (opcode : ℕ) (o : Option Code) → FitsIf p program o → Fits p program (known_or_outside opcode o)
known_fits p program opcode None h = record { leads = refl; operands = tt }
known_fits p program opcode (Some code) h = h
