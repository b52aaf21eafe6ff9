-- An instruction without a token names nothing.
use Rattle.std.proofs.Common.{◌≡◌, ℕ, Bool, true, false, List, Option, Some, None, refl, sym, ap, ◌∙◌, ⊎_elim, eqb-true}
use Rattle.std.specs.Prelude.{◌==◌, ◌||◌, nat_le, if◌then◌else◌, slice_index, length}
use Rattle.std.proofs.lemmas.Bool.{cases_Bool, or_cases}
use Rattle.px_code.specs.Body.{is_from_to}
use Rattle.px_code.specs.declared.body.RawInstr.{RawInstr}
use Rattle.px_link_opcodes.specs.Opcodes.{◌orelse◌, arithmetic_code, branch_by, checked_code, converted, converted_checked, converted_unsigned, converts, converts_checked, flow_code, loaded, moves, other_code, plain_code, reaches, short_form, slot_move, stack_move, stored}
use Rattle.px_link_tokens.specs.Operands.{operand_of}
use Rattle.px_link_tokens.specs.declared.operand.Operand.{Operand}
use Rattle.px_program.specs.declared.instr.Code.{Code}
use Rattle.px_program.specs.declared.instr.Code.TheVariants as code
use Rattle.px_program.specs.declared.instr.ElementForm.{ElementForm}
use Rattle.px_program.specs.declared.instr.IntegerType.{IntegerType}
use Rattle.px_program.specs.declared.instr.Move.{Move}
use Rattle.px_asm_opcodes.specs.Recoding.{token_opcode}
use Rattle.px_tables.specs.Metadata.{View}

-- OPCODES WITH A TOKEN

-- what an instruction does, by its parts
abbrev by_parts : ℕ → ℕ → List ℕ → Option Code
by_parts opcode operand targets =
    moves (slot_move opcode operand) orelse moves (stack_move opcode operand)
    orelse arithmetic_code opcode orelse checked_code opcode
    orelse converts (converted opcode) orelse converts_checked true (converted_checked opcode) orelse converts_checked false (converted_unsigned opcode)
    orelse flow_code opcode targets
    orelse reaches false (loaded opcode) orelse reaches true (stored opcode)
    orelse other_code opcode

-- an opcode of no instruction without a token
record IsTokenOpcode (opcode : ℕ) : Type 0 where
  none : (operand : ℕ) (targets : List ℕ) → by_parts opcode operand targets ≡ None

text_token : IsTokenOpcode 0x72
unfolding arithmetic_code branch_by checked_code converted converted_checked converted_unsigned flow_code loaded other_code slot_move stack_move stored
text_token = record { none = λ operand targets. refl }

array_token : IsTokenOpcode 0x8D
unfolding arithmetic_code branch_by checked_code converted converted_checked converted_unsigned flow_code loaded other_code slot_move stack_move stored
array_token = record { none = λ operand targets. refl }

load_token : IsTokenOpcode 0xA3
unfolding arithmetic_code branch_by checked_code converted converted_checked converted_unsigned flow_code loaded other_code slot_move stack_move stored
load_token = record { none = λ operand targets. refl }

store_token : IsTokenOpcode 0xA4
unfolding arithmetic_code branch_by checked_code converted converted_checked converted_unsigned flow_code loaded other_code slot_move stack_move stored
store_token = record { none = λ operand targets. refl }

cast_token : IsTokenOpcode 0x74
unfolding arithmetic_code branch_by checked_code converted converted_checked converted_unsigned flow_code loaded other_code slot_move stack_move stored
cast_token = record { none = λ operand targets. refl }

test_token : IsTokenOpcode 0x75
unfolding arithmetic_code branch_by checked_code converted converted_checked converted_unsigned flow_code loaded other_code slot_move stack_move stored
test_token = record { none = λ operand targets. refl }

field_token : IsTokenOpcode 0x7B
unfolding arithmetic_code branch_by checked_code converted converted_checked converted_unsigned flow_code loaded other_code slot_move stack_move stored
field_token = record { none = λ operand targets. refl }

set_field_token : IsTokenOpcode 0x7D
unfolding arithmetic_code branch_by checked_code converted converted_checked converted_unsigned flow_code loaded other_code slot_move stack_move stored
set_field_token = record { none = λ operand targets. refl }

static_token : IsTokenOpcode 0x7E
unfolding arithmetic_code branch_by checked_code converted converted_checked converted_unsigned flow_code loaded other_code slot_move stack_move stored
static_token = record { none = λ operand targets. refl }

set_static_token : IsTokenOpcode 0x80
unfolding arithmetic_code branch_by checked_code converted converted_checked converted_unsigned flow_code loaded other_code slot_move stack_move stored
set_static_token = record { none = λ operand targets. refl }

call_token : IsTokenOpcode 0x28
unfolding arithmetic_code branch_by checked_code converted converted_checked converted_unsigned flow_code loaded other_code slot_move stack_move stored
call_token = record { none = λ operand targets. refl }

virtual_token : IsTokenOpcode 0x6F
unfolding arithmetic_code branch_by checked_code converted converted_checked converted_unsigned flow_code loaded other_code slot_move stack_move stored
virtual_token = record { none = λ operand targets. refl }

made_token : IsTokenOpcode 0x73
unfolding arithmetic_code branch_by checked_code converted converted_checked converted_unsigned flow_code loaded other_code slot_move stack_move stored
made_token = record { none = λ operand targets. refl }

not_plain : (raw : RawInstr) (opcode : ℕ) (c : Code) → IsTokenOpcode opcode → (raw.opcode == opcode) ≡ true → plain_code raw ≡ Some c → ⊥
not_plain raw opcode c is e plain =
    let none : by_parts raw.opcode raw.operand raw.targets ≡ None = ap (λ k. by_parts k raw.operand raw.targets) (eqb-true raw.opcode opcode e) ∙ is.none raw.operand raw.targets in
    cc

-- a `callvirt` has a token
pub plain_not_virtual : (raw : RawInstr) (c : Code) → plain_code raw ≡ Some c → (raw.opcode == 0x6F) ≡ false
plain_not_virtual raw c plain = ⊎_elim (λ e. absurd (not_plain raw 0x6F c virtual_token e plain)) (λ e. e) (cases_Bool (raw.opcode == 0x6F))

step : (test : Bool) (one other : Option Operand) → (test ≡ true → ⊥) → other ≡ None → (if test then one else other) ≡ None
step true one other never later = absurd (never refl)
step false one other never later = later

pub plain_names_nothing : (v : View) (raw : RawInstr) (at : ℕ) (c : Code) → plain_code raw ≡ Some c → operand_of v raw.opcode at ≡ None
unfolding operand_of
plain_names_nothing v raw at c plain =
    let one : (opcode : ℕ) → IsTokenOpcode opcode → (raw.opcode == opcode) ≡ true → ⊥ = λ opcode is e. not_plain raw opcode c is e plain in
    let either : (opcode other : ℕ) → IsTokenOpcode opcode → IsTokenOpcode other → ((raw.opcode == opcode) || (raw.opcode == other)) ≡ true → ⊥ =
    λ opcode other is also e. ⊎_elim (one opcode is) (one other also) (or_cases (raw.opcode == opcode) (raw.opcode == other) e) in
    step (raw.opcode == 0x72) _ _ (one 0x72 text_token)
    (step (raw.opcode == 0x8D) _ _ (one 0x8D array_token)
    (step ((raw.opcode == 0xA3) || (raw.opcode == 0xA4)) _ _ (either 0xA3 0xA4 load_token store_token)
    (step ((raw.opcode == 0x74) || (raw.opcode == 0x75)) _ _ (either 0x74 0x75 cast_token test_token)
    (step ((raw.opcode == 0x7B) || (raw.opcode == 0x7D)) _ _ (either 0x7B 0x7D field_token set_field_token)
    (step ((raw.opcode == 0x7E) || (raw.opcode == 0x80)) _ _ (either 0x7E 0x80 static_token set_static_token)
    (step (raw.opcode == 0x28) _ _ (one 0x28 call_token)
    (step (raw.opcode == 0x6F) _ _ (one 0x6F virtual_token)
    (step (raw.opcode == 0x73) _ _ (one 0x73 made_token) refl))))))))

-- CODES WITHOUT A TOKEN

abbrev HasNone : Option Code → Type 0
HasNone None = Unit {0}
HasNone (Some code) = token_opcode code ≡ None

either : (b : Bool) (x y : Option Code) → HasNone x → HasNone y → HasNone (if b then x else y)
either true x y hx hy = hx
either false x y hx hy = hy

first : (a b : Option Code) → HasNone a → HasNone b → HasNone (a orelse b)
first (Some code) b h k = h
first None b h k = k

-- a move of no text
abbrev IsNoText : Option Move → Type 0
IsNoText None = Unit {0}
IsNoText (Some move) = token_opcode (code.Move move) ≡ None

move_either : (b : Bool) (x y : Option Move) → IsNoText x → IsNoText y → IsNoText (if b then x else y)
move_either true x y hx hy = hx
move_either false x y hx hy = hy

slot_none : (opcode operand : ℕ) → IsNoText (slot_move opcode operand)
unfolding slot_move
slot_none n operand =
    move_either (is_from_to 0x02 0x05 n) _ _ refl
    (move_either (is_from_to 0x06 0x09 n) _ _ refl
    (move_either (is_from_to 0x0A 0x0D n) _ _ refl
    (move_either (n == 0x0E) _ _ refl
    (move_either (n == 0x10) _ _ refl
    (move_either (n == 0x11) _ _ refl
    (move_either (n == 0x13) _ _ refl
    (move_either (n == 0xFE09) _ _ refl
    (move_either (n == 0xFE0B) _ _ refl
    (move_either (n == 0xFE0C) _ _ refl
    (move_either (n == 0xFE0E) _ _ refl tt))))))))))

stack_none : (opcode operand : ℕ) → IsNoText (stack_move opcode operand)
unfolding stack_move
stack_none n operand =
    move_either (n == 0x14) _ _ refl
    (move_either (n == 0x15) _ _ refl
    (move_either (is_from_to 0x16 0x1E n) _ _ refl
    (move_either (n == 0x1F) _ _ refl
    (move_either (n == 0x20) _ _ refl
    (move_either (n == 0x21) _ _ refl
    (move_either (n == 0x25) _ _ refl
    (move_either (n == 0x26) _ _ refl tt)))))))

moves_none : (o : Option Move) → IsNoText o → HasNone (moves o)
moves_none None is = tt
moves_none (Some move) is = is

arithmetic_none : (opcode : ℕ) → HasNone (arithmetic_code opcode)
unfolding arithmetic_code
arithmetic_none n =
    either (n == 0x58) _ _ refl
    (either (n == 0x59) _ _ refl
    (either (n == 0x5A) _ _ refl
    (either (n == 0x5B) _ _ refl
    (either (n == 0x5C) _ _ refl
    (either (n == 0x5D) _ _ refl
    (either (n == 0x5E) _ _ refl
    (either (n == 0x5F) _ _ refl
    (either (n == 0x60) _ _ refl
    (either (n == 0x61) _ _ refl
    (either (n == 0x62) _ _ refl
    (either (n == 0x63) _ _ refl
    (either (n == 0x64) _ _ refl
    (either (n == 0x65) _ _ refl
    (either (n == 0x66) _ _ refl tt))))))))))))))

checked_none : (opcode : ℕ) → HasNone (checked_code opcode)
unfolding checked_code
checked_none n =
    either (n == 0xD6) _ _ refl
    (either (n == 0xD7) _ _ refl
    (either (n == 0xD8) _ _ refl
    (either (n == 0xD9) _ _ refl
    (either (n == 0xDA) _ _ refl
    (either (n == 0xDB) _ _ refl
    (either (n == 0xFE01) _ _ refl
    (either (n == 0xFE02) _ _ refl
    (either (n == 0xFE03) _ _ refl
    (either (n == 0xFE04) _ _ refl
    (either (n == 0xFE05) _ _ refl tt))))))))))

other_none : (opcode : ℕ) → HasNone (other_code opcode)
unfolding other_code
other_none n =
    either (n == 0x00) _ _ refl
    (either (n == 0x01) _ _ refl
    (either (n == 0x2A) _ _ refl
    (either (n == 0x7A) _ _ refl
    (either (n == 0x8E) _ _ refl
    (either (n == 0xDC) _ _ refl
    (either (n == 0xFE1A) _ _ refl tt))))))

converts_none : (o : Option IntegerType) → HasNone (converts o)
converts_none None = tt
converts_none (Some to) = refl

converts_checked_none : (signed : Bool) (o : Option IntegerType) → HasNone (converts_checked signed o)
converts_checked_none signed None = tt
converts_checked_none signed (Some to) = refl

branch_none : (opcode target : ℕ) → HasNone (branch_by opcode target)
unfolding branch_by
branch_none n target =
    either (n == 0x2B) _ _ refl
    (either (n == 0x2C) _ _ refl
    (either (n == 0x2D) _ _ refl
    (either (is_from_to 0x2E 0x32 n) _ _ refl
    (either (is_from_to 0x33 0x37 n) _ _ refl tt))))

flow_none : (opcode : ℕ) (targets : List ℕ) → HasNone (flow_code opcode targets)
unfolding flow_code
flow_none n targets =
    either (n == 0x45) _ _ (either (nat_le (length targets) 128) _ _ refl tt)
    (either ((n == 0xDD) || (n == 0xDE)) _ _ refl (branch_none (short_form n) (slice_index targets 0)))

abbrev IsUntyped : Option ElementForm → Type 0
IsUntyped None = Unit {0}
IsUntyped (Some form) = (store : Bool) → token_opcode (code.Element store form) ≡ None

form_either : (b : Bool) (x y : Option ElementForm) → IsUntyped x → IsUntyped y → IsUntyped (if b then x else y)
form_either true x y hx hy = hx
form_either false x y hx hy = hy

loaded_none : (opcode : ℕ) → IsUntyped (loaded opcode)
unfolding loaded
loaded_none n =
    form_either (n == 0x90) _ _ (λ store. refl)
    (form_either (n == 0x91) _ _ (λ store. refl)
    (form_either (n == 0x92) _ _ (λ store. refl)
    (form_either (n == 0x93) _ _ (λ store. refl)
    (form_either (n == 0x94) _ _ (λ store. refl)
    (form_either (n == 0x95) _ _ (λ store. refl)
    (form_either (n == 0x96) _ _ (λ store. refl)
    (form_either (n == 0x97) _ _ (λ store. refl)
    (form_either (n == 0x9A) _ _ (λ store. refl) tt))))))))

stored_none : (opcode : ℕ) → IsUntyped (stored opcode)
unfolding stored
stored_none n =
    form_either (n == 0x9B) _ _ (λ store. refl)
    (form_either (n == 0x9C) _ _ (λ store. refl)
    (form_either (n == 0x9D) _ _ (λ store. refl)
    (form_either (n == 0x9E) _ _ (λ store. refl)
    (form_either (n == 0x9F) _ _ (λ store. refl)
    (form_either (n == 0xA2) _ _ (λ store. refl) tt)))))

reaches_none : (store : Bool) (o : Option ElementForm) → IsUntyped o → HasNone (reaches store o)
reaches_none store None is = tt
reaches_none store (Some form) is = is store

all_none : (raw : RawInstr) → HasNone (plain_code raw)
all_none raw =
    first _ _ (moves_none _ (slot_none raw.opcode raw.operand))
    (first _ _ (moves_none _ (stack_none raw.opcode raw.operand))
    (first _ _ (arithmetic_none raw.opcode)
    (first _ _ (checked_none raw.opcode)
    (first _ _ (converts_none (converted raw.opcode))
    (first _ _ (converts_checked_none true (converted_checked raw.opcode))
    (first _ _ (converts_checked_none false (converted_unsigned raw.opcode))
    (first _ _ (flow_none raw.opcode raw.targets)
    (first _ _ (reaches_none false _ (loaded_none raw.opcode))
    (first _ _ (reaches_none true _ (stored_none raw.opcode)) (other_none raw.opcode))))))))))

none_by : (o : Option Code) (c : Code) → HasNone o → o ≡ Some c → token_opcode c ≡ None
none_by None c is e = absurd (cc)
none_by (Some code) c is e = let same : code ≡ c = cc in ap token_opcode (sym same) ∙ is

pub plain_has_no_token : (raw : RawInstr) (c : Code) → plain_code raw ≡ Some c → token_opcode c ≡ None
plain_has_no_token raw c plain = none_by (plain_code raw) c (all_none raw) plain
