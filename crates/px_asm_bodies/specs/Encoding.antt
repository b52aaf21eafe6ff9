-- Instructions that can be written as they are (Partition III, 1.2 to 1.9).
use Rattle.std.specs.Prelude.{◌≡◌, ℕ, ◌+◌, ◌*◌, ◌<◌, ◌^◌, ◌==◌, ◌&&◌, ◌||◌, not, nat_lt, Bool, true, if◌then◌else◌, [], ◌∷◌, length, Option, Some, None}
use Rattle.std.specs.List.{AllByRecursion}
use Rattle.px_code.specs.Body.{is_from_to, operand_of, target_of}
use Rattle.px_code.specs.declared.body.Operand.{Operand}
use Rattle.px_code.specs.declared.body.Operand.TheVariants.{Number, Target, Switch}
use Rattle.px_code.specs.declared.body.RawInstr.{RawInstr}

-- one byte other than 0xFE, or two of which 0xFE is the first
abbrev pub is_opcode : ℕ → Bool
is_opcode opcode = (nat_lt opcode 0x100 && not (opcode == 0xFE)) || is_from_to 0xFE00 0xFEFF opcode

abbrev pub opcode_size : ℕ → ℕ
opcode_size opcode = if nat_lt opcode 0x100 then 1 else 2

-- the instruction has its opcode, and so many bytes behind it
abbrev pub HasSize : RawInstr → ℕ → Type 0
HasSize raw size = raw.next ≡ raw.offset + opcode_size raw.opcode + size

-- some number of so many bytes leads from the next instruction to a target
pub record LeadsTo (next size target : ℕ) : Type 0 where
  pub operand : ℕ
  pub fits : operand < 256 ^ size
  pub leads : target_of next size operand ≡ target

pub record HasNumber (raw : RawInstr) (size : ℕ) : Type 0 where
  pub size_is : HasSize raw size
  pub fits : raw.operand < 256 ^ size
  pub no_targets : raw.targets ≡ []

pub record HasTarget (raw : RawInstr) (size : ℕ) : Type 0 where
  pub size_is : HasSize raw size
  pub no_number : raw.operand ≡ 0
  pub target : ℕ
  pub is : raw.targets ≡ target ∷ []
  pub leads : LeadsTo raw.next size target

pub record IsSwitch (raw : RawInstr) : Type 0 where
  pub size_is : HasSize raw (4 + 4 * length raw.targets)
  pub no_number : raw.operand ≡ 0
  pub few : length raw.targets < 2 ^ 32
  pub lead : AllByRecursion (LeadsTo raw.next 4) raw.targets

abbrev pub HasOperand : Option Operand → RawInstr → Type 0
HasOperand None raw = ⊥
HasOperand (Some (Number size)) raw = HasNumber raw size
HasOperand (Some (Target size)) raw = HasTarget raw size
HasOperand (Some Switch) raw = IsSwitch raw

-- an opcode that there is, with an operand of its size
pub record IsEncodable (raw : RawInstr) : Type 0 where
  pub opcode : is_opcode raw.opcode ≡ true
  pub operand : HasOperand (operand_of raw.opcode) raw
