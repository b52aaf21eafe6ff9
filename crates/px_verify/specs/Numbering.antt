-- Where the instructions of a program stand, by their offsets.
use Rattle.std.specs.Prelude.{◌≡◌, ℕ, ◌<◌, ◌⊎◌, ◌^◌, ◌-◌, List, Option, Some, None, length, slice_get, take}
use Rattle.px_program.specs.Formed.{end_of, instr_at, method_at}
use Rattle.px_program.specs.declared.instr.Instr.{Instr}
use Rattle.px_program.specs.declared.program.Method.{Method}
use Rattle.px_program.specs.declared.program.Program.{Program}

-- LOOKING UP

abbrev pub at_place : List Instr → Option ℕ → Option Instr
at_place code None = None
at_place code (Some place) = slice_get code place

-- the instruction of the number that a list has for an offset
abbrev pub instr_by : List Instr → List ℕ → ℕ → Option Instr
instr_by code places at = at_place code (slice_get places at)

-- a list has for each offset the number of the instruction that starts there, and for others a number that no instruction has
abbrev pub ArePlaces : List Instr → List ℕ → Type 0
ArePlaces code places = (at : ℕ) → instr_by code places at ≡ instr_at code at

abbrev pub instr_of : Option Method → ℕ → Option Instr
instr_of None at = None
instr_of (Some method) at = instr_at method.code at

-- the instruction of a program at an offset of the method of this number
abbrev pub instr_in : Program → ℕ → ℕ → Option Instr
instr_in program number at = instr_of (method_at program number) at

-- a list for each method
pub record AreTables (methods : List Method) (tables : List (List ℕ)) : Type 0 where
  pub count : length tables ≡ length methods
  pub each : (number : ℕ) (method : Method) (places : List ℕ) → slice_get methods number ≡ Some method → slice_get tables number ≡ Some places → ArePlaces method.code places

-- WHILE THEY ARE MADE

-- a number of one of so many instructions, or of none
abbrev pub IsPlace : ℕ → ℕ → Type 0
IsPlace count place = (place < count) ⊎ (place ≡ 2 ^ 32 - 1)

-- the first so many instructions have their places
pub record ArePlaced (code : List Instr) (count : ℕ) (places : List ℕ) : Type 0 where
  pub size : length places ≡ end_of code
  pub numbers : (at place : ℕ) → slice_get places at ≡ Some place → IsPlace count place
  pub found : ArePlaces (take count code) places

-- the first so many methods have their lists
abbrev pub AreTabled : List Method → ℕ → List (List ℕ) → Type 0
AreTabled methods count tables = AreTables (take count methods) tables
