-- Which programs are typed, and what is wrong with others.
use Rattle.std.specs.Prelude.{◌≡◌, ℕ, ◌==◌, ◌&&◌, ◌||◌, ◌<◌, Bool, true, false, List, [], ◌∷◌, Option, Some, None, Result, Ok, Err, reverse}
use Rattle.std.specs.List.{AllByRecursion, list_any}
use Rattle.px_program.specs.Formed.{method_at}
use Rattle.px_program.specs.declared.instr.Instr.{Instr}
use Rattle.px_program.specs.declared.program.Method.{Method}
use Rattle.px_program.specs.declared.program.Program.{Program}
use Rattle.px_program.specs.declared.program.TypeInfo.{TypeInfo}
use Rattle.px_verify_kinds.specs.declared.kind.Kind.{Kind}
use Rattle.px_verify_flow.specs.Leaving.{successors}
use Rattle.px_verify_flow.specs.Outcome.{Outcome}
use Rattle.px_verify_flow.specs.declared.fault.VerifyKind.{VerifyKind}
use Rattle.px_verify_flow.specs.declared.fault.VerifyKind.TheVariants as faults
use Rattle.px_verify.specs.declared.fault.VerifyFault.{VerifyFault}
use Rattle.px_verify.specs.declared.fault.VerifyFault.TheVariants as verify_faults
use Rattle.px_verify_rounds.specs.Table.{IsTable, Table, clashes, outcome_at, stack_at, starts_of}

-- MERGES

abbrev pub leads_to : ℕ → List ℕ → Bool
leads_to at to = list_any (λ other. other == at) to

abbrev pub outcome_clashes : List TypeInfo → Table → ℕ → List ℕ → Option Outcome → Bool
outcome_clashes types table at to (Some (Ok given)) = leads_to at to && clashes types table at given
outcome_clashes types table at to _ = false

-- an instruction gives the offset a stack that doesn't merge
abbrev pub gives_clash : Program → Method → Table → ℕ → Instr → Bool
gives_clash program method table at i = outcome_clashes program.types table at (successors i) (outcome_at program method table i)

-- some start or some instruction gives the offset a stack that doesn't merge
abbrev pub is_bad_merge : Program → Method → Table → ℕ → Bool
is_bad_merge program method table at =
    list_any (λ start. (start.0 == at) && clashes program.types table at start.1) (starts_of method) || list_any (gives_clash program method table at) method.code

-- FAULTS

abbrev pub fault_in : Bool → Option Outcome → Option VerifyKind
fault_in bad_merge None = None
fault_in bad_merge (Some (Err fault)) = Some fault
fault_in true (Some (Ok given)) = Some faults.BadMerge
fault_in false (Some (Ok given)) = None

-- the first fault of an instruction; one that finds no stack has none
abbrev pub fault_at : Program → Method → Table → Instr → Option VerifyKind
fault_at program method table i = fault_in (is_bad_merge program method table i.offset) (outcome_at program method table i)

abbrev pub or_later : Instr → Option VerifyKind → Option (Instr × VerifyKind) → Option (Instr × VerifyKind)
or_later i None later = later
or_later i (Some kind) later = Some (i, kind)

-- the first of these instructions that has a fault
abbrev pub first_fault : Program → Method → Table → List Instr → Option (Instr × VerifyKind)
first_fault program method table [] = None
first_fault program method table (i ∷ more) = or_later i (fault_at program method table i) (first_fault program method table more)

-- the method's typing refuses no instruction; a method without instructions has nothing to refuse
pub record IsTypedMethod (program : Program) (method : Method) : Type 0 where
  pub table : Table
  pub is_table : IsTable program method table
  pub faultless : first_fault program method table method.code ≡ None

-- the method's typing refuses the instruction at this offset first, which finds this stack
pub record IsRefusedMethod (program : Program) (method : Method) (offset : ℕ) (stack : List Kind) (kind : VerifyKind) : Type 0 where
  pub table : Table
  pub is_table : IsTable program method table
  pub instr : Instr
  pub first : first_fault program method table method.code ≡ Some (instr, kind)
  pub at : instr.offset ≡ offset
  pub finds : stack_at table offset ≡ Some stack

-- PROGRAMS

abbrev pub IsTyped : Program → Type 0
IsTyped program = AllByRecursion (IsTypedMethod program) program.methods

-- the first method that is refused
pub record IsRefused (program : Program) (number offset : ℕ) (stack : List Kind) (kind : VerifyKind) : Type 0 where
  pub method : Method
  pub at : method_at program number ≡ Some method
  pub refused : IsRefusedMethod program method offset stack kind
  pub before : (other : ℕ) (earlier : Method) → other < number → method_at program other ≡ Some earlier → IsTypedMethod program earlier

-- what is wrong with the program
abbrev pub IsFault : Program → VerifyFault → Type 0
IsFault program verify_faults.Memory = Unit {0}
IsFault program (verify_faults.Bad method offset stack kind) = IsRefused program method offset (reverse stack) kind

-- what the verifier answers
abbrev pub IsVerdict : Program → Result Program VerifyFault → Type 0
IsVerdict program (Ok verified) = IsTyped program
IsVerdict program (Err fault) = IsFault program fault
