-- The first fault of a method, as it is looked for.
use Rattle.std.specs.Prelude.{◌≡◌, ℕ, ◌==◌, ◌<◌, Bool, false, drop, reverse, List, [], ◌∷◌, Option, Some, None}
use Rattle.px_program.specs.Formed.{method_at}
use Rattle.px_program.specs.declared.instr.Instr.{Instr}
use Rattle.px_program.specs.declared.program.Method.{Method}
use Rattle.px_program.specs.declared.program.Program.{Program}
use Rattle.px_verify_flow.specs.declared.fault.VerifyKind.{VerifyKind}
use Rattle.px_verify_rounds.specs.Table.{Table, outcome_at, stack_at}
use Rattle.px_verify_rounds.specs.Typings.{IsValid, table_of}
use Rattle.px_verify_rounds.specs.declared.typing.Typing.{Typing}
use Rattle.px_verify.specs.Verdict.{IsRefusedMethod, IsTypedMethod, fault_in}
use Rattle.px_verify.specs.declared.fault.VerifyFault.{VerifyFault}
use Rattle.px_verify.specs.declared.fault.VerifyFault.TheVariants as verify_faults

abbrev pub is_at : Option ℕ → ℕ → Bool
is_at None at = false
is_at (Some least) at = least == at

abbrev pub or_later_at : ℕ → Option VerifyKind → Option (ℕ × VerifyKind) → Option (ℕ × VerifyKind)
or_later_at at None later = later
or_later_at at (Some kind) later = Some (at, kind)

-- the first of these instructions that has a fault, by its offset, where none before the least clash has a bad merge
abbrev pub first_where : Program → Method → Table → Option ℕ → List Instr → Option (ℕ × VerifyKind)
first_where program method table least [] = None
first_where program method table least (i ∷ more) =
    or_later_at i.offset (fault_in (is_at least i.offset) (outcome_at program method table i)) (first_where program method table least more)

-- after so many instructions
pub record Scanning (program : Program) (method : Method) (least : Option ℕ) (old : Typing) (index : ℕ) (new : Typing) : Type 0 where
  pub same : table_of new ≡ table_of old
  pub valid : IsValid new
  pub rest : first_where program method (table_of old) least (drop index method.code) ≡ first_where program method (table_of old) least method.code

abbrev pub place_of : Option (Instr × VerifyKind) → Option (ℕ × VerifyKind)
place_of None = None
place_of (Some fault) = Some (fault.0.offset, fault.1)

-- a refused instruction: the stack that it finds stands at its offset
abbrev pub IsBadAt : Table → ℕ → ℕ → VerifyKind → VerifyFault → Type 0
IsBadAt table number offset kind verify_faults.Memory = Unit {0}
IsBadAt table number offset kind (verify_faults.Bad method place stack why) = (method ≡ number) × (place ≡ offset) × (why ≡ kind) × (stack_at table offset ≡ Some (reverse stack))

-- what is wrong with the method of this number
abbrev pub IsMethodFault : Program → ℕ → Method → VerifyFault → Type 0
IsMethodFault program number method verify_faults.Memory = Unit {0}
IsMethodFault program number method (verify_faults.Bad place offset stack kind) = (place ≡ number) × IsRefusedMethod program method offset (reverse stack) kind

-- the methods below this number are typed
abbrev pub AreTypedBelow : Program → ℕ → Type 0
AreTypedBelow program number = (other : ℕ) (earlier : Method) → other < number → method_at program other ≡ Some earlier → IsTypedMethod program earlier
