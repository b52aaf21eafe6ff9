-- What a run may rely on in a typed method.
use Rattle.std.specs.Prelude.{◌≡◌, ℕ, List, Some, Ok}
use Rattle.std.specs.List.{AllByRecursion}
use Rattle.px_program.specs.Formed.{instr_at}
use Rattle.px_program.specs.declared.instr.Instr.{Instr}
use Rattle.px_program.specs.declared.program.Method.{Method}
use Rattle.px_program.specs.declared.program.Program.{Program}
use Rattle.px_program.specs.declared.program.TypeInfo.{TypeInfo}
use Rattle.px_verify_kinds.specs.Kinds.{FitAll}
use Rattle.px_verify_kinds.specs.declared.kind.Kind.{Kind}
use Rattle.px_verify_flow.specs.Flow.{flow}
use Rattle.px_verify_flow.specs.Leaving.{successors}
use Rattle.px_verify_rounds.specs.Table.{Table, stack_at, starts_of}

-- the offset's instruction finds a stack for which this one may stand
pub record Goes (types : List TypeInfo) (table : Table) (at : ℕ) (given : List Kind) : Type 0 where
  pub stack : List Kind
  pub stands : stack_at table at ≡ Some stack
  pub fits : FitAll types given stack

-- an instruction that finds a stack has no fault, and what it gives fits where it leads to
pub record Flows (program : Program) (method : Method) (table : Table) (i : Instr) (stack : List Kind) : Type 0 where
  pub given : List Kind
  pub flows : flow program method i stack ≡ Ok given
  pub goes : AllByRecursion (λ at. Goes program.types table at given) (successors i)

pub record Sound (program : Program) (method : Method) (table : Table) : Type 0 where
  pub starts : AllByRecursion (λ start. Goes program.types table start.0 start.1) (starts_of method)
  pub inside : (at : ℕ) (stack : List Kind) → stack_at table at ≡ Some stack → (i : Instr) × (instr_at method.code at ≡ Some i)
  pub flows : (at : ℕ) (stack : List Kind) (i : Instr) → stack_at table at ≡ Some stack → instr_at method.code at ≡ Some i → Flows program method table i stack
