-- Laws of typings.
use Rattle.std.specs.Prelude.{◌≡◌, ◌≢◌, ℕ, List, [], Some}
use Rattle.px_program.specs.Formed.{IsWellFormed, method_at}
use Rattle.px_program.specs.declared.program.Method.{Method}
use Rattle.px_program.specs.declared.program.Program.{Program}
use Rattle.px_verify_kinds.specs.declared.kind.Kind.{Kind}
use Rattle.px_verify_flow.specs.declared.fault.VerifyKind.{VerifyKind}
use Rattle.px_verify.specs.Sound.{Sound}
use Rattle.px_verify_rounds.specs.Table.{IsTable, Table}
use Rattle.px_verify.specs.Verdict.{IsRefused, IsTyped, IsTypedMethod}

-- a method has at most one table
abbrev pub TableIsOne : Type 0
TableIsOne = (program : Program) (method : Method) (table other : Table) → IsTable program method table → IsTable program method other → table ≡ other

-- no program is both typed and refused
abbrev pub NotBoth : Type 0
NotBoth = (program : Program) (number offset : ℕ) (stack : List Kind) (kind : VerifyKind) → IsTyped program → IsRefused program number offset stack kind → ⊥

-- there is one first fault
pub record IsSameFault (number offset : ℕ) (stack : List Kind) (kind : VerifyKind) (number2 offset2 : ℕ) (stack2 : List Kind) (kind2 : VerifyKind) : Type 0 where
  pub method : number ≡ number2
  pub at : offset ≡ offset2
  pub finds : stack ≡ stack2
  pub fault : kind ≡ kind2

abbrev pub FaultIsOne : Type 0
FaultIsOne = (program : Program) (number offset : ℕ) (stack : List Kind) (kind : VerifyKind) (number2 offset2 : ℕ) (stack2 : List Kind) (kind2 : VerifyKind) →
    IsRefused program number offset stack kind → IsRefused program number2 offset2 stack2 kind2 → IsSameFault number offset stack kind number2 offset2 stack2 kind2

-- the typing of a method with instructions, of a program that is well formed, is one that a run may rely on
abbrev pub TypingIsSound : Type 0
TypingIsSound = (program : Program) (number : ℕ) (method : Method) → IsWellFormed program → method_at program number ≡ Some method → method.code ≢ [] → (typed : IsTypedMethod program method) → Sound program method typed.table
