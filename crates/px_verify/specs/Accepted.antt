-- What is known of a program that was accepted.
use Rattle.std.specs.Prelude.{ℕ, List}
use Rattle.px_program.specs.Formed.{IsWellFormed}
use Rattle.px_program.specs.declared.program.Program.{Program}
use Rattle.px_verify.specs.Numbering.{AreTables}
use Rattle.px_verify.specs.Verdict.{IsTyped}

pub record IsAccepted (program : Program) (tables : List (List ℕ)) : Type 0 where
  pub formed : IsWellFormed program
  pub typed : IsTyped program
  pub has_places : AreTables program.methods tables
