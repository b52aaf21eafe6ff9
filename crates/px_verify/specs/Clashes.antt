-- The least offset to which a stack comes that doesn't merge, as it is looked for.
use Rattle.std.specs.Prelude.{◌≡◌, ℕ, ◌<◌, nat_lt, Bool, true, false, if◌then◌else◌, List, [], ◌∷◌, drop, Option, Some, None, Ok}
use Rattle.px_program.specs.declared.instr.Instr.{Instr}
use Rattle.px_program.specs.declared.program.Clause.{Clause}
use Rattle.px_program.specs.declared.program.Method.{Method}
use Rattle.px_program.specs.declared.program.Program.{Program}
use Rattle.px_program.specs.declared.program.TypeInfo.{TypeInfo}
use Rattle.px_verify_kinds.specs.declared.kind.Kind.{Kind}
use Rattle.px_verify_flow.specs.Leaving.{successors}
use Rattle.px_verify_flow.specs.Outcome.{Outcome}
use Rattle.px_verify_kinds.specs.Stacks.{Extends, kinds_of}
use Rattle.px_verify_kinds.specs.declared.stacks.Stack.{Stack}
use Rattle.px_verify_rounds.specs.Table.{Table, clashes, outcome_at, start_of}
use Rattle.px_verify_rounds.specs.Typings.{IsValid, table_of}
use Rattle.px_verify_rounds.specs.declared.typing.Typing.{Typing}

-- the least offset that passes a test; none passes where there is none
abbrev pub IsLeast : Option ℕ → (ℕ → Bool) → Type 0
IsLeast None test = (at : ℕ) → test at ≡ false
IsLeast (Some least) test = (test least ≡ true) × ((at : ℕ) → at < least → test at ≡ false)

abbrev pub earlier : Option ℕ → ℕ → Option ℕ
earlier None at = Some at
earlier (Some least) at = Some (if nat_lt at least then at else least)

-- an offset is noted where a stack clashes there
abbrev pub noted : Bool → Option ℕ → ℕ → Option ℕ
noted false least at = least
noted true least at = earlier least at

-- STARTS

abbrev pub noted_starts : List TypeInfo → Table → Option ℕ → List (ℕ × List Kind) → Option ℕ
noted_starts types table least [] = least
noted_starts types table least (start ∷ more) = noted_starts types table (noted (clashes types table start.0 start.1) least start.0) more

abbrev pub noted_clauses : List TypeInfo → Table → Option ℕ → List Clause → Option ℕ
noted_clauses types table least [] = least
noted_clauses types table least (clause ∷ more) = noted_clauses types table (noted_starts types table least (start_of clause)) more

-- INSTRUCTIONS

abbrev pub noted_all : List TypeInfo → Table → List Kind → Option ℕ → List ℕ → Option ℕ
noted_all types table given least [] = least
noted_all types table given least (at ∷ more) = noted_all types table given (noted (clashes types table at given) least at) more

abbrev pub noted_outcome : List TypeInfo → Table → List ℕ → Option ℕ → Option Outcome → Option ℕ
noted_outcome types table to least (Some (Ok given)) = noted_all types table given least to
noted_outcome types table to least _ = least

abbrev pub noted_by : Program → Method → Table → Option ℕ → List Instr → Option ℕ
noted_by program method table least [] = least
noted_by program method table least (i ∷ more) = noted_by program method table (noted_outcome program.types table (successors i) least (outcome_at program method table i)) more

-- what was noted after so many of the offsets
pub record Noting (types : List TypeInfo) (old : Typing) (given : Stack) (first : Option ℕ) (to : List ℕ) (index : ℕ) (new : Typing) (least : Option ℕ) : Type 0 where
  pub same : table_of new ≡ table_of old
  pub kept : Extends old.stacks new.stacks
  pub valid : IsValid new
  pub rest : noted_all types (table_of old) (kinds_of old.stacks given) least (drop index to) ≡ noted_all types (table_of old) (kinds_of old.stacks given) first to

-- and after so many of the instructions
pub record NotingBy (program : Program) (method : Method) (old : Typing) (first : Option ℕ) (index : ℕ) (new : Typing) (least : Option ℕ) : Type 0 where
  pub same : table_of new ≡ table_of old
  pub valid : IsValid new
  pub rest : noted_by program method (table_of old) least (drop index method.code) ≡ noted_by program method (table_of old) first method.code

-- of all starts and all instructions
abbrev pub least_clash : Program → Method → Table → Option ℕ
least_clash program method table = noted_by program method table (noted_clauses program.types table (noted (clashes program.types table 0 []) None 0) method.clauses) method.code

-- what was noted after so many of the clauses
pub record NotingStarts (types : List TypeInfo) (old : Typing) (first : Option ℕ) (clauses : List Clause) (index : ℕ) (new : Typing) (least : Option ℕ) : Type 0 where
  pub same : table_of new ≡ table_of old
  pub valid : IsValid new
  pub rest : noted_clauses types (table_of old) least (drop index clauses) ≡ noted_clauses types (table_of old) first clauses
