-- The typing of a method (Partition III, 1.7 and 1.8): for each offset the stack that the instruction there finds.
use Rattle.std.specs.Prelude.{◌≡◌, ℕ, zero, suc, Bool, false, List, [], ◌∷◌, replicate, is_none, Option, Some, None, Ok, Err, slice_get, slice_set}
use Rattle.std.specs.List.{AllByRecursion, flat_map}
use Rattle.px_program.specs.Formed.{end_of}
use Rattle.px_program.specs.declared.instr.Instr.{Instr}
use Rattle.px_program.specs.declared.program.Clause.{Clause}
use Rattle.px_program.specs.declared.program.ClauseKind.{ClauseKind}
use Rattle.px_program.specs.declared.program.ClauseKind.TheVariants as clauses
use Rattle.px_program.specs.declared.program.Method.{Method}
use Rattle.px_program.specs.declared.program.Program.{Program}
use Rattle.px_program.specs.declared.program.TypeInfo.{TypeInfo}
use Rattle.px_verify_kinds.specs.Heights.{met}
use Rattle.px_verify_kinds.specs.Kinds.{merge}
use Rattle.px_verify_kinds.specs.declared.kind.Kind.{Kind}
use Rattle.px_verify_kinds.specs.declared.kind.Kind.TheVariants as kinds
use Rattle.px_verify_flow.specs.Flow.{flow}
use Rattle.px_verify_flow.specs.Leaving.{successors}
use Rattle.px_verify_flow.specs.Outcome.{Outcome}

-- TABLES

-- an entry for each offset of the code, which has a stack, its top first, where an instruction there was given one
abbrev pub Table : Type 0
Table = List (Option (List Kind))

abbrev pub entry_in : Option (Option (List Kind)) → Option (List Kind)
entry_in None = None
entry_in (Some entry) = entry

abbrev pub stack_at : Table → ℕ → Option (List Kind)
stack_at table at = entry_in (slice_get table at)

-- a stack comes to an entry: the first one stands there, and each further one is merged; one that doesn't merge leaves what stands
abbrev pub met_entry : List TypeInfo → Option (List Kind) → List Kind → Option (List Kind)
met_entry types None given = Some given
met_entry types (Some standing) given = Some (met types standing given)

abbrev pub set_entry : Table → ℕ → Option (Option (List Kind)) → (Option (List Kind) → Option (List Kind)) → Table
set_entry table at None change = table
set_entry table at (Some entry) change = slice_set table at (change entry)

-- a stack comes to an offset
abbrev pub give : List TypeInfo → List Kind → Table → ℕ → Table
give types given table at = set_entry table at (slice_get table at) (λ entry. met_entry types entry given)

-- it comes to each of these offsets, in order
abbrev pub give_all : List TypeInfo → List Kind → Table → List ℕ → Table
give_all types given table [] = table
give_all types given table (at ∷ more) = give_all types given (give types given table at) more

-- a stack that comes to an entry doesn't merge with what stands there
abbrev pub clashes_with : List TypeInfo → List Kind → Option (List Kind) → Bool
clashes_with types given None = false
clashes_with types given (Some standing) = is_none (merge types standing given)

-- the stack doesn't merge with the one that stands there
abbrev pub clashes : List TypeInfo → Table → ℕ → List Kind → Bool
clashes types table at given = clashes_with types given (stack_at table at)

-- ROUNDS

abbrev pub flow_on : Program → Method → Instr → Option (List Kind) → Option Outcome
flow_on program method i None = None
flow_on program method i (Some stack) = Some (flow program method i stack)

-- what an instruction makes of the stack that it finds, where it finds one
abbrev pub outcome_at : Program → Method → Table → Instr → Option Outcome
outcome_at program method table i = flow_on program method i (stack_at table i.offset)

abbrev pub give_outcome : List TypeInfo → Table → List ℕ → Option Outcome → Table
give_outcome types table to None = table
give_outcome types table to (Some (Err fault)) = table
give_outcome types table to (Some (Ok given)) = give_all types given table to

-- an instruction without a fault gives its stack to all that it may lead to
abbrev pub one : Program → Method → Table → Instr → Table
one program method table i = give_outcome program.types table (successors i) (outcome_at program method table i)

-- each of these instructions does, in order
abbrev pub sweep : Program → Method → Table → List Instr → Table
sweep program method table [] = table
sweep program method table (i ∷ more) = sweep program method (one program method table i) more

-- a round: all instructions by offset
abbrev pub round : Program → Method → Table → Table
round program method table = sweep program method table method.code

abbrev pub rounds : Program → Method → ℕ → Table → Table
rounds program method zero table = table
rounds program method (suc n) table = rounds program method n (round program method table)

-- STARTS

abbrev pub class_start : ℕ → Option ℕ → List (ℕ × List Kind)
class_start at None = []
class_start at (Some class) = (at, kinds.Ref class ∷ []) ∷ []

abbrev pub block_start : ClauseKind → ℕ → Option ℕ → List (ℕ × List Kind)
block_start clauses.Catch at class = class_start at class
block_start clauses.Filter at class = []
block_start clauses.Finally at class = (at, []) ∷ []
block_start clauses.Fault at class = (at, []) ∷ []

-- a catch block starts with what is caught, a finally or fault block with nothing; no stack comes to the block of a filter, nor to that of a class that nothing is of
abbrev pub start_of : Clause → List (ℕ × List Kind)
start_of clause = block_start clause.kind clause.start clause.class

-- the first instruction starts with nothing, and then the blocks by their clauses
abbrev pub starts_of : Method → List (ℕ × List Kind)
starts_of method = (0, []) ∷ flat_map start_of method.clauses

abbrev pub begin : List TypeInfo → Table → List (ℕ × List Kind) → Table
begin types table [] = table
begin types table (start ∷ more) = begin types (give types start.1 table start.0) more

abbrev pub untyped : Method → Table
untyped method = replicate (end_of method.code) None

-- the table before the first round
abbrev pub begun : Program → Method → Table
begun program method = begin program.types (untyped method) (starts_of method)

-- THE TYPING

-- what the instruction gives changes nothing
abbrev pub IsQuiet : Program → Method → Table → Instr → Type 0
IsQuiet program method table i = (given : List Kind) → outcome_at program method table i ≡ Some (Ok given) → AllByRecursion (λ at. give program.types given table at ≡ table) (successors i)

-- the table that the rounds come to, and that nothing changes any more
pub record IsTable (program : Program) (method : Method) (table : Table) : Type 0 where
  pub count : ℕ
  pub reached : rounds program method count (begun program method) ≡ table
  pub quiet : AllByRecursion (IsQuiet program method table) method.code
