-- What the search for a typing keeps: what is still to do in a round, and how often entries may still change.
use Rattle.std.specs.Prelude.{◌≡◌, ◌⊎◌, ℕ, suc, ◌+◌, ◌*◌, ◌<◌, ◌≤◌, nat_lt, Bool, true, false, if◌then◌else◌, List, [], ◌∷◌, Option, Some, None}
use Rattle.std.specs.BTreeSet.{BTreeSet, btree_set_len, contains}
use Rattle.std.specs.List.{AllByRecursion}
use Rattle.std.specs.Ordering.{nat_cmp}
use Rattle.px_program.specs.Formed.{instr_at}
use Rattle.px_program.specs.declared.instr.Instr.{Instr}
use Rattle.px_program.specs.declared.program.Method.{Method}
use Rattle.px_program.specs.declared.program.Program.{Program}
use Rattle.px_program.specs.declared.program.TypeInfo.{TypeInfo}
use Rattle.px_verify_kinds.specs.Heights.{most_height, stack_height}
use Rattle.px_verify_kinds.specs.declared.kind.Kind.{Kind}
use Rattle.px_verify_rounds.specs.Table.{IsQuiet, Table, begin, begun, give, give_all, one, round, rounds, stack_at}
use Rattle.px_verify_rounds.specs.declared.worklist.Worklist.{Worklist}

-- THE REST OF A ROUND

-- the instructions from an offset on give what they give, in order
abbrev pub sweep_from : Program → Method → ℕ → Table → List Instr → Table
sweep_from program method from table [] = table
sweep_from program method from table (i ∷ more) = sweep_from program method from (if nat_lt i.offset from then table else one program method table i) more

-- HEIGHTS

-- an entry without a stack may still get any
abbrev pub entry_height : List TypeInfo → ℕ → Option (List Kind) → ℕ
entry_height types most None = most
entry_height types most (Some stack) = stack_height types stack

-- how often entries may still change, where each stack that is given is lower than this
abbrev pub potential : List TypeInfo → ℕ → Table → ℕ
potential types most [] = 0
potential types most (entry ∷ more) = entry_height types most entry + potential types most more

-- no stack that a method's instructions or starts give is as high
abbrev pub highest : List TypeInfo → Method → ℕ
highest types method = suc (suc method.max_stack * most_height types)

-- what a stack that came to an entry has done, by whether it changed that
pub record Gave (types : List TypeInfo) (given : List Kind) (at : ℕ) (old new : Table) (changed : Bool) : Type 0 where
  pub table : new ≡ give types given old at
  pub still : changed ≡ false → new ≡ old
  pub falls : changed ≡ true → (most : ℕ) → stack_height types given < most → potential types most new < potential types most old

-- WORKLISTS

abbrev pub IsIn : BTreeSet ℕ → ℕ → Type 0
IsIn set at = contains nat_cmp set at ≡ true

-- an offset whose stack changed waits: behind the instruction that gave it in this round, and else in the next one
abbrev pub Waits : ℕ → Worklist → ℕ → Type 0
Waits from work at = (from < at → IsIn work.now at) × (at ≤ from → IsIn work.later at)

-- a set with one more
pub record Added (old new : BTreeSet ℕ) (at : ℕ) : Type 0 where
  pub there : IsIn new at
  pub keeps : (other : ℕ) → IsIn old other → IsIn new other
  pub only : (other : ℕ) → IsIn new other → IsIn old other ⊎ (other ≡ at)
  pub few : btree_set_len new ≤ btree_set_len old + 1

-- a set without its least one
pub record Popped (old new : BTreeSet ℕ) (at : ℕ) : Type 0 where
  pub there : IsIn old at
  pub others : (other : ℕ) → IsIn old other → (other ≡ at) ⊎ IsIn new other
  pub behind : (other : ℕ) → IsIn new other → at < other
  pub one : btree_set_len new + 1 ≡ btree_set_len old

-- the first offset of this round was taken
pub record Takes (old new : Worklist) (at : ℕ) : Type 0 where
  pub now : Popped old.now new.now at
  pub later : new.later ≡ old.later

-- there is none
pub record IsOver (old new : Worklist) : Type 0 where
  pub none : btree_set_len new.now ≡ 0
  pub was : btree_set_len old.now ≡ 0
  pub nothing : (at : ℕ) → IsIn old.now at → ⊥
  pub later : new.later ≡ old.later

abbrev pub how_many : Worklist → ℕ
how_many work = btree_set_len work.now + btree_set_len work.later

-- what waited waits on, and only offsets behind this one came to those of this round
pub record Keeps (from : ℕ) (old new : Worklist) : Type 0 where
  pub now : (at : ℕ) → IsIn old.now at → IsIn new.now at
  pub later : (at : ℕ) → IsIn old.later at → IsIn new.later at
  pub behind : (at : ℕ) → IsIn new.now at → IsIn old.now at ⊎ (from < at)

-- a worklist with one more offset
pub record Puts (from at : ℕ) (old new : Worklist) : Type 0 where
  pub waits : Waits from new at
  pub keeps : Keeps from old new
  pub few : how_many new ≤ how_many old + 1

-- how much may still be done
abbrev pub to_do : List TypeInfo → ℕ → Table → Worklist → ℕ
to_do types most table work = 2 * potential types most table + how_many work

-- gifts of the instruction at an offset: where a stack changed the offset waits
pub record Moves (types : List TypeInfo) (most from : ℕ) (old : Table) (work : Worklist) (new : Table) (after : Worklist) : Type 0 where
  pub marks : (at : ℕ) → (stack_at new at ≡ stack_at old at) ⊎ Waits from after at
  pub keeps : Keeps from work after
  pub no_more : to_do types most new after ≤ to_do types most old work

-- the stack is lower than this, or comes to no offset
abbrev pub IsLow : List TypeInfo → List Kind → List ℕ → ℕ → Type 0
IsLow types given to most = (stack_height types given < most) ⊎ (to ≡ [])

-- a stack came to all of these
pub record Spreads (types : List TypeInfo) (from : ℕ) (given : List Kind) (to : List ℕ) (old : Table) (work : Worklist) (new : Table) (after : Worklist) : Type 0 where
  pub table : new ≡ give_all types given old to
  pub moves : (most : ℕ) → IsLow types given to most → Moves types most from old work new after

-- stacks came to these starts: where they changed something the offset is in the set
pub record Begins (types : List TypeInfo) (starts : List (ℕ × List Kind)) (old : Table) (set : BTreeSet ℕ) (new : Table) (after : BTreeSet ℕ) : Type 0 where
  pub table : new ≡ begin types old starts
  pub marks : (at : ℕ) → (stack_at new at ≡ stack_at old at) ⊎ IsIn after at
  pub keeps : (at : ℕ) → IsIn set at → IsIn after at

-- the instruction gave what it gives
pub record Gives (program : Program) (method : Method) (i : Instr) (old : Table) (work : Worklist) (new : Table) (after : Worklist) : Type 0 where
  pub table : new ≡ one program method old i
  pub moves : Moves program.types (highest program.types method) i.offset old work new after

abbrev pub one_in : Program → Method → Table → Option Instr → Table
one_in program method table None = table
one_in program method table (Some i) = one program method table i

-- the instruction at the offset did, where there is one
pub record Visits (program : Program) (method : Method) (at : ℕ) (old : Table) (work : Worklist) (new : Table) (after : Worklist) : Type 0 where
  pub table : new ≡ one_in program method old (instr_at method.code at)
  pub moves : Moves program.types (highest program.types method) at old work new after

-- ROUNDS

-- an instruction waits in this set, or gives nothing new
abbrev pub Awaits : Program → Method → Table → BTreeSet ℕ → Instr → Type 0
Awaits program method table set i = IsIn set i.offset ⊎ IsQuiet program method table i

-- at the beginning of a round: what is not quiet waits for it
pub record Begun (program : Program) (method : Method) (table : Table) (work : Worklist) : Type 0 where
  pub waits : AllByRecursion (Awaits program method table work.now) method.code
  pub some : 0 < btree_set_len work.now

-- within a round, all below an offset done
pub record InRound (program : Program) (method : Method) (begun : Table) (work : Worklist) (table : Table) (left : Worklist) : Type 0 where
  pub from : ℕ
  pub rest : sweep_from program method from table method.code ≡ round program method begun
  pub ahead : AllByRecursion (λ i. from ≤ i.offset → Awaits program method table left.now i) method.code
  pub done : AllByRecursion (λ i. i.offset < from → Awaits program method table left.later i) method.code
  pub behind : (at : ℕ) → IsIn left.now at → from ≤ at
  pub no_more : to_do program.types (highest program.types method) table left ≤ to_do program.types (highest program.types method) begun work
  pub less : (0 < btree_set_len left.now) ⊎ (to_do program.types (highest program.types method) table left < to_do program.types (highest program.types method) begun work)

-- a whole round: what is not quiet waits for the next one
pub record Rounds (program : Program) (method : Method) (begun : Table) (work : Worklist) (table : Table) (left : Worklist) : Type 0 where
  pub swept : table ≡ round program method begun
  pub waits : AllByRecursion (Awaits program method table left.later) method.code
  pub none : btree_set_len left.now ≡ 0
  pub less : to_do program.types (highest program.types method) table left < to_do program.types (highest program.types method) begun work

-- between rounds: what is not quiet waits
pub record Between (program : Program) (method : Method) (table : Table) (work : Worklist) : Type 0 where
  pub count : ℕ
  pub reached : rounds program method count (begun program method) ≡ table
  pub waits : AllByRecursion (Awaits program method table work.later) method.code
  pub none : btree_set_len work.now ≡ 0
