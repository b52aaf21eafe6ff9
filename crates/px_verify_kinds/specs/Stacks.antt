-- Stacks that share what lies below: cells, the newest first, and a stack as the number of its top cell, counted from the oldest; 0 is the empty stack.
use Rattle.std.specs.Prelude.{◌≡◌, ◌≢◌, ℕ, suc, ◌<◌, ◌≤◌, ◌^◌, List, [], ◌∷◌, ◌++◌, ◌==◌, Bool, true, false, Option, Some, None, length, reverse, if◌then◌else◌}
use Rattle.px_program.specs.declared.program.TypeInfo.{TypeInfo}
use Rattle.px_verify_kinds.specs.Kinds.{merge}
use Rattle.px_verify_kinds.specs.declared.kind.Kind.{Kind}
use Rattle.px_verify_kinds.specs.declared.stacks.Cell.{Cell}
use Rattle.px_verify_kinds.specs.declared.stacks.Stack.{Stack}

-- the kinds of a stack, its top first
abbrev pub held : List Cell → ℕ → List Kind
held [] number = []
held (cell ∷ older) number = if number == suc (length older) then cell.kind ∷ held older cell.below else held older number

abbrev pub kinds_of : List Cell → Stack → List Kind
kinds_of cells stack = held cells stack.top

-- each cell lies on an older one, or on nothing, and knows how high its stack is
abbrev pub AreLinked : List Cell → Type 0
AreLinked [] = Unit {0}
AreLinked (cell ∷ older) = (cell.below ≤ length older) × (cell.height ≡ suc (length (held older cell.below))) × AreLinked older

-- the stack's cell is there
abbrev pub IsStack : List Cell → Stack → Type 0
IsStack cells stack = stack.top ≤ length cells

-- with more cells, each stack holds what it held
pub record Extends (old new : List Cell) : Type 0 where
  pub more : length old ≤ length new
  pub same : (number : ℕ) → number ≤ length old → held new number ≡ held old number

abbrev pub kinds_in : List Cell → Option Stack → Option (List Kind)
kinds_in cells None = None
kinds_in cells (Some stack) = Some (kinds_of cells stack)

abbrev pub IsStackIn : List Cell → Option Stack → Type 0
IsStackIn cells None = Unit {0}
IsStackIn cells (Some stack) = IsStack cells stack

-- linked cells, by their order in time; there are fewer than 2^32
pub record AreStacks (cells : List Cell) : Type 0 where
  pub linked : AreLinked (reverse cells)
  pub few : length cells < 2 ^ 32

-- What two stacks become: these kinds above a stack that both share, and whether they differ from those of the first stack.
pub record IsMerged (types : List TypeInfo) (cells : List Cell) (standing given : Stack) (kinds : List Kind) (rest : Stack) (changes : Bool) : Type 0 where
  pub there : IsStack cells rest
  pub merged : merge types (kinds_of cells standing) (kinds_of cells given) ≡ Some (kinds ++ kinds_of cells rest)
  pub same : changes ≡ false → kinds ++ kinds_of cells rest ≡ kinds_of cells standing
  pub other : changes ≡ true → kinds ++ kinds_of cells rest ≢ kinds_of cells standing
