-- What finds the bases of a type without walking along all of them: of each type how many bases it has, and one of them to leap to
-- (E. W. Myers, An applicative random-access stack, Information Processing Letters 17, 1983).
use Rattle.std.specs.Prelude.{◌≡◌, ℕ, ◌+◌, ◌-◌, ◌⊎◌, ◌==◌, List, Option, Some, None, length, slice_get, if◌then◌else◌}
use Rattle.px_program.specs.Lines.{DerivesFrom, IsChain, IsKindOf, base_of}
use Rattle.px_program.specs.declared.program.TypeInfo.{TypeInfo}
use Rattle.px_program.specs.declared.type_table.Step.{Step}

-- a base of two types, of which all that both have is a base too
pub record IsNearestBase (types : List TypeInfo) (one other base : ℕ) : Type 0 where
  pub of_one : IsKindOf types one base
  pub of_other : IsKindOf types other base
  pub nearest : (further : ℕ) → IsKindOf types one further → IsKindOf types other further → IsKindOf types base further

-- so many bases stand behind a type
pub record HasBases (types : List TypeInfo) (type count : ℕ) : Type 0 where
  pub behind : List ℕ
  pub chain : IsChain (base_of types) type behind
  pub count_is : length behind ≡ count

-- bases of two types, with equally many bases, of which all that both types have is a base of both too
pub record AreBothOn (types : List TypeInfo) (one other next beside : ℕ) : Type 0 where
  pub derives : DerivesFrom types one next
  pub other_derives : DerivesFrom types other beside
  pub even : (count : ℕ) → HasBases types next count → HasBases types beside count
  pub shared : (further : ℕ) → IsKindOf types one further → IsKindOf types other further → IsKindOf types next further × IsKindOf types beside further

-- STEPS

-- a type has so many bases, and leaps to one of them; without a base it leaps to itself
pub record IsStep (types : List TypeInfo) (type : ℕ) (step : Step) : Type 0 where
  pub depth : HasBases types type step.depth
  pub jump : ((base_of types type ≡ None) × (step.jump ≡ type)) ⊎ DerivesFrom types type step.jump

-- that of a type without a base
abbrev pub no_step : ℕ → Step
no_step type = record { depth = 0; jump = type }

abbrev pub step_or : ℕ → Option Step → Step
step_or type None = no_step type
step_or type (Some step) = step

-- the step of a type; a number past the list is no type, and has no base
abbrev pub step_of : List Step → ℕ → Step
step_of steps type = step_or type (slice_get steps type)

abbrev pub AreSteps : List TypeInfo → List Step → Type 0
AreSteps types steps = (type : ℕ) → IsStep types type (step_of steps type)

-- how far a type leaps
abbrev pub leap_of : List Step → ℕ → ℕ
leap_of steps type = (step_of steps type).depth - (step_of steps (step_of steps type).jump).depth

-- the step of a type with this base: over both leaps where the one from the base is as long as the next one, else to the base
abbrev pub step_on : List Step → ℕ → Step
step_on steps base = record {
  depth = (step_of steps base).depth + 1;
  jump = if leap_of steps base == leap_of steps (step_of steps base).jump then (step_of steps (step_of steps base).jump).jump else base;
}

-- a step that isn't known yet stands as if there were no base
abbrev pub AreStepsSoFar : List TypeInfo → List Step → Type 0
AreStepsSoFar types steps = (type : ℕ) → (step_of steps type ≡ no_step type) ⊎ IsStep types type (step_of steps type)

-- the step of a type was made known, and those that were known still are
pub record IsSettled (types : List TypeInfo) (old new : List Step) (type : ℕ) : Type 0 where
  pub size : length new ≡ length types
  pub so_far : AreStepsSoFar types new
  pub known : IsStep types type (step_of new type)
  pub kept : (other : ℕ) → IsStep types other (step_of old other) → IsStep types other (step_of new other)
