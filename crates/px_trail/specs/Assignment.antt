-- The literals of an assignment in order, and a table of what is known of each variable.
use Rattle.std.specs.Prelude.{◌≡◌, ℕ, ◌-◌, ◌≤◌, ◌<◌, ◌^◌, ◌==◌, Bool, List, length, map, Option, Some, None, option_map, slice_index_or}
use Rattle.px_chain.specs.Clause.{variable_of}
use Rattle.px_trail.specs.declared.assignment.Known.{Known}
use Rattle.px_trail.specs.Trail.{IsAssignment, Step, decisions_of, known_of, reason_in}

-- the steps of an assignment, over variables below a number
pub record StepsOver : Type 0 where
  pub vars : ℕ
  pub steps : List Step

-- a literal with the reason that the table has
abbrev pub step_in : List (Option Known) → ℕ → Step
step_in table l = record { literal = l; reason = reason_in (slice_index_or table (variable_of l) None) }

-- the steps that the literals and the table stand for
abbrev pub steps_in : List (Option Known) → List ℕ → List Step
steps_in table literals = map (step_in table) literals

-- the table has what the steps say, the decisions are counted, and there is room for a step a variable
pub record IsKept (room : ℕ) (table : List (Option Known)) (literals : List ℕ) (decided : ℕ) : Type 0 where
  pub formed : IsAssignment (length table) (steps_in table literals)
  pub known : (variable : ℕ) → slice_index_or table variable None ≡ known_of (steps_in table literals) variable
  pub count : decided ≡ length (decisions_of (steps_in table literals))
  pub room_for_all : length table ≤ room
  pub few : length table < 2 ^ 32

-- how many decisions stood before the last step
abbrev pub last_level : ℕ → Option ℕ → ℕ
last_level level None = level - 1
last_level level (Some reason) = level

-- the value of a literal: whether it was assigned, where its variable was
abbrev pub truth_of : List Step → ℕ → Option Bool
truth_of steps l = option_map (λ (k : Known). k.literal == l) (known_of steps (variable_of l))
