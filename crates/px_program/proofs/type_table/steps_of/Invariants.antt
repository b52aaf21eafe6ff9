use Rattle.std.specs.Prelude.{◌≡◌, ◌<◌, ℕ, length}
use Rattle.px_program.specs.Bases.{AreStepsSoFar, IsStep, step_of}
use Rattle.px_program.proofs.type_table.steps_of.Given as goal

-- the steps of the first types are known
abbrev pub invariant-loop-number : goal.invariant-loop-number
invariant-loop-number l = record {
  size : length l.steps.items ≡ length l.types;
  so_far : AreStepsSoFar l.types l.steps.items;
  known : (type : ℕ) → type < l.number → IsStep l.types type (step_of l.steps.items type);
}
