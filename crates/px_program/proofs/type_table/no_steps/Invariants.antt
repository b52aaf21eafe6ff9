use Rattle.std.specs.Prelude.{◌≡◌, ℕ, length}
use Rattle.px_program.specs.Bases.{no_step, step_of}
use Rattle.px_program.proofs.type_table.no_steps.Given as goal

abbrev pub invariant-loop-number : goal.invariant-loop-number
invariant-loop-number l = record {
  size : length l.steps.items ≡ l.number;
  none : (type : ℕ) → step_of l.steps.items type ≡ no_step type;
}
