use Rattle.std.proofs.Common.{◌≡◌, length}
use Rattle.px_trail.specs.Trail.{decisions_of}
use Rattle.px_golden_solve.proofs.script.run_lines.Given as goal

-- the decisions are counted
abbrev pub invariant-loop-line : goal.invariant-loop-line
invariant-loop-line l =
    (goal.iterator-loop-line).can_next l.line-iterator ×
    (goal.iterator-loop-line).is_finite l.line-iterator ×
    (l.depth ≡ length (decisions_of l.trail.steps))
