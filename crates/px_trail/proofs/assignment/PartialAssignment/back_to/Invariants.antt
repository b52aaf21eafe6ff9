use Rattle.std.proofs.Common.{◌≡◌, ◌≤◌, length}
use Rattle.px_trail.specs.Trail.{decisions_of, up_to}
use Rattle.px_trail.proofs.assignment.PartialAssignment.back_to.Given as goal

abbrev pub invariant-loop-self : goal.invariant-loop-self
invariant-loop-self l =
    (l.self.vars ≡ l.initial.self.vars) × (up_to l.level l.self.steps ≡ up_to l.level l.initial.self.steps) × (l.level ≤ length (decisions_of l.self.steps))

abbrev pub decreases-loop-self : goal.decreases-loop-self
decreases-loop-self l = length l.self.steps
