use Rattle.px_program.proofs.Leaps.{IsClimbed}
use Rattle.px_program.proofs.program.Program.climb.Given as goal

abbrev pub invariant-loop-count : goal.invariant-loop-count
invariant-loop-count l = IsClimbed l.self.types l.type_number l.depth l.at l.count

-- each step leads to a type with fewer bases
abbrev pub decreases-loop-count : goal.decreases-loop-count
decreases-loop-count l = l.count
