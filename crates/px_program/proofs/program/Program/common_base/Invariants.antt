use Rattle.std.proofs.Common.{suc, length, Some}
use Rattle.px_program.specs.Lines.{base_of}
use Rattle.px_program.proofs.Leaps.{AreSoughtNow}
use Rattle.px_program.proofs.Walks.{steps_left}
use Rattle.px_program.proofs.program.Program.common_base.Given as goal

abbrev pub invariant-loop-at : goal.invariant-loop-at
invariant-loop-at l = AreSoughtNow l.self.types l.one l.other l.at l.beside

abbrev pub decreases-loop-at : goal.decreases-loop-at
decreases-loop-at l = steps_left (base_of l.self.types) (suc (length l.self.types)) (Some l.at)
