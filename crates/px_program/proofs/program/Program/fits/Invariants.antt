use Rattle.std.proofs.Common.{suc, length, Some}
use Rattle.px_program.specs.Formed.{element_of}
use Rattle.px_program.specs.Kinds.{Fits}
use Rattle.px_program.proofs.Walks.{steps_left}
use Rattle.px_program.proofs.program.Program.fits.Given as goal

-- the one question has the same answer as the other
abbrev pub invariant-loop-to : goal.invariant-loop-to
invariant-loop-to l = record {
  on : Fits l.self.types l.type_number l.other → Fits l.self.types l.from l.to;
  back : Fits l.self.types l.from l.to → Fits l.self.types l.type_number l.other;
}

abbrev pub decreases-loop-to : goal.decreases-loop-to
decreases-loop-to l = steps_left (element_of l.self.types) (suc (length l.self.types)) (Some l.from)
