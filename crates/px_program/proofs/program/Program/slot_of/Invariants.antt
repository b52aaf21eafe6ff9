use Rattle.std.proofs.Common.{suc, length, Some}
use Rattle.px_program.specs.Formed.{base_of}
use Rattle.px_program.proofs.Slots.{AddsUp}
use Rattle.px_program.proofs.Walks.{steps_left}
use Rattle.px_program.proofs.program.Program.slot_of.Given as goal

abbrev pub invariant-loop-base : goal.invariant-loop-base
invariant-loop-base l = AddsUp l.self.types l.fn.field l.slot l.at

abbrev pub decreases-loop-base : goal.decreases-loop-base
decreases-loop-base l = steps_left (base_of l.self.types) (suc (length l.self.types)) (Some l.at)
