use Rattle.std.proofs.Common.{take}
use Rattle.px_trail.specs.Trail.{literals_of}
use Rattle.px_trail.proofs.Scans.{Opens}
use Rattle.px_trail.proofs.propagation.scan.Given as goal

abbrev pub invariant-loop-l : goal.invariant-loop-l
invariant-loop-l l = Opens (literals_of l.assignment.steps) (take l.l-index l.clause) l.last
