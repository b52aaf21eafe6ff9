use Rattle.std.proofs.Common.{Result, Ok}
use Rattle.px_io.specs.declared.sink.Stopped.{Stopped}
use Rattle.px_io.specs.Puts.{Puts}
use Rattle.px_tests.specs.Text.{tests_text}
use Rattle.px_tests.proofs.report.put_tests.Given as goal

-- the first lines were written
abbrev pub invariant-loop-number : goal.invariant-loop-number
invariant-loop-number g l =
    let written = g.O.Sink.written in
    let faults = g.O.Sink.faults in
    let done : Result (Unit {0}) Stopped = Ok tt in
    Puts written faults l.fn.out (tests_text l.program l.domain l.records l.number) l.out done
