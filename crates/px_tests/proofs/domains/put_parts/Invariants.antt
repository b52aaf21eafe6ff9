use Rattle.std.proofs.Common.{take, Result, Ok}
use Rattle.std.specs.List.{flat_map}
use Rattle.px_io.specs.declared.sink.Stopped.{Stopped}
use Rattle.px_io.specs.Puts.{Puts}
use Rattle.px_domain.specs.Text.{part_text}
use Rattle.px_tests.proofs.domains.put_parts.Given as goal

-- the first were written
abbrev pub invariant-loop-part : goal.invariant-loop-part
invariant-loop-part g l =
    let written = g.O.Sink.written in
    let faults = g.O.Sink.faults in
    let done : Result (Unit {0}) Stopped = Ok tt in
    Puts written faults l.fn.out (flat_map part_text (take l.part-index l.parts)) l.out done
