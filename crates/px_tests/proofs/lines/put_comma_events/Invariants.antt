use Rattle.std.proofs.Common.{take, Result, Ok}
use Rattle.std.specs.List.{flat_map}
use Rattle.px_io.specs.declared.sink.Stopped.{Stopped}
use Rattle.px_io.specs.Puts.{Puts}
use Rattle.px_tests.specs.Text.{comma_event_text}
use Rattle.px_tests.proofs.lines.put_comma_events.Given as goal

-- the first were written
abbrev pub invariant-loop-event : goal.invariant-loop-event
invariant-loop-event g l =
    let written = g.O.Sink.written in
    let faults = g.O.Sink.faults in
    let done : Result (Unit {0}) Stopped = Ok tt in
    Puts written faults l.fn.out (flat_map comma_event_text (take l.event-index l.events)) l.out done
