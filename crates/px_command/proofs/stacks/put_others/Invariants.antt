use Rattle.std.proofs.Common.{take, Result, Ok}
use Rattle.std.specs.List.{flat_map}
use Rattle.px_io.specs.declared.sink.Stopped.{Stopped}
use Rattle.px_io.specs.Puts.{Puts}
use Rattle.px_command.specs.Lines.{other_text}
use Rattle.px_command.proofs.stacks.put_others.Given as goal

-- the first were written
abbrev pub invariant-loop-kind : goal.invariant-loop-kind
invariant-loop-kind g l =
    let written = g.O.Sink.written in
    let faults = g.O.Sink.faults in
    let done : Result (Unit {0}) Stopped = Ok tt in
    Puts written faults l.fn.out (flat_map other_text (take l.kind-index l.kinds)) l.out done
