use Rattle.std.proofs.Common.{take, Result, Ok}
use Rattle.px_io.specs.declared.sink.Stopped.{Stopped}
use Rattle.px_io.specs.Puts.{Puts}
use Rattle.px_io.specs.Pieces.{name_text}
use Rattle.px_io.proofs.piece.put_name.Given as goal

-- the first bytes were written
abbrev pub invariant-loop-byte : goal.invariant-loop-byte
invariant-loop-byte g l =
    let written = g.O.Sink.written in
    let faults = g.O.Sink.faults in
    let done : Result (Unit {0}) Stopped = Ok tt in
    Puts written faults l.fn.out (name_text (take l.byte-index l.name)) l.out done
