use Rattle.std.proofs.Common.{take, Result, Ok}
use Rattle.px_io.specs.declared.sink.Stopped.{Stopped}
use Rattle.px_io.specs.Puts.{Puts}
use Rattle.px_io.specs.Pieces.{pieces_text}
use Rattle.px_io.proofs.piece.put_pieces.Given as goal

-- the first pieces were written
abbrev pub invariant-loop-piece : goal.invariant-loop-piece
invariant-loop-piece g l =
    let written = g.O.Sink.written in
    let faults = g.O.Sink.faults in
    let done : Result (Unit {0}) Stopped = Ok tt in
    Puts written faults l.fn.out (pieces_text (take l.piece-index l.pieces)) l.out done
