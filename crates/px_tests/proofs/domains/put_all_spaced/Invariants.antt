use Rattle.std.proofs.Common.{take, Result, Ok}
use Rattle.std.specs.List.{flat_map}
use Rattle.px_io.specs.declared.sink.Stopped.{Stopped}
use Rattle.px_io.specs.Puts.{Puts}
use Rattle.px_tests.specs.Numbers.{spaced_text}
use Rattle.px_tests.proofs.domains.put_all_spaced.Given as goal

-- the first were written
abbrev pub invariant-loop-word : goal.invariant-loop-word
invariant-loop-word g l =
    let written = g.O.Sink.written in
    let faults = g.O.Sink.faults in
    let done : Result (Unit {0}) Stopped = Ok tt in
    Puts written faults l.fn.out (flat_map (spaced_text l.place) (take l.word-index l.words)) l.out done
