use Rattle.std.proofs.Common.{arith}
use Rattle.px_io.proofs.Putting.{puts_as, puts_two}
use Rattle.px_tests.proofs.Heads.{path_first}
use Rattle.px_tests.proofs.lines.put_path.Goals as goal

pub returns-in_ok-put_event-in-len1-up : goal.returns-in_ok-put_event-in-len1-up
returns-in_ok-put_event-in-len1-up g c =
    puts_as g.O.Sink.written g.O.Sink.faults c.args.out.now c.put_comma_events.new.out _ _ _ (path_first c.args.events.now _ (omega arith))
    (puts_two c.in_ok-put_event-in-len1-up.ensures c.put_comma_events.ensures)
