use Rattle.std.proofs.Common.{arith}
use Rattle.px_io.proofs.Putting.{puts_as, puts_two}
use Rattle.px_tests.proofs.Heads.{domain_first}
use Rattle.px_tests.proofs.domains.put_all_parts.Goals as goal

pub returns-in_ok-put_part-in-len1-up : goal.returns-in_ok-put_part-in-len1-up
returns-in_ok-put_part-in-len1-up g c =
    puts_as g.O.Sink.written g.O.Sink.faults c.args.out.now c.put_parts.new.out _ _ _ (domain_first c.args.parts.now _ (omega arith))
    (puts_two c.in_ok-put_part-in-len1-up.ensures c.put_parts.ensures)
