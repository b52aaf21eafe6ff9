use Rattle.std.proofs.Common.{arith}
use Rattle.px_io.proofs.Putting.{puts_as, puts_two}
use Rattle.px_tests.proofs.Heads.{numbers_first}
use Rattle.px_tests.proofs.domains.put_numbers.Goals as goal

pub returns-in_ok-put_number-in-len1-up : goal.returns-in_ok-put_number-in-len1-up
returns-in_ok-put_number-in-len1-up g c =
    puts_as g.O.Sink.written g.O.Sink.faults c.args.out.now c.put_all_spaced.new.out _ _ _ (numbers_first c.args.place c.args.words.now _ (omega arith))
    (puts_two c.in_ok-put_number-in-len1-up.ensures c.put_all_spaced.ensures)
