use Rattle.std.proofs.Common.{arith}
use Rattle.px_io.proofs.Putting.{puts_as, puts_two}
use Rattle.px_command.proofs.Bottoms.{stack_first}
use Rattle.px_command.proofs.stacks.put_stack.Goals as goal

pub returns-in_ok-put_kind-in-len1-up : goal.returns-in_ok-put_kind-in-len1-up
returns-in_ok-put_kind-in-len1-up g c =
    puts_as g.O.Sink.written g.O.Sink.faults c.args.out.now c.put_others.new.out _ _ _ (stack_first c.args.kinds.now _ (omega arith))
    (puts_two c.in_ok-put_kind-in-len1-up.ensures c.put_others.ensures)
