use Rattle.std.proofs.Common.{ap, [], ◌++◌}
use Rattle.std.specs.Prelude.{codes, decimal}
use Rattle.px_io.proofs.Putting.{puts_as}
use Rattle.px_command.specs.Lines.{verify_front}
use Rattle.px_command.proofs.stacks.put_front.Goals as goal

pub returns : goal.returns
unfolding verify_front
returns g c =
    puts_as g.O.Sink.written g.O.Sink.faults c.args.out.now c.put_pieces.new.out _ _ _
    (ap (λ t. codes "refused verify " ++ (t ++ (codes " method " ++ (decimal c.args.method ++ (codes " offset " ++ (decimal c.args.offset ++ (codes " stack " ++ []))))))) c.verify_kind_text.ensures) c.put_pieces.ensures
