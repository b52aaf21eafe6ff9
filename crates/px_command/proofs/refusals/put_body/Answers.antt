use Rattle.std.proofs.Common.{ap, [], ◌++◌}
use Rattle.std.specs.Prelude.{codes, decimal}
use Rattle.px_io.proofs.Putting.{puts_as}
use Rattle.px_command.specs.Lines.{body_line}
use Rattle.px_command.proofs.refusals.put_body.Goals as goal

pub returns : goal.returns
unfolding body_line
returns g c =
    puts_as g.O.Sink.written g.O.Sink.faults c.args.out.now c.put_pieces.new.out _ _ _
    (ap (λ t. codes "refused body " ++ (t ++ (codes " at " ++ (decimal c.args.at ++ (codes " method " ++ (decimal c.args.method ++ (codes "\n" ++ []))))))) c.body_kind_text.ensures) c.put_pieces.ensures
