use Rattle.std.proofs.Common.{ap, [], ◌++◌}
use Rattle.std.specs.Prelude.{codes, decimal}
use Rattle.px_io.proofs.Putting.{puts_as}
use Rattle.px_command.specs.Lines.{meta_line}
use Rattle.px_command.proofs.refusals.put_meta.Goals as goal

pub returns : goal.returns
unfolding meta_line
returns g c =
    puts_as g.O.Sink.written g.O.Sink.faults c.args.out.now c.put_pieces.new.out _ _ _
    (ap (λ t. codes "refused meta " ++ (t ++ (codes " token " ++ (decimal c.args.token ++ (codes "\n" ++ []))))) c.meta_kind_text.ensures) c.put_pieces.ensures
