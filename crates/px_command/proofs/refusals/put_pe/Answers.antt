use Rattle.std.proofs.Common.{ap, [], ◌++◌}
use Rattle.std.specs.Prelude.{codes, decimal}
use Rattle.px_io.proofs.Putting.{puts_as}
use Rattle.px_command.specs.Lines.{pe_line}
use Rattle.px_command.proofs.refusals.put_pe.Goals as goal

pub returns : goal.returns
unfolding pe_line
returns g c =
    puts_as g.O.Sink.written g.O.Sink.faults c.args.out.now c.put_pieces.new.out _ _ _
    (ap (λ t. codes "refused pe " ++ (t ++ (codes " at " ++ (decimal c.args.at ++ (codes "\n" ++ []))))) c.pe_kind_text.ensures) c.put_pieces.ensures
