use Rattle.std.proofs.Common.{ap, [], ◌++◌}
use Rattle.std.specs.Prelude.{codes, decimal}
use Rattle.px_io.proofs.Putting.{puts_as}
use Rattle.px_command.specs.Lines.{tables_line}
use Rattle.px_command.proofs.refusals.put_tables.Goals as goal

pub returns : goal.returns
unfolding tables_line
returns g c =
    puts_as g.O.Sink.written g.O.Sink.faults c.args.out.now c.put_pieces.new.out _ _ _
    (ap (λ t. codes "refused tables " ++ (t ++ (codes " at " ++ (decimal c.args.at ++ (codes "\n" ++ []))))) c.table_kind_text.ensures) c.put_pieces.ensures
