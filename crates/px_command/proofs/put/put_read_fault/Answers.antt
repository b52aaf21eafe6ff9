use Rattle.std.proofs.Common.{ap, [], ◌++◌}
use Rattle.std.specs.Prelude.{codes}
use Rattle.px_io.proofs.Putting.{puts_as}
use Rattle.px_io.specs.Pieces.{name_text}
use Rattle.px_command.specs.Lines.{read_fault_line}
use Rattle.px_command.proofs.put.put_read_fault.Goals as goal

pub returns : goal.returns
unfolding read_fault_line
returns g c =
    puts_as g.O.Sink.written g.O.Sink.faults c.args.out.now c.put_pieces.new.out _ _ _
    (ap (λ t. codes "read fault " ++ (name_text t ++ (codes "\n" ++ []))) c.as_bytes.ensures.value) c.put_pieces.ensures
