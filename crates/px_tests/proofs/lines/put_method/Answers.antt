use Rattle.std.proofs.Common.{ap, [], ◌++◌}
use Rattle.std.specs.Prelude.{codes}
use Rattle.px_io.proofs.Putting.{puts_as}
use Rattle.px_io.specs.Pieces.{name_text}
use Rattle.px_tests.specs.Text.{method_text}
use Rattle.px_tests.proofs.lines.put_method.Goals as goal

pub returns : goal.returns
unfolding method_text
returns g c =
    puts_as g.O.Sink.written g.O.Sink.faults c.args.out.now c.put_pieces.new.out _ _ _
    (ap (λ t. codes "pex report 1\ninput method " ++ (name_text t ++ (codes "\ndomain " ++ []))) c.as_bytes.ensures.value) c.put_pieces.ensures
