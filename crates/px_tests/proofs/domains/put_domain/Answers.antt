use Rattle.std.proofs.Common.{ap}
use Rattle.px_domain.specs.Text.{domain_text}
use Rattle.px_io.proofs.Putting.{puts_as}
use Rattle.px_tests.proofs.domains.put_domain.Goals as goal

pub returns : goal.returns
returns g c = puts_as g.O.Sink.written g.O.Sink.faults _ _ _ _ _ (ap domain_text c.parts.ensures.parts) c.put_all_parts.ensures
