use Rattle.std.proofs.Common.{◌==◌, ◌∙◌}
use Rattle.px_tables.proofs.Headers.{len_is}
use Rattle.px_tables.proofs.streams.len_before_zero.Goals as goal

pub returns-clause-len : goal.returns-clause-len
returns-clause-len c = c.unwrap_or.ensures ∙ len_is (λ byte. byte == 0) c.args.bytes.now c.first_zero.result c.first_zero.ensures
