use Rattle.std.specs.Prelude.{◌==◌}
use Rattle.px_link_types.proofs.Tables.{up_to_end, up_to_first}
use Rattle.px_link_types.proofs.table.up_to_zero.Goals as goal

pub returns-in-Some : goal.returns-in-Some
returns-in-Some c = up_to_first (λ byte. byte == 0) c.args.bytes.now c.in-Some.end (let is = c.in-Some.ensures.place in cc)

pub returns-in-None : goal.returns-in-None
returns-in-None c = up_to_end (λ byte. byte == 0) c.args.bytes.now (let is = c.in-None.ensures.place in cc)
