use Rattle.std.proofs.Common.{sym, arith}
use Rattle.px_asm_bodies.proofs.Read.{are_bytes}
use Rattle.px_golden_link.proofs.linking.linked.Goals as goal

pub returns-in-Ok : goal.returns-in-Ok
returns-in-Ok c = c.linked_of.ensures c.args.file.now (are_bytes c.args.file.now (λ k. omega (arith, c.type_inv.file k))) (sym c.in-Ok.ensures.exact)
