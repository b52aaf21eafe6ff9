use Rattle.std.proofs.Common.{arith}
use Rattle.px_asm_bodies.proofs.Read.{are_bytes, read_encodable}
use Rattle.px_golden_link.proofs.bodies.rewritten.Goals as goal

pub write_body-requires-clause-code : goal.write_body-requires-clause-code
write_body-requires-clause-code c =
    read_encodable c.args.bytes.now c.in_ok-body.body (are_bytes c.args.bytes.now (λ k. omega (arith, c.type_inv.bytes k))) c.in_ok-body.ensures.exact
