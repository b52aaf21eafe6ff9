use Rattle.std.proofs.Common.{◌≡◌, ◌++◌, ap, ◌∙◌, subst}
use Rattle.std.specs.Prelude.{IfOk}
use Rattle.px_code.specs.Body.{body_of}
use Rattle.px_asm_described.specs.Describes.{method_row}
use Rattle.px_asm_law_written.specs.Holds.{IsAddress, IsBodyIn}
use Rattle.px_asm_tokens.proofs.BodyStands.{added_at, read_there}
use Rattle.px_asm_tokens.proofs.bodies.push_body.Goals as goal

pub returns-clause-address : goal.returns-clause-address
returns-clause-address c = λ method at.
    let p = c.args.rows.now in
    let s = c.body_of.new.store in
    let bodies = c.push_bytes.new.bodies.items in
    let there = c.index-as_slice-number.result in
    let same : there ≡ method = read_there c.as_slice.result.now p.methods c.args.number there method (c.as_slice.ensures ∙ ap (λ q. q.methods) c.program.ensures.same) at c.index-as_slice-number.is in
    let is = subst (λ row. IsBodyIn p s row there c.in_ok-body.body) c.method_row.ensures.row c.in_ok-body.ensures.is in
    subst (λ m. IfOk c.push_bytes.result (IsAddress p s bodies (method_row p c.args.number) m m.code)) same
    (added_at p s _ there c.in_ok-body.body is c.args.bodies.now.items bodies c.as_slice-2.result.now c.push_bytes.result
    (λ e. absurd (let t = c.if-is_empty.ensures.1 e in cc)) (λ rest. ap (λ xs. body_of (xs ++ rest)) c.as_slice-2.ensures.value ∙ c.in_ok-bytes.ensures.read rest) c.push_bytes.ensures.behind c.push_bytes.ensures.address)
