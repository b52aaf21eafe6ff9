use Rattle.std.proofs.Common.{true, false, sym, ap, ◌∙◌}
use Rattle.px_link_opcodes.specs.Opcodes.{arithmetic_code, checked_code, converted, converted_checked, converted_unsigned, converts, converts_checked, flow_code, loaded, moves, other_code, reaches, slot_move, stack_move, stored}
use Rattle.px_link_opcodes.proofs.Codes.{late_told}
use Rattle.px_link_opcodes.proofs.opcode.plain_code.Goals as goal

pub returns : goal.returns
returns c =
    let raw = c.args.raw.now in
    let n = raw.opcode in
    late_told (moves (slot_move n raw.operand)) (moves (stack_move n raw.operand)) (arithmetic_code n) (checked_code n)
    (converts (converted n)) (converts_checked true (converted_checked n)) (converts_checked false (converted_unsigned n))
    (flow_code n raw.targets) (reaches false (loaded n)) (reaches true (stored n)) (other_code n) c.late_code.result
    c.in_default.ensures (sym c.in_default-2.is ∙ c.in_ok-code.ensures ∙ ap (λ ts. flow_code n ts) c.as_slice.ensures) c.late_code.ensures
