use Rattle.std.proofs.Common.{arith}
use Rattle.px_asm_bodies.proofs.Operands.{few}
use Rattle.px_asm_bodies.proofs.Pushed.{follows, number_pushed, switch_pushed, target_pushed}
use Rattle.px_asm_bodies.proofs.instr.push_operand.Goals as goal

pub returns-then-raw-eq-SWITCH : goal.returns-then-raw-eq-SWITCH
returns-then-raw-eq-SWITCH c =
    follows _ _ c.push_distances.result
    (λ last. switch_pushed c.args.raw.now c.as_slice-targets.result.now c.args.out.now.items c.push_number.new.out.items _ c.as_slice-targets.ensures c.requires.operand c.if-raw-eq-SWITCH.true
    c.in_ok-push_number.ensures last)
    c.push_distances.ensures

pub push_number-requires-then-is_empty : goal.push_number-requires-then-is_empty
push_number-requires-then-is_empty c = omega (arith, few c.args.raw.now c.requires.operand c.if-raw-eq-SWITCH.false, c.opcode_size.ensures)

pub push_distances-requires-else-is_empty : goal.push_distances-requires-else-is_empty
push_distances-requires-else-is_empty c = omega (arith, few c.args.raw.now c.requires.operand c.if-raw-eq-SWITCH.false, c.opcode_size.ensures)

pub returns-then-is_empty : goal.returns-then-is_empty
returns-then-is_empty c =
    follows _ _ c.push_number-then-is_empty.result
    (λ last. number_pushed c.args.raw.now c.as_slice-targets.result.now c.opcode_size.result c.args.out.now.items _ c.as_slice-targets.ensures c.requires.operand c.if-raw-eq-SWITCH.false
    c.opcode_size.ensures (c.if-is_empty.ensures) last)
    c.push_number-then-is_empty.ensures

pub returns-else-is_empty : goal.returns-else-is_empty
returns-else-is_empty c =
    follows _ _ c.push_distances-else-is_empty.result
    (λ last. target_pushed c.args.raw.now c.as_slice-targets.result.now c.opcode_size.result c.args.out.now.items _ c.as_slice-targets.ensures c.requires.operand c.if-raw-eq-SWITCH.false
    c.opcode_size.ensures (c.if-is_empty.ensures) last)
    c.push_distances-else-is_empty.ensures
