use Rattle.std.proofs.lemmas.Result.{err_from_is_err_and}
use Rattle.px_gates.specs.declared.gate.Gate.TheVariants.{Xor}
use Rattle.px_gates.proofs.Formulas.{KeepsFormula-next}
use Rattle.px_gates.proofs.gates.Gates.full_adder.Goals as goal

pub returns-in_err-bit-clause-kept : goal.returns-in_err-bit-clause-kept
returns-in_err-bit-clause-kept c =
    let p = err_from_is_err_and c.from_residual-in_err-bit.result c.from_residual-in_err-bit.ensures.1 in
    rw p.1 (KeepsFormula-next c.args.self.now c.xor.new.self c.xor-2.new.self (Xor c.args.x c.args.y) c.in_ok-either.ensures.made c.in_err-bit.ensures.kept)

pub returns-in_err-above-clause-kept : goal.returns-in_err-above-clause-kept
returns-in_err-above-clause-kept c =
    let p = err_from_is_err_and c.from_residual-in_err-above.result c.from_residual-in_err-above.ensures.1 in
    let last = KeepsFormula-next c.xor.new.self c.xor-2.new.self c.majority.new.self (Xor c.in_ok-either.either c.args.carry) c.in_ok-bit.ensures.made c.in_err-above.ensures.kept in
    rw p.1 (KeepsFormula-next c.args.self.now c.xor.new.self c.majority.new.self (Xor c.args.x c.args.y) c.in_ok-either.ensures.made last)
