use Rattle.px_interp.proofs.Runs.{Kept}
use Rattle.px_interp.proofs.machine.trace.Given as goal

abbrev pub invariant-loop-i : goal.invariant-loop-i
invariant-loop-i g l =
    let m = g.W.Worded in
    Kept m.sound m.stands m.algebra l.method l.number l.args l.steps l.fn.pool l.i l.seen.items (record { at = l.at; stack = l.stack; pool = l.pool })
