use Rattle.px_chain.proofs.Closures.{closure, all_kept}
use Rattle.px_chain.proofs.propagation.saturate.Goals as goal

pub returns : goal.returns
returns c = λ given all sound.
    closure c.args.premises.now.clauses given c.round.new.marks
    (all_kept c.args.marks.now c.round.new.marks given (λ l h. c.round.ensures.keeps l (c.loop.invariant.0 l h)) all)
    c.loop-test.ensures.closed (c.round.ensures.sound given (c.loop.invariant.1 given sound))
