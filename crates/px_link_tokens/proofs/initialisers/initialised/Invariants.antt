use Rattle.px_link_tokens.proofs.Flags.{AreFlagged}
use Rattle.px_link_tokens.proofs.initialisers.initialised.Given as goal

-- the flags tell of the methods so far
abbrev pub invariant-loop-method : goal.invariant-loop-method
invariant-loop-method l = AreFlagged l.meta l.method-index l.flags.items
