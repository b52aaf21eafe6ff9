use Rattle.std.proofs.Common.{refl, inl}
use Rattle.px_chain.proofs.Closures.{conflict-from}
use Rattle.px_chain.proofs.propagation.is_conflict.Goals as goal

pub returns-then-has_both : goal.returns-then-has_both
returns-then-has_both c = λ given is.
    (λ _. conflict-from c.args.premises.now.clauses given c.args.marks.now is (inl (c.if-has_both.ensures.0 refl)), λ _. c.if-has_both.true)
