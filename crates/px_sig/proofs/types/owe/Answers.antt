use Rattle.std.proofs.Common.{sym, ap, arith}
use Rattle.px_reading.specs.Reading.{◌>>=◌}
use Rattle.px_sig.specs.Parts.{behind_all}
use Rattle.px_sig.proofs.Pile.{all_snoc, nothing}
use Rattle.px_sig.proofs.types.owe.Goals as goal

pub returns-in_ok-push-clause-all : goal.returns-in_ok-push-clause-all
returns-in_ok-push-clause-all c = λ blob at. rw c.in_ok-push.ensures.items (all_snoc blob c.args.owed.now.items c.args.more at)

pub returns-else-more-clause-all : goal.returns-else-more-clause-all
returns-else-more-clause-all c = λ blob at. sym (ap (λ r. r >>= behind_all blob c.args.owed.now.items) (nothing blob c.args.more at (omega arith) c.if-more.false))
