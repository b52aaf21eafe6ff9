use Rattle.px_link.proofs.Making.{IsNoneYet}
use Rattle.px_link.proofs.maker.maker_in.Given as goal

abbrev pub invariant-loop-row : goal.invariant-loop-row
invariant-loop-row l = IsNoneYet l.meta l.class l.row
