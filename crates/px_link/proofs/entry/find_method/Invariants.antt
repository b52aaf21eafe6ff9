use Rattle.px_link.proofs.Finding.{IsFoundIn}
use Rattle.px_link.proofs.entry.find_method.Given as goal

abbrev pub invariant-loop-at : goal.invariant-loop-at
invariant-loop-at l = IsFoundIn l.meta l.name l.at l.found
