use Rattle.std.proofs.Common.{length}
use Rattle.px_golden_link.proofs.raw.+are_integers.Given as goal

abbrev pub decreases-are_integers : goal.decreases-are_integers
decreases-are_integers l = length l.places.now
