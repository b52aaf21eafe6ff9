use Rattle.std.proofs.Common.{rules, refl}
use Rattle.px_io.proofs.Counting.{missed_after, failed_after, faults_after, misses_after}
use Rattle.px_io.proofs.real.FileShelfShelf.TheImpl.Goals as goal

pub fetch-tells : goal.fetch-tells
fetch-tells g c = record {
  same = refl;
  told = search rules;
  within = c.ensures.within;
  missed = missed_after c.result _ _ c.ensures.after;
  failed = failed_after c.result _ _ c.ensures.after;
  faults = faults_after c.result _ _ c.ensures.after;
  misses = misses_after c.result _ _ c.ensures.after;
}
