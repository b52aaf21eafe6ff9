use Rattle.std.proofs.Common.{◌≡◌, sym, subst, arith, ℕ, List}
use Rattle.std.proofs.lemmas.Grind.{common_steps}
use Rattle.px_domain.specs.Domain.{AreIn, least_words, ranges_of}
use Rattle.px_domain.proofs.Tuples.{least_in}
use Rattle.px_domain.proofs.domain.Domain.least.Goals as goal

pub returns-clause-within : goal.returns-clause-within
returns-clause-within c =
    let same : c.loop-range.words ≡ least_words c.args.self.now = grind (arith, common_steps) in
    let P : List ℕ → Type 0 = λ words. AreIn (ranges_of c.args.self.now) words in
    subst P (sym same) (least_in (ranges_of c.args.self.now) c.ranges-range-items.ensures.each)
