use Rattle.std.proofs.Common.{rules, ◌-◌, ◌≡◌, ◌∙◌, ℕ, List, sym, subst, arith}
use Rattle.px_domain.specs.Domain.{AreIn, ranges_of, tuple_of}
use Rattle.px_domain.proofs.Tuples.{went_down, all_filled, tuple_within}
use Rattle.px_domain.proofs.domain.Domain.tuple.Goals as goal

pub loop-index-preserved : goal.loop-index-preserved
loop-index-preserved c =
    went_down c.ranges-ranges.result.now c.loop-index.words.items c.args.number c.loop-index.rest c.loop-index.index (c.loop-index.index - 1) c.word_at.result c.size-size.result _
    (omega arith) (omega arith) (search rules) c.size-size.ensures.size c.word_at.ensures c.loop-index.invariant

pub returns-clause-tuple : goal.returns-clause-tuple
returns-clause-tuple c =
    c.from_vec.ensures ∙ all_filled (ranges_of c.args.self.now) c.loop-index.words.items c.args.number c.loop-index.rest c.loop-index.index c.loop-index-test.false c.requires (search rules)

pub returns-clause-within : goal.returns-clause-within
returns-clause-within c =
    let P : List ℕ → Type 0 = λ words. AreIn (ranges_of c.args.self.now) words in
    let same : c.from_vec.result ≡ tuple_of (ranges_of c.args.self.now) c.args.number = c.from_vec.ensures ∙ all_filled (ranges_of c.args.self.now) c.loop-index.words.items c.args.number c.loop-index.rest c.loop-index.index c.loop-index-test.false c.requires (search rules) in
    subst P (sym same) (tuple_within (ranges_of c.args.self.now) c.args.number (search rules) c.requires)
