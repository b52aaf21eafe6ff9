use Rattle.std.proofs.Common.{◌≡◌, ℕ, ◌≤◌, ◌^◌, ◌-◌, ◌∙◌, ap, arith, ℤ, pos, neg_ℤ, ◌+ℤ◌, ◌≤ℤ◌, to_z, of_z}
use Rattle.std.specs.Int.{w128}
use Rattle.std.proofs.lemmas.Int.{ints}
use Rattle.px_domain.specs.Place.{word_of}
use Rattle.px_domain.proofs.Widths.{short_range, size_small}
use Rattle.px_domain.proofs.range.Range.word_at.Goals as goal

pub overflow_cast-number : goal.overflow_cast-number
overflow_cast-number c = let small = size_small c.args.self.now c.requires.range in omega (arith, ints, small, c.requires.less)

pub overflow_add-self : goal.overflow_add-self
overflow_add-self c =
    let small = size_small c.args.self.now c.requires.range in
    let short = short_range c.args.self.now c.requires.range in
    omega (arith, ints, small, short.first, short.last, c.requires.less)

-- the sum is computed without a carry
exact_sum : (low : ℤ) (k : ℕ) → neg_ℤ (pos (2 ^ 63)) ≤ℤ low → low ≤ℤ pos (2 ^ 64 - 1) → k ≤ 2 ^ 64 → to_z w128 (of_z w128 (to_z w128 (of_z w128 low) +ℤ to_z w128 k)) ≡ low +ℤ pos k
exact_sum low k first last small = omega (arith, ints)

pub returns : goal.returns
returns c =
    let small = size_small c.args.self.now c.requires.range in
    let short = short_range c.args.self.now c.requires.range in
    c.word_of.ensures ∙ ap (word_of c.args.self.now.place) (exact_sum c.args.self.now.low c.args.number short.first (omega (arith, ints, short.order, short.last)) (omega (arith, small, c.requires.less)))
