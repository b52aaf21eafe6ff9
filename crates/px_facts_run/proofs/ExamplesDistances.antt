-- Distances and gaps of small numbers, computed by hand. They are read alike as signed and unsigned ones of both widths.
use Rattle.std.proofs.Common.{◌≡◌, List, [], ◌∷◌, Bool, false, true, ℕ, refl}
use Rattle.px_program.specs.declared.instr.Compare.{Compare}
use Rattle.px_program.specs.declared.instr.Test.{Test}
use Rattle.px_program.specs.declared.instr.Test.TheVariants.{Eq, Ne, Gt, Ge, Lt, Le}
use Rattle.px_rank.specs.Distance.{distance_of, gap_of, holds, opposite}

abbrev compare : Test → Bool → Bool → Compare
compare test signed wide = record { test = test; signed = signed; wide = wide }

-- of unsigned and signed numbers of 32 bits, and of unsigned and signed numbers of 64 bits
abbrev in_four_ways : {X : Type 0} → (Compare → X) → Test → List X
in_four_ways of test = of (compare test false false) ∷ of (compare test true false) ∷ of (compare test false true) ∷ of (compare test true true) ∷ []

abbrev four_times : {X : Type 0} → X → List X
four_times x = x ∷ x ∷ x ∷ x ∷ []

-- the distance, the gap, and whether the comparison holds
abbrev measured : ℕ → ℕ → Compare → ℕ × ℕ × Bool
measured a b c = (distance_of c a b, gap_of c a b, holds c a b)

-- Two numbers are as far from being equal as they are apart.
eq_of_3_and_10 : in_four_ways (measured 3 10) Eq ≡ four_times (7, 7, false)
unfolding distance_of gap_of
eq_of_3_and_10 = refl

eq_of_10_and_3 : in_four_ways (measured 10 3) Eq ≡ four_times (7, 7, false)
unfolding distance_of gap_of
eq_of_10_and_3 = refl

-- A body whose unequal numbers are at no distance gives the gap 0.
eq_of_5_and_5 : in_four_ways (measured 5 5) Eq ≡ four_times (0, 1, true)
unfolding distance_of gap_of
eq_of_5_and_5 = refl

-- Equal numbers are 1 from being unequal.
ne_of_5_and_5 : in_four_ways (measured 5 5) Ne ≡ four_times (1, 1, false)
unfolding distance_of gap_of
ne_of_5_and_5 = refl

ne_of_3_and_10 : in_four_ways (measured 3 10) Ne ≡ four_times (0, 7, true)
unfolding distance_of gap_of
ne_of_3_and_10 = refl

ne_of_10_and_3 : in_four_ways (measured 10 3) Ne ≡ four_times (0, 7, true)
unfolding distance_of gap_of
ne_of_10_and_3 = refl

-- A number that is to be greater goes 1 beyond the other.
gt_of_5_and_5 : in_four_ways (measured 5 5) Gt ≡ four_times (1, 1, false)
unfolding distance_of gap_of
gt_of_5_and_5 = refl

-- A body that exchanges the numbers of a test says that it holds.
gt_of_3_and_10 : in_four_ways (measured 3 10) Gt ≡ four_times (8, 8, false)
unfolding distance_of gap_of
gt_of_3_and_10 = refl

gt_of_10_and_3 : in_four_ways (measured 10 3) Gt ≡ four_times (0, 7, true)
unfolding distance_of gap_of
gt_of_10_and_3 = refl

-- A body that takes "at least" for "greater" says that it doesn't hold.
ge_of_5_and_5 : in_four_ways (measured 5 5) Ge ≡ four_times (0, 1, true)
unfolding distance_of gap_of
ge_of_5_and_5 = refl

ge_of_3_and_10 : in_four_ways (measured 3 10) Ge ≡ four_times (7, 7, false)
unfolding distance_of gap_of
ge_of_3_and_10 = refl

ge_of_10_and_3 : in_four_ways (measured 10 3) Ge ≡ four_times (0, 8, true)
unfolding distance_of gap_of
ge_of_10_and_3 = refl

lt_of_5_and_5 : in_four_ways (measured 5 5) Lt ≡ four_times (1, 1, false)
unfolding distance_of gap_of
lt_of_5_and_5 = refl

-- A body to which "greater" is the opposite of "less" gives the gap 8.
lt_of_3_and_10 : in_four_ways (measured 3 10) Lt ≡ four_times (0, 7, true)
unfolding distance_of gap_of
lt_of_3_and_10 = refl

lt_of_10_and_3 : in_four_ways (measured 10 3) Lt ≡ four_times (8, 8, false)
unfolding distance_of gap_of
lt_of_10_and_3 = refl

le_of_5_and_5 : in_four_ways (measured 5 5) Le ≡ four_times (0, 1, true)
unfolding distance_of gap_of
le_of_5_and_5 = refl

le_of_3_and_10 : in_four_ways (measured 3 10) Le ≡ four_times (0, 8, true)
unfolding distance_of gap_of
le_of_3_and_10 = refl

le_of_10_and_3 : in_four_ways (measured 10 3) Le ≡ four_times (7, 7, false)
unfolding distance_of gap_of
le_of_10_and_3 = refl

le_of_0_and_0 : in_four_ways (measured 0 0) Le ≡ four_times (0, 1, true)
unfolding distance_of gap_of
le_of_0_and_0 = refl

-- The opposite of a comparison reads the patterns as the comparison does.
-- A body whose opposites are all unsigned gives other ones of the signed comparisons.
opposite_of_eq : in_four_ways opposite Eq ≡ in_four_ways (λ c. c) Ne
opposite_of_eq = refl

opposite_of_ne : in_four_ways opposite Ne ≡ in_four_ways (λ c. c) Eq
opposite_of_ne = refl

opposite_of_gt : in_four_ways opposite Gt ≡ in_four_ways (λ c. c) Le
opposite_of_gt = refl

opposite_of_ge : in_four_ways opposite Ge ≡ in_four_ways (λ c. c) Lt
opposite_of_ge = refl

-- A body to which "greater" is the opposite of "less" gives `Gt` in each.
opposite_of_lt : in_four_ways opposite Lt ≡ in_four_ways (λ c. c) Ge
opposite_of_lt = refl

opposite_of_le : in_four_ways opposite Le ≡ in_four_ways (λ c. c) Gt
opposite_of_le = refl
