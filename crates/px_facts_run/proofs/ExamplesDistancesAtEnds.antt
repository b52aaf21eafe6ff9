-- Distances and gaps of patterns at the ends of the ranges, computed by hand.
use Rattle.std.proofs.Common.{◌≡◌, Bool, false, true, ℕ, ◌-◌, refl}
use Rattle.px_program.specs.declared.instr.Compare.{Compare}
use Rattle.px_program.specs.declared.instr.Test.{Test}
use Rattle.px_program.specs.declared.instr.Test.TheVariants.{Eq, Ne, Gt, Ge, Lt, Le}
use Rattle.px_rank.specs.Distance.{distance_of, gap_of, holds}

abbrev signed_32 : Test → Compare
signed_32 test = record { test = test; signed = true; wide = false }

abbrev unsigned_32 : Test → Compare
unsigned_32 test = record { test = test; signed = false; wide = false }

abbrev signed_64 : Test → Compare
signed_64 test = record { test = test; signed = true; wide = true }

abbrev unsigned_64 : Test → Compare
unsigned_64 test = record { test = test; signed = false; wide = true }

-- the distance, the gap, and whether the comparison holds
abbrev measured : Compare → ℕ → ℕ → ℕ × ℕ × Bool
measured c a b = (distance_of c a b, gap_of c a b, holds c a b)

-- 32 BITS

-- 0xffff_ffff is -1, or the greatest number; 0x8000_0000 is the least signed number, or 2^31.
abbrev ones : ℕ
ones = 0xffff_ffff

abbrev least : ℕ
least = 0x8000_0000

abbrev greatest : ℕ
greatest = 0x7fff_ffff

-- All ones are read as -1, or as the greatest number.
lt_of_minus_1_and_0 : measured (signed_32 Lt) ones 0 ≡ (0, 1, true)
unfolding distance_of gap_of
lt_of_minus_1_and_0 = refl

lt_of_greatest_and_0 : measured (unsigned_32 Lt) ones 0 ≡ (0x1_0000_0000, 0x1_0000_0000, false)
unfolding distance_of gap_of
lt_of_greatest_and_0 = refl

gt_of_minus_1_and_0 : measured (signed_32 Gt) ones 0 ≡ (2, 2, false)
unfolding distance_of gap_of
gt_of_minus_1_and_0 = refl

gt_of_greatest_and_0 : measured (unsigned_32 Gt) ones 0 ≡ (0, 0xffff_ffff, true)
unfolding distance_of gap_of
gt_of_greatest_and_0 = refl

ge_of_minus_1_and_0 : measured (signed_32 Ge) ones 0 ≡ (1, 1, false)
unfolding distance_of gap_of
ge_of_minus_1_and_0 = refl

ge_of_0_and_greatest : measured (unsigned_32 Ge) 0 ones ≡ (0xffff_ffff, 0xffff_ffff, false)
unfolding distance_of gap_of
ge_of_0_and_greatest = refl

le_of_0_and_minus_1 : measured (signed_32 Le) 0 ones ≡ (1, 1, false)
unfolding distance_of gap_of
le_of_0_and_minus_1 = refl

le_of_0_and_greatest : measured (unsigned_32 Le) 0 ones ≡ (0, 0x1_0000_0000, true)
unfolding distance_of gap_of
le_of_0_and_greatest = refl

eq_of_minus_1_and_1 : measured (signed_32 Eq) ones 1 ≡ (2, 2, false)
unfolding distance_of gap_of
eq_of_minus_1_and_1 = refl

eq_of_greatest_and_1 : measured (unsigned_32 Eq) ones 1 ≡ (0xffff_fffe, 0xffff_fffe, false)
unfolding distance_of gap_of
eq_of_greatest_and_1 = refl

-- The least and the greatest signed number are far apart, and neighbours as unsigned ones.
eq_of_signed_ends : measured (signed_32 Eq) least greatest ≡ (0xffff_ffff, 0xffff_ffff, false)
unfolding distance_of gap_of
eq_of_signed_ends = refl

eq_of_neighbours : measured (unsigned_32 Eq) least greatest ≡ (1, 1, false)
unfolding distance_of gap_of
eq_of_neighbours = refl

ne_of_signed_ends : measured (signed_32 Ne) least greatest ≡ (0, 0xffff_ffff, true)
unfolding distance_of gap_of
ne_of_signed_ends = refl

ne_of_neighbours : measured (unsigned_32 Ne) least greatest ≡ (0, 1, true)
unfolding distance_of gap_of
ne_of_neighbours = refl

gt_of_signed_ends : measured (signed_32 Gt) least greatest ≡ (0x1_0000_0000, 0x1_0000_0000, false)
unfolding distance_of gap_of
gt_of_signed_ends = refl

le_of_signed_ends : measured (signed_32 Le) least greatest ≡ (0, 0x1_0000_0000, true)
unfolding distance_of gap_of
le_of_signed_ends = refl

-- 64 BITS

-- A distance of 2^64 is given as 2^64 - 1, the most that there is.
abbrev most : ℕ
most = 0xffff_ffff_ffff_ffff

abbrev least_64 : ℕ
least_64 = 0x8000_0000_0000_0000

abbrev greatest_64 : ℕ
greatest_64 = 0x7fff_ffff_ffff_ffff

-- All ones are read as -1, or as the greatest number.
-- A body that reads wide signed patterns as unsigned ones gives the distance 2^64 - 1.
wide_lt_of_minus_1_and_0 : measured (signed_64 Lt) most 0 ≡ (0, 1, true)
unfolding distance_of gap_of
wide_lt_of_minus_1_and_0 = refl

wide_lt_of_greatest_and_0 : measured (unsigned_64 Lt) most 0 ≡ (most, most, false)
unfolding distance_of gap_of
wide_lt_of_greatest_and_0 = refl

wide_le_of_greatest_and_0 : measured (unsigned_64 Le) most 0 ≡ (most, most, false)
unfolding distance_of gap_of
wide_le_of_greatest_and_0 = refl

wide_le_of_greatest_and_1 : measured (unsigned_64 Le) most 1 ≡ (most - 1, most - 1, false)
unfolding distance_of gap_of
wide_le_of_greatest_and_1 = refl

-- A body that reads wide signed patterns as unsigned ones says that it holds.
wide_gt_of_minus_1_and_0 : measured (signed_64 Gt) most 0 ≡ (2, 2, false)
unfolding distance_of gap_of
wide_gt_of_minus_1_and_0 = refl

wide_gt_of_greatest_and_0 : measured (unsigned_64 Gt) most 0 ≡ (0, most, true)
unfolding distance_of gap_of
wide_gt_of_greatest_and_0 = refl

wide_gt_of_0_and_greatest : measured (unsigned_64 Gt) 0 most ≡ (most, most, false)
unfolding distance_of gap_of
wide_gt_of_0_and_greatest = refl

wide_ge_of_minus_1_and_0 : measured (signed_64 Ge) most 0 ≡ (1, 1, false)
unfolding distance_of gap_of
wide_ge_of_minus_1_and_0 = refl

wide_ge_of_greatest_and_0 : measured (unsigned_64 Ge) most 0 ≡ (0, most, true)
unfolding distance_of gap_of
wide_ge_of_greatest_and_0 = refl

-- The least and the greatest signed number are far apart, and neighbours as unsigned ones.
wide_eq_of_signed_ends : measured (signed_64 Eq) least_64 greatest_64 ≡ (most, most, false)
unfolding distance_of gap_of
wide_eq_of_signed_ends = refl

wide_eq_of_neighbours : measured (unsigned_64 Eq) least_64 greatest_64 ≡ (1, 1, false)
unfolding distance_of gap_of
wide_eq_of_neighbours = refl

wide_ne_of_signed_ends : measured (signed_64 Ne) greatest_64 least_64 ≡ (0, most, true)
unfolding distance_of gap_of
wide_ne_of_signed_ends = refl

wide_ne_of_neighbours : measured (unsigned_64 Ne) greatest_64 least_64 ≡ (0, 1, true)
unfolding distance_of gap_of
wide_ne_of_neighbours = refl

-- The distance grows up to the most that there is.
wide_lt_of_signed_ends : measured (signed_64 Lt) greatest_64 least_64 ≡ (most, most, false)
unfolding distance_of gap_of
wide_lt_of_signed_ends = refl

wide_lt_one_nearer : measured (signed_64 Lt) (greatest_64 - 1) least_64 ≡ (most, most, false)
unfolding distance_of gap_of
wide_lt_one_nearer = refl

wide_lt_two_nearer : measured (signed_64 Lt) (greatest_64 - 2) least_64 ≡ (most - 1, most - 1, false)
unfolding distance_of gap_of
wide_lt_two_nearer = refl

-- Both halves of a wide pattern count.
wide_eq_across_halves : measured (unsigned_64 Eq) 0xffff_ffff 0x1_0000_0000 ≡ (1, 1, false)
unfolding distance_of gap_of
wide_eq_across_halves = refl
