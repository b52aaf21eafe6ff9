-- How far two patterns are from meeting a comparison (Xie, Tillmann, de Halleux and Schulte, DSN 2009).
use Rattle.std.specs.Prelude.{ℕ, ◌-◌, ◌^◌, min, Bool, not, if◌then◌else◌, ℤ, pos, ◌+ℤ◌, ◌-ℤ◌, int_lt, int_le}
use Rattle.std.specs.Int.{Width, w32, w64, cast_signed}
use Rattle.std.specs.Int.RustNames.{unsigned_abs}
use Rattle.std.specs.Ordering.{int_eq}
use Rattle.px_program.specs.declared.instr.Test.{Test}
use Rattle.px_program.specs.declared.instr.Test.TheVariants.{Eq, Ne, Gt, Ge, Lt, Le}
use Rattle.px_program.specs.declared.instr.Compare.{Compare}

abbrev pub width_of : Bool → Width
width_of wide = if wide then w64 else w32

abbrev pub bits_of : Bool → ℕ
bits_of wide = if wide then 64 else 32

-- the number that a comparison reads a pattern as
abbrev pub number_by : Compare → ℕ → ℤ
number_by compare a = if compare.signed then cast_signed (width_of compare.wide) a else pos a

-- the test holds of two numbers
abbrev pub passes : Test → ℤ → ℤ → Bool
passes Eq x y = int_eq x y
passes Ne x y = not (int_eq x y)
passes Gt x y = int_lt y x
passes Ge x y = int_le y x
passes Lt x y = int_lt x y
passes Le x y = int_le x y

-- the comparison holds of two patterns
abbrev pub holds : Compare → ℕ → ℕ → Bool
holds compare a b = passes compare.test (number_by compare a) (number_by compare b)

-- how far two numbers that fail a test are from passing it
abbrev pub shortfall : Test → ℤ → ℤ → ℕ
shortfall Eq x y = unsigned_abs (x -ℤ y)
shortfall Ne x y = 1
shortfall Gt x y = unsigned_abs ((y -ℤ x) +ℤ pos 1)
shortfall Ge x y = unsigned_abs (y -ℤ x)
shortfall Lt x y = unsigned_abs ((x -ℤ y) +ℤ pos 1)
shortfall Le x y = unsigned_abs (x -ℤ y)

-- the distance of two patterns from a comparison: 0 where it holds, and at most 2^64 - 1
unfoldable pub distance_of : Compare → ℕ → ℕ → ℕ
distance_of compare a b =
    if holds compare a b then 0
    else min (shortfall compare.test (number_by compare a) (number_by compare b)) (2 ^ 64 - 1)

abbrev pub opposite_test : Test → Test
opposite_test Eq = Ne
opposite_test Ne = Eq
opposite_test Gt = Le
opposite_test Ge = Lt
opposite_test Lt = Ge
opposite_test Le = Gt

-- the comparison that holds exactly where the other one doesn't
abbrev pub opposite : Compare → Compare
opposite compare = record { test = opposite_test compare.test; signed = compare.signed; wide = compare.wide }

-- the gap of a branch that jumps where the comparison holds: how far its other side is
unfoldable pub gap_of : Compare → ℕ → ℕ → ℕ
gap_of compare a b = if holds compare a b then distance_of (opposite compare) a b else distance_of compare a b
