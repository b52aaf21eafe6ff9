-- Rows of numbers: arithmetic, divisions, shifts and conversions (Partition III, 3).
use Rattle.std.specs.Prelude.{Bool, true, false, if◌then◌else◌, List}
use Rattle.px_words.specs.declared.Op.{Op}
use Rattle.px_words.specs.declared.Op.TheVariants as op
use Rattle.px_cells.specs.Algebra.{Algebra, Made}
use Rattle.px_program.specs.declared.instr.Checked.{Checked}
use Rattle.px_program.specs.declared.instr.IntegerType.{IntegerType}
use Rattle.px_program.specs.declared.record.SiteKind.TheVariants as sites
use Rattle.px_machine.specs.Numbers.{is_signed, is_wide, kind_of, overflow_test, wrapping}
use Rattle.px_machine.specs.declared.entry.Entry.{Entry}
use Rattle.px_machine.specs.State.{Here, Step}
use Rattle.px_machine.specs.Parts.{divide_by_zero, overflow}
use Rattle.px_machine.specs.Scalars.{same, constant, on_one, on_two, converted, outside_of}
use Rattle.px_machine.specs.Steps.{pushes, passes, on_number, on_pair}

module _ {P W : Type 0} (a : Algebra P W) where
  -- NUMBERS

  abbrev pub binary_row : Here W → (Bool → Op) → List (Entry W) → P → Step P W
  binary_row here operator stack pool = on_pair a stack pool (λ kind x y rest. pushes a here kind rest (on_two a (operator (is_wide kind)) x y))

  -- the divisor must not be 0
  abbrev pub nonzero : Here W → Bool → W → Made P W → (P → Step P W) → Step P W
  nonzero here wide x y next = passes a here sites.Zero divide_by_zero (on_two a (op.Eq wide) y.scalar (constant a wide 0 y.pool)) next

  -- the least number isn't divided by -1
  abbrev pub in_range : Here W → Bool → W → W → P → (P → Step P W) → Step P W
  in_range here wide x y pool next =
      let least = on_two a (op.Eq wide) x (constant a wide (if wide then 0x8000_0000_0000_0000 else 0x8000_0000) pool) in
      let minus = on_two a (op.Eq wide) y (constant a wide (if wide then 0xffff_ffff_ffff_ffff else 0xffff_ffff) least.pool) in
      passes a here sites.Overflow overflow (on_two a (op.And false) least.scalar minus) next

  abbrev pub divide_row : Here W → (Bool → Op) → List (Entry W) → P → Step P W
  divide_row here operator stack pool = on_pair a stack pool (λ kind x y rest.
      nonzero here (is_wide kind) x y (λ after.
      in_range here (is_wide kind) x y.scalar after (λ last. pushes a here kind rest (on_two a (operator (is_wide kind)) x (same a y.scalar last)))))

  abbrev pub divide_unsigned_row : Here W → (Bool → Op) → List (Entry W) → P → Step P W
  divide_unsigned_row here operator stack pool = on_pair a stack pool (λ kind x y rest.
      nonzero here (is_wide kind) x y (λ after. pushes a here kind rest (on_two a (operator (is_wide kind)) x (same a y.scalar after))))

  abbrev pub checked_row : Here W → Checked → Bool → List (Entry W) → P → Step P W
  checked_row here operation signed stack pool = on_pair a stack pool (λ kind x y rest.
      passes a here sites.Overflow overflow (on_two a (overflow_test operation signed (is_wide kind)) x y) (λ after. pushes a here kind rest (on_two a (wrapping operation (is_wide kind)) x (same a y.scalar after))))

  -- the count of a shift at the width of what is shifted
  abbrev pub count_by : Bool → Bool → W → P → Made P W
  count_by false false y pool = same a y pool
  count_by true true y pool = same a y pool
  count_by true false y pool = on_one a (op.ZeroExt true 32) (same a y pool)
  count_by false true y pool = on_one a (op.Low true) (same a y pool)

  abbrev pub shift_row : Here W → (Bool → Op) → List (Entry W) → P → Step P W
  shift_row here operator stack pool = on_number a stack pool (λ counting y below. on_number a below pool (λ kind x rest.
      pushes a here kind rest (on_two a (operator (is_wide kind)) x (count_by (is_wide kind) (is_wide counting) y pool))))

  abbrev pub unary_row : Here W → (Bool → Op) → List (Entry W) → P → Step P W
  unary_row here operator stack pool = on_number a stack pool (λ kind x rest. pushes a here kind rest (on_one a (operator (is_wide kind)) (same a x pool)))

  abbrev pub convert_row : Here W → IntegerType → List (Entry W) → P → Step P W
  convert_row here to stack pool = on_number a stack pool (λ kind x rest. pushes a here (kind_of to) rest (converted a to (is_signed to) kind x pool))

  abbrev pub convert_checked_row : Here W → IntegerType → Bool → List (Entry W) → P → Step P W
  convert_checked_row here to signed stack pool = on_number a stack pool (λ kind x rest.
      passes a here sites.Overflow overflow (outside_of a to signed (is_wide kind) x pool) (λ after. pushes a here (kind_of to) rest (converted a to signed kind x after)))
