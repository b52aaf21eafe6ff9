-- What operators make of numbers, in any algebra of scalars (Partition III, 1.5).
use Rattle.std.specs.Prelude.{ℕ, Bool, true, false, if◌then◌else◌, [], ◌∷◌, Option, Some, None}
use Rattle.px_words.specs.declared.Op.{Op}
use Rattle.px_words.specs.declared.Op.TheVariants as op
use Rattle.px_cells.specs.Algebra.{Algebra, Made}
use Rattle.px_program.specs.declared.instr.Compare.{Compare}
use Rattle.px_program.specs.declared.instr.IntegerType.{IntegerType}
use Rattle.px_program.specs.declared.instr.Test.{Test}
use Rattle.px_program.specs.declared.instr.Test.TheVariants as tests
use Rattle.px_machine.specs.Numbers.{Low, extension, high_limit, is_wide, kind_of, less, low_limit, low_of}
use Rattle.px_machine.specs.declared.entry.NumberKind.{NumberKind}
use Rattle.px_machine.specs.declared.entry.NumberKind.TheVariants.{I, L, N}

module _ {P W : Type 0} (a : Algebra P W) where
  -- SCALARS

  abbrev pub same : W → P → Made P W
  same x pool = record { scalar = x; pool = pool }

  abbrev pub constant : Bool → ℕ → P → Made P W
  constant wide pattern pool = a.applied pool (op.Const wide pattern) []

  abbrev pub on_one : Op → Made P W → Made P W
  on_one o x = a.applied x.pool o (x.scalar ∷ [])

  abbrev pub on_two : Op → W → Made P W → Made P W
  on_two o x y = a.applied y.pool o (x ∷ y.scalar ∷ [])

  -- 1 where a test is 0, and else 0
  abbrev pub denied : Made P W → Made P W
  denied test = on_two (op.Eq false) test.scalar (constant false 0 test.pool)

  -- a number as one of the kind that it has with another: an int32 beside a native number is extended by its sign
  abbrev pub widened : NumberKind → NumberKind → W → P → Made P W
  widened I N x pool = on_one (op.SignExt true 32) (same x pool)
  widened I L x pool = same x pool
  widened I I x pool = same x pool
  widened L to x pool = same x pool
  widened N to x pool = same x pool

  -- a number that a place keeps: the low bits of a small one
  abbrev pub kept : Option Low → Made P W → Made P W
  kept None x = x
  kept (Some low) x = on_one (extension low) x

  -- 1 where the comparison holds, and else 0
  abbrev pub condition_by : Test → Bool → Bool → W → W → P → Made P W
  condition_by tests.Eq signed wide x y pool = on_two (op.Eq wide) x (same y pool)
  condition_by tests.Ne signed wide x y pool = denied (on_two (op.Eq wide) x (same y pool))
  condition_by tests.Lt signed wide x y pool = on_two (less signed wide) x (same y pool)
  condition_by tests.Ge signed wide x y pool = denied (on_two (less signed wide) x (same y pool))
  condition_by tests.Gt signed wide x y pool = on_two (less signed wide) y (same x pool)
  condition_by tests.Le signed wide x y pool = denied (on_two (less signed wide) y (same x pool))

  abbrev pub condition : Compare → W → W → P → Made P W
  condition compare x y pool = condition_by compare.test compare.signed compare.wide x y pool

  -- a conversion keeps the low bits, and extends an int32 to 64 bits by its sign or by zeros
  abbrev pub converted : IntegerType → Bool → NumberKind → W → P → Made P W
  converted to signed kind x pool =
      if is_wide (kind_of to) then (if is_wide kind then same x pool else on_one (if signed then op.SignExt true 32 else op.ZeroExt true 32) (same x pool))
      else kept (low_of to) (if is_wide kind then on_one (op.Low true) (same x pool) else same x pool)

  -- 1 where a number is below a limit, or above another
  abbrev pub outside_by : Bool → Bool → Option ℕ → Option ℕ → W → P → Made P W
  outside_by signed wide None None x pool = constant false 0 pool
  outside_by signed wide (Some low) None x pool = on_two (less signed wide) x (constant wide low pool)
  outside_by signed wide None (Some high) x pool = let end = constant wide high pool in on_two (less signed wide) end.scalar (same x end.pool)
  outside_by signed wide (Some low) (Some high) x pool =
      let below = on_two (less signed wide) x (constant wide low pool) in
      let end = constant wide high below.pool in
      let above = on_two (less signed wide) end.scalar (same x end.pool) in
      on_two (op.Or false) below.scalar above

  -- 1 where a number, read signed or unsigned, lies outside a type
  abbrev pub outside_of : IntegerType → Bool → Bool → W → P → Made P W
  outside_of to signed wide x pool = outside_by signed wide (low_limit signed wide to) (high_limit signed wide to) x pool
