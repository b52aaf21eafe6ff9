-- Kinds and widths of numbers, and how they are joined, kept and changed (Partition III, 1.1 and 1.5).
use Rattle.std.specs.Prelude.{ℕ, ◌-◌, ◌^◌, Bool, true, false, if◌then◌else◌, Option, Some, None, ℤ, pos, neg_ℤ, ◌-ℤ◌, int_lt}
use Rattle.std.specs.Int.{cast_unsigned}
use Rattle.px_words.specs.Operator.{bits_of}
use Rattle.px_words.specs.Word.{width_of}
use Rattle.px_words.specs.declared.Op.{Op}
use Rattle.px_words.specs.declared.Op.TheVariants as op
use Rattle.px_program.specs.declared.instr.Arithmetic.{Arithmetic}
use Rattle.px_program.specs.declared.instr.Arithmetic.TheVariants as arithmetic
use Rattle.px_program.specs.declared.instr.Checked.{Checked}
use Rattle.px_program.specs.declared.instr.Checked.TheVariants as checked
use Rattle.px_program.specs.declared.instr.Division.{Division}
use Rattle.px_program.specs.declared.instr.Division.TheVariants as division
use Rattle.px_program.specs.declared.instr.IntegerType.{IntegerType}
use Rattle.px_program.specs.declared.instr.IntegerType.TheVariants as integers
use Rattle.px_program.specs.declared.instr.Shift.{Shift}
use Rattle.px_program.specs.declared.instr.Shift.TheVariants as shift
use Rattle.px_program.specs.declared.instr.Unary.{Unary}
use Rattle.px_program.specs.declared.instr.Unary.TheVariants as unary
use Rattle.px_program.specs.declared.program.Place.{Place}
use Rattle.px_program.specs.declared.program.Place.TheVariants as places
use Rattle.px_machine.specs.declared.entry.NumberKind.{NumberKind}
use Rattle.px_machine.specs.declared.entry.NumberKind.TheVariants.{I, L, N}

-- KINDS

abbrev pub is_wide : NumberKind → Bool
is_wide I = false
is_wide L = true
is_wide N = true

-- the kind of a number that a place holds; none where it holds a reference
abbrev pub kind_at : Place → Option NumberKind
kind_at places.Bool = Some I
kind_at places.Char = Some I
kind_at places.I1 = Some I
kind_at places.U1 = Some I
kind_at places.I2 = Some I
kind_at places.U2 = Some I
kind_at places.I4 = Some I
kind_at places.U4 = Some I
kind_at places.I8 = Some L
kind_at places.U8 = Some L
kind_at places.N = Some N
kind_at places.UN = Some N
kind_at (places.Ref class) = None

-- the kind that two operands have together: an int32 beside a native number is one too
abbrev pub joined : NumberKind → NumberKind → Option NumberKind
joined I I = Some I
joined L L = Some L
joined N N = Some N
joined I N = Some N
joined N I = Some N
joined _ _ = None

-- SMALL INTEGERS

-- how many low bits a small place keeps, and whether they are read with their sign
pub record Low : Type 0 where
  pub bits : ℕ
  pub signed : Bool

abbrev pub low : ℕ → Bool → Option Low
low bits signed = Some (record { bits = bits; signed = signed })

-- of a place whose numbers have fewer than 32 bits
abbrev pub low_at : Place → Option Low
low_at places.Bool = low 8 false
low_at places.Char = low 16 false
low_at places.I1 = low 8 true
low_at places.U1 = low 8 false
low_at places.I2 = low 16 true
low_at places.U2 = low 16 false
low_at _ = None

abbrev pub low_of : IntegerType → Option Low
low_of integers.I1 = low 8 true
low_of integers.U1 = low 8 false
low_of integers.I2 = low 16 true
low_of integers.U2 = low 16 false
low_of _ = None

-- the low bits of a word of 32 bits, extended to it
abbrev pub extension : Low → Op
extension low = if low.signed then op.SignExt false low.bits else op.ZeroExt false low.bits

-- CONVERSIONS

abbrev pub kind_of : IntegerType → NumberKind
kind_of integers.I8 = L
kind_of integers.U8 = L
kind_of integers.N = N
kind_of integers.UN = N
kind_of _ = I

abbrev pub is_signed : IntegerType → Bool
is_signed integers.I1 = true
is_signed integers.I2 = true
is_signed integers.I4 = true
is_signed integers.I8 = true
is_signed integers.N = true
is_signed _ = false

abbrev pub bits_in : IntegerType → ℕ
bits_in integers.I1 = 8
bits_in integers.U1 = 8
bits_in integers.I2 = 16
bits_in integers.U2 = 16
bits_in integers.I4 = 32
bits_in integers.U4 = 32
bits_in _ = 64

-- the least and the greatest number of so many bits
abbrev pub least : Bool → ℕ → ℤ
least signed bits = if signed then neg_ℤ (pos (2 ^ (bits - 1))) else pos 0

abbrev pub greatest : Bool → ℕ → ℤ
greatest signed bits = if signed then pos (2 ^ (bits - 1)) -ℤ pos 1 else pos (2 ^ bits) -ℤ pos 1

-- the pattern that a number of the type begins or ends with at the source's width, where the source has numbers beyond it
abbrev pub pattern : Bool → ℤ → ℕ
pattern wide z = cast_unsigned (width_of wide) z

abbrev pub low_limit : Bool → Bool → IntegerType → Option ℕ
low_limit signed wide to = let end = least (is_signed to) (bits_in to) in if int_lt (least signed (bits_of wide)) end then Some (pattern wide end) else None

abbrev pub high_limit : Bool → Bool → IntegerType → Option ℕ
high_limit signed wide to = let end = greatest (is_signed to) (bits_in to) in if int_lt end (greatest signed (bits_of wide)) then Some (pattern wide end) else None

-- OPERATORS

abbrev pub arithmetic_op : Arithmetic → Bool → Op
arithmetic_op arithmetic.Add wide = op.Add wide
arithmetic_op arithmetic.Sub wide = op.Sub wide
arithmetic_op arithmetic.Mul wide = op.Mul wide
arithmetic_op arithmetic.And wide = op.And wide
arithmetic_op arithmetic.Or wide = op.Or wide
arithmetic_op arithmetic.Xor wide = op.Xor wide

abbrev pub signed_division : Division → Bool → Op
signed_division division.Quotient wide = op.DivS wide
signed_division division.Remainder wide = op.RemS wide

abbrev pub unsigned_division : Division → Bool → Op
unsigned_division division.Quotient wide = op.DivU wide
unsigned_division division.Remainder wide = op.RemU wide

abbrev pub wrapping : Checked → Bool → Op
wrapping checked.Add wide = op.Add wide
wrapping checked.Sub wide = op.Sub wide
wrapping checked.Mul wide = op.Mul wide

abbrev pub signed_test : Checked → Bool → Op
signed_test checked.Add wide = op.AddOvfS wide
signed_test checked.Sub wide = op.SubOvfS wide
signed_test checked.Mul wide = op.MulOvfS wide

abbrev pub unsigned_test : Checked → Bool → Op
unsigned_test checked.Add wide = op.AddOvfU wide
unsigned_test checked.Sub wide = op.SubOvfU wide
unsigned_test checked.Mul wide = op.MulOvfU wide

abbrev pub overflow_test : Checked → Bool → Bool → Op
overflow_test operation signed wide = if signed then signed_test operation wide else unsigned_test operation wide

abbrev pub shift_op : Shift → Bool → Op
shift_op shift.Left wide = op.Shl wide
shift_op shift.Right wide = op.Shr wide
shift_op shift.RightUnsigned wide = op.ShrUn wide

abbrev pub unary_op : Unary → Bool → Op
unary_op unary.Negate wide = op.Neg wide
unary_op unary.Complement wide = op.Not wide

abbrev pub less : Bool → Bool → Op
less signed wide = if signed then op.LtS wide else op.LtU wide
