-- Operators: which of them may be applied, and the widths of what they take and give.
use Rattle.std.specs.Prelude.{ℕ, ◌<◌, ◌≤◌, ◌^◌, List, [], ◌∷◌, Bool, true, false, nat_le, if◌then◌else◌}
use Rattle.px_words.specs.declared.Op.{Op}
use Rattle.px_words.specs.declared.Op.TheVariants.{Const, Input, Not, And, Or, Xor, Add, Sub, Neg, Mul, Shl, Shr, ShrUn, DivU, RemU, DivS, RemS, Eq, LtU, LtS, AddOvfU, SubOvfU, MulOvfU, AddOvfS, SubOvfS, MulOvfS, SignExt, ZeroExt, Low, Ite}

-- how many bits a word of the width has
abbrev pub bits_of : Bool → ℕ
bits_of false = 32
bits_of true = 64

-- the narrower width that has so many low bits
abbrev pub bits_that_hold : ℕ → ℕ
bits_that_hold k = if nat_le k 32 then 32 else 64

-- the widths of the operands, in order
abbrev pub widths_of : Op → List ℕ
widths_of (Const wide pattern) = []
widths_of (Input wide word) = []
widths_of (Not wide) = bits_of wide ∷ []
widths_of (Neg wide) = bits_of wide ∷ []
widths_of (SignExt wide bits) = bits_that_hold bits ∷ []
widths_of (ZeroExt wide bits) = bits_that_hold bits ∷ []
widths_of (Low wide) = bits_of wide ∷ []
widths_of (Ite wide) = 32 ∷ bits_of wide ∷ bits_of wide ∷ []
widths_of (And wide) = bits_of wide ∷ bits_of wide ∷ []
widths_of (Or wide) = bits_of wide ∷ bits_of wide ∷ []
widths_of (Xor wide) = bits_of wide ∷ bits_of wide ∷ []
widths_of (Add wide) = bits_of wide ∷ bits_of wide ∷ []
widths_of (Sub wide) = bits_of wide ∷ bits_of wide ∷ []
widths_of (Mul wide) = bits_of wide ∷ bits_of wide ∷ []
widths_of (Shl wide) = bits_of wide ∷ bits_of wide ∷ []
widths_of (Shr wide) = bits_of wide ∷ bits_of wide ∷ []
widths_of (ShrUn wide) = bits_of wide ∷ bits_of wide ∷ []
widths_of (DivU wide) = bits_of wide ∷ bits_of wide ∷ []
widths_of (RemU wide) = bits_of wide ∷ bits_of wide ∷ []
widths_of (DivS wide) = bits_of wide ∷ bits_of wide ∷ []
widths_of (RemS wide) = bits_of wide ∷ bits_of wide ∷ []
widths_of (Eq wide) = bits_of wide ∷ bits_of wide ∷ []
widths_of (LtU wide) = bits_of wide ∷ bits_of wide ∷ []
widths_of (LtS wide) = bits_of wide ∷ bits_of wide ∷ []
widths_of (AddOvfU wide) = bits_of wide ∷ bits_of wide ∷ []
widths_of (SubOvfU wide) = bits_of wide ∷ bits_of wide ∷ []
widths_of (MulOvfU wide) = bits_of wide ∷ bits_of wide ∷ []
widths_of (AddOvfS wide) = bits_of wide ∷ bits_of wide ∷ []
widths_of (SubOvfS wide) = bits_of wide ∷ bits_of wide ∷ []
widths_of (MulOvfS wide) = bits_of wide ∷ bits_of wide ∷ []

-- the width of the result: that of a test, and of the low half of a word, is 32
abbrev pub result_width : Op → ℕ
result_width (Eq wide) = 32
result_width (LtU wide) = 32
result_width (LtS wide) = 32
result_width (AddOvfU wide) = 32
result_width (SubOvfU wide) = 32
result_width (MulOvfU wide) = 32
result_width (AddOvfS wide) = 32
result_width (SubOvfS wide) = 32
result_width (MulOvfS wide) = 32
result_width (Low wide) = 32
result_width (Const wide pattern) = bits_of wide
result_width (Input wide word) = bits_of wide
result_width (Not wide) = bits_of wide
result_width (And wide) = bits_of wide
result_width (Or wide) = bits_of wide
result_width (Xor wide) = bits_of wide
result_width (Add wide) = bits_of wide
result_width (Sub wide) = bits_of wide
result_width (Neg wide) = bits_of wide
result_width (Mul wide) = bits_of wide
result_width (Shl wide) = bits_of wide
result_width (Shr wide) = bits_of wide
result_width (ShrUn wide) = bits_of wide
result_width (DivU wide) = bits_of wide
result_width (RemU wide) = bits_of wide
result_width (DivS wide) = bits_of wide
result_width (RemS wide) = bits_of wide
result_width (SignExt wide bits) = bits_of wide
result_width (ZeroExt wide bits) = bits_of wide
result_width (Ite wide) = bits_of wide

-- an operator has a value of its operands alone: it is no input; a constant's pattern lies in its width, and so do the bits that an extension keeps
abbrev pub IsOperator : Op → Type 0
IsOperator (Input wide word) = ⊥
IsOperator (Const wide pattern) = pattern < 2 ^ bits_of wide
IsOperator (SignExt wide bits) = (1 ≤ bits) × (bits ≤ bits_of wide)
IsOperator (ZeroExt wide bits) = (1 ≤ bits) × (bits ≤ bits_of wide)
IsOperator (Not wide) = Unit {0}
IsOperator (And wide) = Unit {0}
IsOperator (Or wide) = Unit {0}
IsOperator (Xor wide) = Unit {0}
IsOperator (Add wide) = Unit {0}
IsOperator (Sub wide) = Unit {0}
IsOperator (Neg wide) = Unit {0}
IsOperator (Mul wide) = Unit {0}
IsOperator (Shl wide) = Unit {0}
IsOperator (Shr wide) = Unit {0}
IsOperator (ShrUn wide) = Unit {0}
IsOperator (DivU wide) = Unit {0}
IsOperator (RemU wide) = Unit {0}
IsOperator (DivS wide) = Unit {0}
IsOperator (RemS wide) = Unit {0}
IsOperator (Eq wide) = Unit {0}
IsOperator (LtU wide) = Unit {0}
IsOperator (LtS wide) = Unit {0}
IsOperator (AddOvfU wide) = Unit {0}
IsOperator (SubOvfU wide) = Unit {0}
IsOperator (MulOvfU wide) = Unit {0}
IsOperator (AddOvfS wide) = Unit {0}
IsOperator (SubOvfS wide) = Unit {0}
IsOperator (MulOvfS wide) = Unit {0}
IsOperator (Low wide) = Unit {0}
IsOperator (Ite wide) = Unit {0}

-- there is one operand for each width, and each is of its width
abbrev pub AreOperands : {W : Type 0} → (ℕ → W → Type 0) → List ℕ → List W → Type 0
AreOperands IsOf [] [] = Unit {0}
AreOperands IsOf [] (x ∷ xs) = ⊥
AreOperands IsOf (bits ∷ widths) [] = ⊥
AreOperands IsOf (bits ∷ widths) (x ∷ xs) = IsOf bits x × AreOperands IsOf widths xs

-- of three patterns the first ones lie in these widths, as many as there are
abbrev pub LieIn : List ℕ → ℕ → ℕ → ℕ → Type 0
LieIn [] a b c = Unit {0}
LieIn (u ∷ []) a b c = a < 2 ^ u
LieIn (u ∷ v ∷ []) a b c = (a < 2 ^ u) × (b < 2 ^ v)
LieIn (u ∷ v ∷ w ∷ more) a b c = (a < 2 ^ u) × (b < 2 ^ v) × (c < 2 ^ w)
