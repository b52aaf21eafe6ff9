-- What operators say of the numbers that patterns are: Partition III, 1.5 and 3.
-- Read unsigned, a pattern is itself; read signed, it is `signed_of`.
use Rattle.std.specs.Prelude.{◌≡◌, ℕ, ◌+◌, ◌-◌, ◌*◌, ◌%◌, ◌^◌, ◌<◌, ◌≤◌, ◌↔◌, Bool, true, false, nat_lt, if◌then◌else◌, ℤ, pos, ◌+ℤ◌, ◌-ℤ◌, ◌*ℤ◌, FitsSigned}
use Rattle.px_words.specs.declared.Op.TheVariants.{Add, Sub, Mul, AddOvfU, SubOvfU, MulOvfU, AddOvfS, SubOvfS, MulOvfS, SignExt, ZeroExt, Low}
use Rattle.px_words.specs.Operator.{bits_of}
use Rattle.px_words.specs.Word.{signed_of, width_of, word}

-- a pattern of the width
abbrev pub IsPattern : Bool → ℕ → Type 0
IsPattern wide a = a < 2 ^ bits_of wide

-- the number lies in the signed range of the width
abbrev pub IsSigned : Bool → ℤ → Type 0
IsSigned wide z = FitsSigned (width_of wide) z

-- the low k bits of a pattern, read signed
abbrev pub signed_low : ℕ → ℕ → ℤ
signed_low k a = if nat_lt (a % 2 ^ k) (2 ^ (k - 1)) then pos (a % 2 ^ k) else pos (a % 2 ^ k) -ℤ pos (2 ^ k)

-- a test is 1 exactly where the exact result lies outside the range, and else 0
pub record TellsOutside (test : ℕ) (Inside : Type 0) : Type 0 where
  pub outside : (test ≡ 1) ↔ (Inside → ⊥)
  pub inside : (test ≡ 0) ↔ Inside

-- sums, differences and products that don't leave the range are exact
abbrev pub SumIsExact : Type 0
SumIsExact = (wide : Bool) (a b c : ℕ) → IsPattern wide (a + b) → word (Add wide) a b c ≡ a + b

abbrev pub DifferenceIsExact : Type 0
DifferenceIsExact = (wide : Bool) (a b c : ℕ) → IsPattern wide a → b ≤ a → word (Sub wide) a b c ≡ a - b

abbrev pub ProductIsExact : Type 0
ProductIsExact = (wide : Bool) (a b c : ℕ) → IsPattern wide (a * b) → word (Mul wide) a b c ≡ a * b

abbrev pub SignedSumIsExact : Type 0
SignedSumIsExact = (wide : Bool) (a b c : ℕ) → IsPattern wide a → IsPattern wide b → IsSigned wide (signed_of wide a +ℤ signed_of wide b)
    → signed_of wide (word (Add wide) a b c) ≡ signed_of wide a +ℤ signed_of wide b

abbrev pub SignedDifferenceIsExact : Type 0
SignedDifferenceIsExact = (wide : Bool) (a b c : ℕ) → IsPattern wide a → IsPattern wide b → IsSigned wide (signed_of wide a -ℤ signed_of wide b)
    → signed_of wide (word (Sub wide) a b c) ≡ signed_of wide a -ℤ signed_of wide b

abbrev pub SignedProductIsExact : Type 0
SignedProductIsExact = (wide : Bool) (a b c : ℕ) → IsPattern wide a → IsPattern wide b → IsSigned wide (signed_of wide a *ℤ signed_of wide b)
    → signed_of wide (word (Mul wide) a b c) ≡ signed_of wide a *ℤ signed_of wide b

-- an extension by sign has the signed reading of the low bits, and one by zeros their unsigned one, where a sign bit is left for it
abbrev pub SignExtensionReadsLow : Type 0
SignExtensionReadsLow = (wide : Bool) (k a b c : ℕ) → 1 ≤ k → k ≤ bits_of wide → signed_of wide (word (SignExt wide k) a b c) ≡ signed_low k a

abbrev pub ZeroExtensionReadsLow : Type 0
ZeroExtensionReadsLow = (wide : Bool) (k a b c : ℕ) → k < bits_of wide → signed_of wide (word (ZeroExt wide k) a b c) ≡ pos (a % 2 ^ k)

-- a word of 32 bits that is extended to 64 keeps its number: by sign the signed one, by zeros the unsigned one
abbrev pub WideningKeepsSigned : Type 0
WideningKeepsSigned = (a b c : ℕ) → IsPattern false a → signed_of true (word (SignExt true 32) a b c) ≡ signed_of false a

abbrev pub WideningKeepsUnsigned : Type 0
WideningKeepsUnsigned = (a b c : ℕ) → IsPattern false a → word (ZeroExt true 32) a b c ≡ a

-- the low half of a word has the signed reading of these bits, and its number where 32 bits have room for it
abbrev pub LowReadsLow : Type 0
LowReadsLow = (wide : Bool) (a b c : ℕ) → signed_of false (word (Low wide) a b c) ≡ signed_low 32 a

abbrev pub LowKeepsSigned : Type 0
LowKeepsSigned = (wide : Bool) (a b c : ℕ) → IsPattern wide a → IsSigned false (signed_of wide a) → signed_of false (word (Low wide) a b c) ≡ signed_of wide a

abbrev pub LowKeepsUnsigned : Type 0
LowKeepsUnsigned = (wide : Bool) (a b c : ℕ) → IsPattern false a → word (Low wide) a b c ≡ a

-- what the tests of overflow say in whole numbers
abbrev pub SumTest : Type 0
SumTest = (wide : Bool) (a b c : ℕ) → TellsOutside (word (AddOvfU wide) a b c) (IsPattern wide (a + b))

abbrev pub DifferenceTest : Type 0
DifferenceTest = (wide : Bool) (a b c : ℕ) → TellsOutside (word (SubOvfU wide) a b c) (b ≤ a)

abbrev pub ProductTest : Type 0
ProductTest = (wide : Bool) (a b c : ℕ) → TellsOutside (word (MulOvfU wide) a b c) (IsPattern wide (a * b))

abbrev pub SignedSumTest : Type 0
SignedSumTest = (wide : Bool) (a b c : ℕ) → TellsOutside (word (AddOvfS wide) a b c) (IsSigned wide (signed_of wide a +ℤ signed_of wide b))

abbrev pub SignedDifferenceTest : Type 0
SignedDifferenceTest = (wide : Bool) (a b c : ℕ) → TellsOutside (word (SubOvfS wide) a b c) (IsSigned wide (signed_of wide a -ℤ signed_of wide b))

abbrev pub SignedProductTest : Type 0
SignedProductTest = (wide : Bool) (a b c : ℕ) → TellsOutside (word (MulOvfS wide) a b c) (IsSigned wide (signed_of wide a *ℤ signed_of wide b))
