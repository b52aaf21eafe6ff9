-- The names of the library's types, without the namespace that they all have.
use Rattle.std.specs.Prelude.{ℕ, ◌+◌, List, [], ◌∷◌, codes, Option, Some, None, if◌then◌else◌}
use Rattle.std.specs.Str.{bytes_eq}

unfoldable pub names : List (List ℕ)
names =
    codes "Object"
    ∷ codes "Exception"
    ∷ codes "SystemException"
    ∷ codes "ArithmeticException"
    ∷ codes "DivideByZeroException"
    ∷ codes "OverflowException"
    ∷ codes "NullReferenceException"
    ∷ codes "IndexOutOfRangeException"
    ∷ codes "InvalidCastException"
    ∷ codes "ArrayTypeMismatchException"
    ∷ codes "ArgumentException"
    ∷ codes "ArgumentNullException"
    ∷ codes "ArgumentOutOfRangeException"
    ∷ codes "InvalidOperationException"
    ∷ codes "NotSupportedException"
    ∷ codes "NotImplementedException"
    ∷ codes "FormatException"
    ∷ codes "String"
    ∷ []

-- the number of the first name of a list that is this one, counted on from a number
unfoldable pub place_from : ℕ → List (List ℕ) → List ℕ → Option ℕ
place_from n [] name = None
place_from n (other ∷ others) name = if bytes_eq other name then Some n else place_from (n + 1) others name
