-- The types of the library that programs know by their numbers, all of the namespace `System`.
use Rattle.std.specs.Prelude.{ℕ, List, [], ◌∷◌, ◌++◌, codes, Option, Some, None}
use Rattle.px_program.specs.declared.program.TypeInfo.{TypeInfo}

-- a type by its name and its base's number
abbrev pub type_of : List ℕ → Option ℕ → TypeInfo
type_of name base = record { name = codes "System." ++ name; base = base; element = None; fields = []; statics = []; overrides = [] }

-- the type of each number below 18
abbrev pub library_types : List TypeInfo
library_types =
    type_of (codes "Object") None
    ∷ type_of (codes "Exception") (Some 0)
    ∷ type_of (codes "SystemException") (Some 1)
    ∷ type_of (codes "ArithmeticException") (Some 2)
    ∷ type_of (codes "DivideByZeroException") (Some 3)
    ∷ type_of (codes "OverflowException") (Some 3)
    ∷ type_of (codes "NullReferenceException") (Some 2)
    ∷ type_of (codes "IndexOutOfRangeException") (Some 2)
    ∷ type_of (codes "InvalidCastException") (Some 2)
    ∷ type_of (codes "ArrayTypeMismatchException") (Some 2)
    ∷ type_of (codes "ArgumentException") (Some 2)
    ∷ type_of (codes "ArgumentNullException") (Some 10)
    ∷ type_of (codes "ArgumentOutOfRangeException") (Some 10)
    ∷ type_of (codes "InvalidOperationException") (Some 2)
    ∷ type_of (codes "NotSupportedException") (Some 2)
    ∷ type_of (codes "NotImplementedException") (Some 2)
    ∷ type_of (codes "FormatException") (Some 2)
    ∷ type_of (codes "String") (Some 0)
    ∷ []
