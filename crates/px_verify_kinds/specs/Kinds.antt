-- Kinds of values on a stack (Partition III, 1.5): which fit where, and what two of them become where they meet.
use Rattle.std.specs.Prelude.{◌≡◌, ℕ, zero, suc, List, [], ◌∷◌, Bool, true, false, ◌==◌, ◌||◌, Option, Some, None, length, if◌then◌else◌}
use Rattle.std.specs.List.{list_any}
use Rattle.px_program.specs.Formed.{base_of, element_of}
use Rattle.px_program.specs.declared.program.Place.{Place}
use Rattle.px_program.specs.declared.program.Place.TheVariants as places
use Rattle.px_program.specs.declared.program.TypeInfo.{TypeInfo}
use Rattle.px_verify_kinds.specs.declared.kind.Kind.{Kind}
use Rattle.px_verify_kinds.specs.declared.kind.Kind.TheVariants as kinds

-- what a load of a place leaves on the stack
abbrev pub kind_of : Place → Kind
kind_of places.I8 = kinds.L
kind_of places.U8 = kinds.L
kind_of places.N = kinds.N
kind_of places.UN = kinds.N
kind_of (places.Ref type) = kinds.Ref type
kind_of places.Bool = kinds.I
kind_of places.Char = kinds.I
kind_of places.I1 = kinds.I
kind_of places.U1 = kinds.I
kind_of places.I2 = kinds.I
kind_of places.U2 = kinds.I
kind_of places.I4 = kinds.I
kind_of places.U4 = kinds.I

-- LINES OF BASES

-- a number and those behind it, the nearest first, at most so many
abbrev pub line_from : (ℕ → Option ℕ) → ℕ → Option ℕ → List ℕ
line_from next zero type = []
line_from next (suc n) None = []
line_from next (suc n) (Some type) = type ∷ line_from next n (next type)

-- a type and its bases, the nearest first
abbrev pub line_of : List TypeInfo → ℕ → List ℕ
line_of types type = line_from (base_of types) (suc (length types)) (Some type)

abbrev pub is_in : List ℕ → ℕ → Bool
is_in line type = list_any (λ other. other == type) line

-- the type is another, or has it among its bases
abbrev pub is_kind_of : List TypeInfo → ℕ → ℕ → Bool
is_kind_of types type other = is_in (line_of types type) other

-- the first of a line that is in another one; `Object` where there is none
abbrev pub nearest : List ℕ → List ℕ → ℕ
nearest [] others = 0
nearest (type ∷ bases) others = if is_in others type then type else nearest bases others

-- the nearest common base of two types; that of arrays of different elements is `Object`
abbrev pub common : List TypeInfo → ℕ → ℕ → ℕ
common types type other = nearest (line_of types type) (line_of types other)

-- WHAT KINDS BECOME

-- what stands becomes this where another kind comes to it (Partition III, 1.8.1.3)
abbrev pub merge_kind : List TypeInfo → Kind → Kind → Option Kind
merge_kind types kinds.I kinds.I = Some kinds.I
merge_kind types kinds.L kinds.L = Some kinds.L
merge_kind types kinds.N kinds.N = Some kinds.N
merge_kind types kinds.Null kinds.Null = Some kinds.Null
merge_kind types kinds.Null (kinds.Ref type) = Some (kinds.Ref type)
merge_kind types (kinds.Ref type) kinds.Null = Some (kinds.Ref type)
merge_kind types (kinds.Ref type) (kinds.Ref other) = Some (kinds.Ref (common types type other))
merge_kind types _ _ = None

abbrev pub put_on : Option Kind → Option (List Kind) → Option (List Kind)
put_on None stack = None
put_on (Some kind) None = None
put_on (Some kind) (Some stack) = Some (kind ∷ stack)

-- two stacks, place by place; stacks of different heights don't merge
abbrev pub merge : List TypeInfo → List Kind → List Kind → Option (List Kind)
merge types [] [] = Some []
merge types (standing ∷ below) (given ∷ others) = put_on (merge_kind types standing given) (merge types below others)
merge types _ _ = None

-- WHICH FITS

-- in so many layers of arrays of references, one type fits where another is asked for
abbrev pub fits_within : List TypeInfo → ℕ → Option ℕ → Option ℕ → Bool
fits_within types zero type other = false
fits_within types (suc layers) (Some type) (Some other) =
    (other == 0) || is_kind_of types type other || fits_within types layers (element_of types type) (element_of types other)
fits_within types (suc layers) _ _ = false

-- a reference to one type fits where one to another is asked for: a base or `Object`, or an array of references an array of what these fit (Partition I, 8.7.1)
abbrev pub fits : List TypeInfo → ℕ → ℕ → Bool
fits types type other = fits_within types (suc (length types)) (Some type) (Some other)

-- a kind fits where another is asked for: numbers by equal kinds alone, and null wherever a reference does
abbrev pub fits_kind : List TypeInfo → Kind → Kind → Bool
fits_kind types kinds.I kinds.I = true
fits_kind types kinds.L kinds.L = true
fits_kind types kinds.N kinds.N = true
fits_kind types kinds.Null kinds.Null = true
fits_kind types kinds.Null (kinds.Ref type) = true
fits_kind types (kinds.Ref type) (kinds.Ref other) = fits types type other
fits_kind types _ _ = false

-- each kind fits the one at its place
abbrev pub FitAll : List TypeInfo → List Kind → List Kind → Type 0
FitAll types [] [] = Unit {0}
FitAll types (kind ∷ below) (wanted ∷ others) = (fits_kind types kind wanted ≡ true) × FitAll types below others
FitAll types _ _ = ⊥
