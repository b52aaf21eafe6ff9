-- How often what stands at an offset may still change: with each merge that changes it, its height falls.
use Rattle.std.specs.Prelude.{◌≡◌, ℕ, suc, ◌+◌, ◌<◌, ◌≤◌, ◌*◌, ◌⊎◌, List, [], ◌∷◌, ◌==◌, Option, Some, None, length, if◌then◌else◌}
use Rattle.px_program.specs.Formed.{AreTypes}
use Rattle.px_program.specs.declared.program.TypeInfo.{TypeInfo}
use Rattle.px_verify_kinds.specs.Kinds.{FitAll, line_of, merge}
use Rattle.px_verify_kinds.specs.declared.kind.Kind.{Kind}
use Rattle.px_verify_kinds.specs.declared.kind.Kind.TheVariants as kinds

-- no kind is higher
abbrev pub most_height : List TypeInfo → ℕ
most_height types = suc (suc (length types))

-- null may become any reference, and a reference one to a base, at last to `Object`
abbrev pub kind_height : List TypeInfo → Kind → ℕ
kind_height types kinds.Null = most_height types
kind_height types (kinds.Ref type) = if type == 0 then 0 else length (line_of types type)
kind_height types _ = 0

abbrev pub stack_height : List TypeInfo → List Kind → ℕ
stack_height types [] = 0
stack_height types (kind ∷ below) = kind_height types kind + stack_height types below

abbrev pub met_with : List Kind → Option (List Kind) → List Kind
met_with standing None = standing
met_with standing (Some merged) = merged

-- what stands where a stack came to another one: what they became, or where they don't merge, what stood there
abbrev pub met : List TypeInfo → List Kind → List Kind → List Kind
met types standing given = met_with standing (merge types standing given)

-- a stack that comes again changes nothing
abbrev pub Absorbs : List TypeInfo → List Kind → List Kind → Type 0
Absorbs types standing given = met types standing given ≡ standing

-- LAWS

-- a merge leaves what stands, or makes it lower
abbrev pub MergesFall : Type 0
MergesFall = (types : List TypeInfo) → AreTypes types → (standing given merged : List Kind) → merge types standing given ≡ Some merged → (merged ≡ standing) ⊎ (stack_height types merged < stack_height types standing)

-- what was given is absorbed from then on
abbrev pub GivenIsAbsorbed : Type 0
GivenIsAbsorbed = (types : List TypeInfo) → AreTypes types → (standing given : List Kind) → Absorbs types (met types standing given) given

-- and stays so, whatever comes
abbrev pub AbsorbsOn : Type 0
AbsorbsOn = (types : List TypeInfo) → AreTypes types → (standing given other : List Kind) → Absorbs types standing given → Absorbs types (met types standing other) given

abbrev pub HeightIsBounded : Type 0
HeightIsBounded = (types : List TypeInfo) → AreTypes types → (stack : List Kind) → stack_height types stack ≤ length stack * most_height types

-- what both become may stand for either
abbrev pub CommonAbove : Type 0
CommonAbove = (types : List TypeInfo) → AreTypes types → (standing given merged : List Kind) → merge types standing given ≡ Some merged → FitAll types standing merged × FitAll types given merged

-- fits is an order
pub record FitsAreOrdered : Type 0 where
  pub itself : (types : List TypeInfo) → AreTypes types → (stack : List Kind) → FitAll types stack stack
  pub through : (types : List TypeInfo) → AreTypes types → (stack between other : List Kind) → FitAll types stack between → FitAll types between other → FitAll types stack other
