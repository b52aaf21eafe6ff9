-- Where objects of a class have their fields.
use Rattle.std.specs.Prelude.{◌≡◌, ℕ, ◌+◌, List, [], ◌∷◌, ◌++◌, Option, Some, None, length, slice_get}
use Rattle.px_program.specs.Formed.{IsChain, base_of}
use Rattle.px_program.specs.declared.instr.Field.{Field}
use Rattle.px_program.specs.declared.program.Place.{Place}
use Rattle.px_program.specs.declared.program.TypeInfo.{TypeInfo}

-- the fields that a type has of its own
abbrev pub own_fields : Option TypeInfo → List Place
own_fields None = []
own_fields (Some type) = type.fields

-- the fields of types in a chain, those of the last first
abbrev pub fields_along : List TypeInfo → List ℕ → List Place
fields_along types [] = []
fields_along types (type ∷ bases) = fields_along types bases ++ own_fields (slice_get types type)

-- all fields of an object of a class
pub record AreFields (types : List TypeInfo) (class : ℕ) (fields : List Place) : Type 0 where
  pub bases : List ℕ
  pub chain : IsChain (base_of types) class bases
  pub are : fields ≡ fields_along types (class ∷ bases)

-- the place of a field among them: after those of its owner's bases
pub record IsSlot (types : List TypeInfo) (field : Field) (slot : ℕ) : Type 0 where
  pub bases : List ℕ
  pub chain : IsChain (base_of types) field.owner bases
  pub is : slot ≡ length (fields_along types bases) + field.index
