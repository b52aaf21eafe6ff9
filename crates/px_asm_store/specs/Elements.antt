-- Arrays in each other, by places.
use Rattle.std.specs.Prelude.{◌⊎◌, ℕ, ◌<◌}
use Rattle.px_program.specs.Formed.{FitsPlace}
use Rattle.px_program.specs.declared.program.Place.{Place}
use Rattle.px_program.specs.declared.program.Place.TheVariants as places
use Rattle.px_program.specs.declared.program.Program.{Program}
use Rattle.px_asm_described.specs.Describes.{HasElement, IsClass, IsTypeOf}
use Rattle.px_sig.specs.Grammar.{plain_type}
use Rattle.px_sig.specs.declared.sig.SigLeaf.{SigLeaf}

-- a place that holds an array with elements of this place
abbrev pub HoldsArray : Program → Place → Place → Type 0
HoldsArray p (places.Ref array) element = HasElement p array element
HoldsArray p _ element = ⊥

-- a place that holds a type of the library, or no array
abbrev pub IsLeaf : Program → Place → Type 0
IsLeaf p (places.Ref type) = (type < 18) ⊎ IsClass p type
IsLeaf p _ = Unit {0}

-- a place holds so many arrays in each other, whose innermost elements have this place
pub record IsInnermost (p : Program) (place : Place) (arrays : ℕ) (inner : Place) : Type 0 where
  pub leaf : IsLeaf p inner
  pub fits : FitsPlace p.types inner
  pub around : (leaf : SigLeaf) → IsTypeOf p inner (plain_type leaf) → IsTypeOf p place (record { depth = arrays; leaf = leaf })
