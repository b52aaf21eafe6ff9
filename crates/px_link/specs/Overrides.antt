-- Which methods take the place of others in a type (Partition II, 10.3; Partition III, 4.2).
use Rattle.std.specs.Prelude.{◌≡◌, ℕ, zero, ◌==◌, List, [], ◌∷◌, Option, Some, None, filter, find, length, slice_get}
use Rattle.std.specs.List.{flat_map}
use Rattle.px_meta.specs.Chains.{IsChain, base_in}
use Rattle.px_meta.specs.Members.{owner_of}
use Rattle.px_meta.specs.Rows.{is_in, methods}
use Rattle.px_link_methods.specs.Codes.{Numbering, place_of}
use Rattle.px_program.specs.declared.program.TypeInfo.{TypeInfo}
use Rattle.px_link_reach.specs.Overriders.{overriders_in}
use Rattle.px_tables.specs.Metadata.{View}
use Rattle.px_link_types.specs.Infos.{AreInfos}
use Rattle.px_link_types.specs.declared.key.Key.{Key}
use Rattle.px_link_types.specs.declared.key.Leaf.{Leaf}
use Rattle.px_link_types.specs.declared.key.Leaf.TheVariants.{Defined}

-- those methods that a `callvirt` names, in the order of their numbers
abbrev pub in_order : List ℕ → List ℕ → List ℕ
in_order rows targets = filter (is_in targets) rows

-- the first by row of some methods in their order that a type has
abbrev pub first_of : View → ℕ → List ℕ → Option ℕ
first_of v type overriders = find (λ method. owner_of v methods method == type) overriders

abbrev pub or_later : Option ℕ → Option ℕ → Option ℕ
or_later None later = later
or_later (Some method) later = Some method

-- the first in the nearest of a chain of types that has one
abbrev pub nearest : View → List ℕ → List ℕ → Option ℕ
nearest v [] overriders = None
nearest v (type ∷ types) overriders = or_later (first_of v type overriders) (nearest v types overriders)

abbrev pub pair_of : Numbering → ℕ → Option ℕ → List (ℕ × ℕ)
pair_of n target None = []
pair_of n target (Some method) = (place_of n.rows target, place_of n.rows method) ∷ []

-- for each method that a `callvirt` names, the one that takes its place in a type with this chain of bases, where one does
abbrev pub pairs_of : View → Numbering → List (List ℕ) → List ℕ → List ℕ → List (ℕ × ℕ)
pairs_of v n lists targets chain = flat_map (λ target. pair_of n target (nearest v chain (overriders_in lists target))) targets

-- the methods that take the place of others in a type of the assembly
pub record HasOverrides (v : View) (n : Numbering) (lists : List (List ℕ)) (targets : List ℕ) (type : ℕ) (pairs : List (ℕ × ℕ)) : Type 0 where
  pub behind : List ℕ
  pub chain : IsChain (base_in v) type behind
  pub are : pairs ≡ pairs_of v n lists targets (type ∷ behind)

-- in a type of the library, and in an array, no method takes the place of another
abbrev pub AreOverrides : View → Numbering → List (List ℕ) → List ℕ → ℕ → Leaf → List (ℕ × ℕ) → Type 0
AreOverrides v n lists targets zero (Defined type) pairs = HasOverrides v n lists targets type pairs
AreOverrides v n lists targets depth leaf pairs = pairs ≡ []

abbrev pub with_overrides : TypeInfo → List (ℕ × ℕ) → TypeInfo
with_overrides info pairs = record { name = info.name; base = info.base; element = info.element; fields = info.fields; statics = info.statics; overrides = pairs }

-- a type with the methods that take the place of others in it
pub record IsLinkedType (v : View) (n : Numbering) (lists : List (List ℕ)) (targets : List ℕ) (key : Key) (info type : TypeInfo) : Type 0 where
  pub pairs : List (ℕ × ℕ)
  pub overrides : AreOverrides v n lists targets key.depth key.leaf pairs
  pub is : type ≡ with_overrides info pairs

-- the types of a program in the order of their keys
pub record AreLinkedTypes (v : View) (n : Numbering) (lists : List (List ℕ)) (targets : List ℕ) (types : List TypeInfo) : Type 0 where
  pub bare : List TypeInfo
  pub infos : AreInfos v n.keys bare
  pub count : length types ≡ length bare
  pub each : (k : ℕ) (key : Key) (info type : TypeInfo) → slice_get n.keys k ≡ Some key → slice_get bare k ≡ Some info → slice_get types k ≡ Some type → IsLinkedType v n lists targets key info type
