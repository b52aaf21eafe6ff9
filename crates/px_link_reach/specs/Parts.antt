-- What the parts that list overriders promise each other.
use Rattle.std.specs.Prelude.{◌≡◌, ℕ, ◌<◌, ◌≤◌, ◌⊎◌, List, [], ◌∷◌, ◌++◌, length, map, MatchOption, Option, All, Contains}
use Rattle.std.specs.List.{AllPairs}
use Rattle.std.specs.Cmp.Lexicographic.{slice_cmp}
use Rattle.std.specs.Ordering.{nat_cmp, ordering_then}
use Rattle.std.specs.declared.cmp.Ordering.{Ordering}
use Rattle.px_meta.specs.Faults.{IsFaultless}
use Rattle.px_meta.specs.FullNames.{IsTypeName}
use Rattle.px_meta.specs.Members.{owner_of}
use Rattle.px_meta.specs.Overriding.{Overrides}
use Rattle.px_meta.specs.Rows.{IsRow, methods}
use Rattle.px_meta.specs.Tokens.{AreRows}
use Rattle.px_tables.specs.Metadata.{View}
use Rattle.px_link_reach.specs.Overriders.{IsBefore, OverridesThrough, overriders_in}
use Rattle.px_link_reach.specs.declared.order.Named.{Named}

-- PARENTS

-- what a method overrides at once
abbrev pub IsParent : View → ℕ → Option ℕ → Type 0
IsParent v method parent = MatchOption parent ((other : ℕ) → Overrides v method other → ⊥) (Overrides v method)

pub record AreParents (v : View) (rows : List (Option ℕ)) : Type 0 where
  pub faultless : IsFaultless v
  pub each : AreRows IsParent v methods rows

-- ORDER

abbrev pub by_name_and_row : Named → Named → Ordering
by_name_and_row one other = ordering_then (slice_cmp nat_cmp one.owner other.owner) (nat_cmp one.row other.row)

abbrev pub rows_named : List Named → List ℕ
rows_named named = map (λ method. method.row) named

-- a method with the full name of its owner
pub record IsNamed (v : View) (named : Named) : Type 0 where
  pub row : IsRow v methods named.row
  pub name : IsTypeName v (owner_of v methods named.row) named.owner

-- those of the first methods that override some, by row
pub record AreNamed (v : View) (n : ℕ) (named : List Named) : Type 0 where
  pub each : All (IsNamed v) named
  pub all : (method other : ℕ) → method ≤ n → Overrides v method other → Contains (rows_named named) method
  pub few : All (λ row. row ≤ n) (rows_named named)
  pub rising : AllPairs (λ row later. row < later) (rows_named named)

-- all methods that override some, in their order
pub record AreOrdered (v : View) (rows : List ℕ) : Type 0 where
  pub each : All (IsRow v methods) rows
  pub all : (method other : ℕ) → Overrides v method other → Contains rows method
  pub order : AllPairs (IsBefore v) rows

-- LISTS

-- a method stands at the end of a list exactly where it overrides the list's method
abbrev pub IsAdded : View → ℕ → ℕ → List ℕ → List ℕ → Type 0
IsAdded v row method old new = (OverridesThrough v row method × (new ≡ old ++ row ∷ [])) ⊎ ((OverridesThrough v row method → ⊥) × (new ≡ old))

pub record AreAdded (v : View) (row : ℕ) (old new : List (List ℕ)) : Type 0 where
  pub size : length new ≡ length old
  pub each : (method : ℕ) → IsRow v methods method → IsAdded v row method (overriders_in old method) (overriders_in new method)
