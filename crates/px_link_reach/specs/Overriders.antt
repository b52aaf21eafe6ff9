-- The methods that override a method, at once or through others (Partition II, 10.3).
use Rattle.std.specs.Prelude.{◌≡◌, ℕ, ◌-◌, ◌<◌, ◌==◌, List, [], true, slice_index_or}
use Rattle.std.specs.List.{AllByRecursion, AllPairs, list_any}
use Rattle.std.specs.Cmp.Lexicographic.{slice_cmp}
use Rattle.std.specs.Ordering.{MatchOrdering, nat_cmp}
use Rattle.px_meta.specs.FullNames.{IsTypeName}
use Rattle.px_meta.specs.Members.{owner_of}
use Rattle.px_meta.specs.Overriding.{Overrides}
use Rattle.px_meta.specs.Rows.{methods}
use Rattle.px_meta.specs.Tokens.{AreRows}
use Rattle.px_tables.specs.Metadata.{View}

-- a method overrides what it is said to override, and all that this one overrides
pub data OverridesThrough (v : View) : ℕ → ℕ → Type 0 where
  Directly : (method other : ℕ) → Overrides v method other → OverridesThrough v method other
  Through : (method between other : ℕ) → Overrides v method between → OverridesThrough v between other → OverridesThrough v method other

-- a method comes before another by the bytes of their owners' full names, and then by row
pub record IsBefore (v : View) (method other : ℕ) : Type 0 where
  pub type : List ℕ
  pub other_type : List ℕ
  pub type_is : IsTypeName v (owner_of v methods method) type
  pub other_type_is : IsTypeName v (owner_of v methods other) other_type
  pub before : MatchOrdering (slice_cmp nat_cmp type other_type) (Unit {0}) (method < other) ⊥

-- all methods that override a method, in their order
pub record AreOverriders (v : View) (method : ℕ) (overriders : List ℕ) : Type 0 where
  pub each : AllByRecursion (λ other. OverridesThrough v other method) overriders
  pub all : (other : ℕ) → OverridesThrough v other method → list_any (λ row. row == other) overriders ≡ true
  pub order : AllPairs (IsBefore v) overriders

-- what is known of overriding: of each method by its row those that override it
pub record Overriders : Type 0 where
  pub tables : View
  pub lists : List (List ℕ)

abbrev pub overriders_in : List (List ℕ) → ℕ → List ℕ
overriders_in lists method = slice_index_or lists (method - 1) []

abbrev pub AreLists : View → List (List ℕ) → Type 0
AreLists v lists = AreRows AreOverriders v methods lists
