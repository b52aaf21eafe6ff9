-- The names of methods: `Namespace.Type::Name`, where a nested type is `Outer/Inner`, and `Namespace.` is left out where the namespace is empty.
use Rattle.std.specs.Prelude.{◌≡◌, ◌≢◌, ℕ, List, ◌++◌, codes}
use Rattle.px_tables.specs.Metadata.{View}
use Rattle.px_meta.specs.Members.{owner_of}
use Rattle.px_meta.specs.Rows.{IsRow, cell, methods, text_at}
pub use Rattle.px_meta.specs.FullNames.{with_namespace, own_name, type_name, IsTypeName}

-- A method of this name. A method that no type has is found by no name.
pub record IsNamed (v : View) (name : List ℕ) (method : ℕ) : Type 0 where
  pub row : IsRow v methods method
  pub owned : owner_of v methods method ≢ 0
  pub type : List ℕ
  pub type_is : IsTypeName v (owner_of v methods method) type
  pub is : name ≡ type ++ codes "::" ++ text_at v (cell v methods method 3)

-- the one method of this name
pub record IsOnly (v : View) (name : List ℕ) (method : ℕ) : Type 0 where
  pub named : IsNamed v name method
  pub only : (other : ℕ) → IsNamed v name other → other ≡ method
