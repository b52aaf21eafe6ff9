-- The full names of types: `Namespace.Type`, where a nested type is `Outer/Inner`, and `Namespace.` is left out where the namespace is empty.
use Rattle.std.specs.Prelude.{◌≡◌, ℕ, List, [], ◌∷◌, ◌++◌, codes}
use Rattle.px_tables.specs.Metadata.{View}
use Rattle.px_meta.specs.Chains.{IsChain, outer_of}
use Rattle.px_meta.specs.Rows.{cell, text_at, type_defs}

abbrev pub with_namespace : List ℕ → List ℕ → List ℕ
with_namespace [] name = name
with_namespace (c ∷ namespace) name = (c ∷ namespace) ++ codes "." ++ name

-- a type's own name, behind its namespace
abbrev pub own_name : View → ℕ → List ℕ
own_name v row = with_namespace (text_at v (cell v type_defs row 2)) (text_at v (cell v type_defs row 1))

-- the name of a type that is nested in others, the innermost of these first
abbrev pub type_name : View → ℕ → List ℕ → List ℕ
type_name v row [] = own_name v row
type_name v row (outer ∷ outers) = type_name v outer outers ++ codes "/" ++ own_name v row

-- the text is the name of a type, which is nested in all that its chain of outer types has
pub record IsTypeName (v : View) (row : ℕ) (text : List ℕ) : Type 0 where
  pub outers : List ℕ
  pub chain : IsChain (outer_of v) row outers
  pub is : text ≡ type_name v row outers
