-- How the facts write metadata: the rows of tables by their cells, as bytes, and the heaps.
use Rattle.std.specs.Prelude.{ℕ, ◌+◌, ◌*◌, ◌/◌, ◌%◌, ◌^◌, List, [], ◌∷◌, ◌++◌, length, replicate}
use Rattle.std.specs.List.{flat_map}
use Rattle.px_tables.specs.Metadata.{View}
use Rattle.px_tables.specs.Rows.{row_of, start_of}
use Rattle.px_tables.specs.Counts.{row_size}

-- cells of two bytes, and one of four, the low byte first
abbrev pub halves : List ℕ → List ℕ
halves [] = []
halves (cell ∷ cells) = cell % 2 ^ 8 ∷ cell / 2 ^ 8 ∷ halves cells

abbrev pub wide : ℕ → List ℕ
wide cell = halves (cell % 2 ^ 16 ∷ cell / 2 ^ 16 ∷ [])

-- a type of another assembly: what it is nested in, its name and its namespace
abbrev pub type_ref : ℕ → ℕ → ℕ → List ℕ
type_ref scope name namespace = halves (scope ∷ name ∷ namespace ∷ [])

-- a type: its flags, its name and its namespace, its base, and where its fields and its methods begin
abbrev pub type_def : ℕ → ℕ → ℕ → ℕ → ℕ → ℕ → List ℕ
type_def flags name namespace base fields methods = wide flags ++ halves (name ∷ namespace ∷ base ∷ fields ∷ methods ∷ [])

abbrev pub field : ℕ → ℕ → ℕ → List ℕ
field flags name sig = halves (flags ∷ name ∷ sig ∷ [])

-- a method: the address of its body, its flags, its name and its signature
abbrev pub method : ℕ → ℕ → ℕ → ℕ → List ℕ
method address flags name sig = wide address ++ halves (0 ∷ flags ∷ name ∷ sig ∷ 1 ∷ [])

-- a reference to a member: its parent, its name and its signature
abbrev pub member_ref : ℕ → ℕ → ℕ → List ℕ
member_ref parent name sig = halves (parent ∷ name ∷ sig ∷ [])

-- coded indexes: of a base, of the parent of a reference to a member, and of a method
abbrev pub base_def : ℕ → ℕ
base_def row = 4 * row

abbrev pub base_ref : ℕ → ℕ
base_ref row = 4 * row + 1

abbrev pub parent_def : ℕ → ℕ
parent_def row = 8 * row

abbrev pub parent_ref : ℕ → ℕ
parent_ref row = 8 * row + 1

-- the rows of the tables that are read, and the heaps
pub record Sketch : Type 0 where
  pub type_refs : List (List ℕ)
  pub type_defs : List (List ℕ)
  pub fields : List (List ℕ)
  pub methods : List (List ℕ)
  pub member_refs : List (List ℕ)
  pub locals : List (List ℕ)
  pub impls : List (List ℕ)
  pub type_specs : List (List ℕ)
  pub nested : List (List ℕ)
  pub strings : List ℕ
  pub user_strings : List ℕ
  pub blob : List ℕ

-- the counts of the tables 0x00 to 0x3F
abbrev pub counts_of : Sketch → List ℕ
counts_of s =
    0 ∷ length s.type_refs ∷ length s.type_defs ∷ 0 ∷ length s.fields ∷ 0 ∷ length s.methods ∷ 0 ∷ 0 ∷ 0 ∷ length s.member_refs
    ∷ replicate 6 0 ++ length s.locals ∷ replicate 7 0 ++ length s.impls ∷ 0 ∷ length s.type_specs ∷ replicate 13 0 ++ length s.nested ∷ replicate 22 0

abbrev pub joined : List (List ℕ) → List ℕ
joined parts = flat_map (λ part. part) parts

-- the metadata; no heap is wide
abbrev pub view_of : Sketch → View
view_of s = record {
  counts = record { heap_sizes = 0; rows = counts_of s };
  rows = joined (joined_rows s);
  strings = s.strings;
  user_strings = s.user_strings;
  guid = [];
  blob = s.blob;
}
  where
    joined_rows : Sketch → List (List ℕ)
    joined_rows s = s.type_refs ++ s.type_defs ++ s.fields ++ s.methods ++ s.member_refs ++ s.locals ++ s.impls ++ s.type_specs ++ s.nested

-- texts, each with a zero behind it, and blobs, each behind its length
abbrev pub texts : List (List ℕ) → List ℕ
texts all = 0 ∷ flat_map (λ text. text ++ 0 ∷ []) all

abbrev pub blobs : List (List ℕ) → List ℕ
blobs all = 0 ∷ flat_map (λ blob. length blob ∷ blob) all

-- what finds a row: a fact that opens it computes with the tables
unfoldable pub tables : Type 0
unfolding row_of row_size start_of
tables = Unit {0}
