-- Heaps and references to members, as they are gathered: what is there stays where it is.
use Rattle.std.specs.Prelude.{◌≡◌, ℕ, ◌+◌, ◌*◌, ◌<◌, true, false, List, [], ◌∷◌, ◌++◌, codes, Some, Ok, Result, slice_get, slice_index}
use Rattle.std.specs.List.{AllZip}
use Rattle.px_asm_heaps.specs.Heaps.{Grows, HasBlob, HasString}
use Rattle.px_program.specs.declared.program.Place.{Place}
use Rattle.px_program.specs.declared.program.Program.{Program}
use Rattle.px_asm_described.specs.Describes.{IsTypeOf}
use Rattle.px_sig.specs.Grammar.{method_sig}
use Rattle.px_sig.specs.declared.sig.Integer.TheVariants as integers
use Rattle.px_sig.specs.declared.sig.MethodSig.{MethodSig}
use Rattle.px_sig.specs.Grammar.{plain_type}
use Rattle.px_sig.specs.declared.sig.SigLeaf.TheVariants.{Void, Int}
use Rattle.px_sig.specs.declared.sig.SigType.{SigType}
use Rattle.px_tables.specs.declared.tables.Row.{Row}

-- the heaps of strings, of user strings and of blobs, and the rows of MemberRef
pub record Store : Type 0 where
  pub strings : List ℕ
  pub texts : List ℕ
  pub blob : List ℕ
  pub references : List Row

pub record RowsGrow (old new : List Row) : Type 0 where
  pub more : List Row
  pub is : new ≡ old ++ more

pub record StoreGrows (old new : Store) : Type 0 where
  pub strings : Grows old.strings new.strings
  pub texts : Grows old.texts new.texts
  pub blob : Grows old.blob new.blob
  pub references : RowsGrow old.references new.references

-- a blob stands there that reads as this
pub record HasSig {X : Type 0} (read : List ℕ → Result X ℕ) (heap : List ℕ) (at : ℕ) (x : X) : Type 0 where
  pub blob : List ℕ
  pub stands : HasBlob heap at blob
  pub reads : read blob ≡ Ok x

-- a row of MemberRef: of a type of TypeRef by its row, with a name and a plain signature that returns nothing
pub record IsReference (s : Store) (parent : ℕ) (name : List ℕ) (sig : MethodSig) (row : Row) : Type 0 where
  pub parent_is : slice_index row.cells 0 ≡ 8 * parent + 1
  pub name_is : HasString s.strings (slice_index row.cells 1) name
  pub sig_is : HasSig method_sig s.blob (slice_index row.cells 2) sig
  pub zeros : row.cells ≡ slice_index row.cells 0 ∷ slice_index row.cells 1 ∷ slice_index row.cells 2 ∷ 0 ∷ 0 ∷ 0 ∷ 0 ∷ 0 ∷ 0 ∷ []

-- the signature of `PexAssume::IsTrue` and of `PexAssert::IsTrue`
abbrev pub check_sig : MethodSig
check_sig = record { has_this = false; plain = true; ret = plain_type Void; params = plain_type (Int integers.Bool) ∷ [] }

-- the signature of a constructor with parameters of these types
abbrev pub constructor_sig : List SigType → MethodSig
constructor_sig types = record { has_this = true; plain = true; ret = plain_type Void; params = types }

-- a constructor of a type of the library with parameters of these places
pub record IsConstructorRow (p : Program) (s : Store) (class : ℕ) (params : List Place) (row : Row) : Type 0 where
  pub types : List SigType
  pub takes : AllZip (IsTypeOf p) params types
  pub is : IsReference s (class + 1) (codes ".ctor") (constructor_sig types) row

-- the first two rows of MemberRef are the checks, whose types have the rows 19 and 20 of TypeRef; the others are constructors
pub record HasChecks (s : Store) : Type 0 where
  pub assume : Row
  pub assert : Row
  pub others : List Row
  pub are : s.references ≡ assume ∷ assert ∷ others
  pub assume_is : IsReference s 19 (codes "IsTrue") check_sig assume
  pub assert_is : IsReference s 20 (codes "IsTrue") check_sig assert

pub record IsAnyConstructor (p : Program) (s : Store) (row : Row) : Type 0 where
  pub class : ℕ
  pub few : class < 17
  pub params : List Place
  pub is : IsConstructorRow p s class params row

pub record AreReferences (p : Program) (s : Store) : Type 0 where
  pub checks : HasChecks s
  pub others : (n : ℕ) (row : Row) → slice_get s.references (n + 2) ≡ Some row → IsAnyConstructor p s row
