-- A program, the assembly from which it was linked, and one that describes it: what stands in the one stands for what stands in the other.
use Rattle.std.specs.Prelude.{ℕ, List, map}
use Rattle.px_link.specs.Link.{Reads}
use Rattle.px_meta.specs.Faults.{IsFaultless}
use Rattle.px_link_methods.specs.Codes.{Numbering, place_of}
use Rattle.px_pe.specs.Image as pe
use Rattle.px_program.specs.declared.program.Program.{Program}
use Rattle.px_tables.specs.Metadata.{IsSound, View}
use Rattle.px_link_types.specs.Keys.{alone}
use Rattle.px_link_types.specs.Numbers.{number_of}
use Rattle.px_link_types.specs.declared.key.Key.{Key}
use Rattle.px_link_types.specs.declared.key.Leaf.{Leaf}
use Rattle.px_link_types.specs.declared.key.Leaf.TheVariants.{Number, Library, Defined}
use Rattle.px_asm_described.specs.Describes.{Describes, method_row, type_row}
use Rattle.px_asm_law_relink.specs.Linked.{RunsWhole}
use Rattle.px_asm_described.specs.Writable.{IsWritable}

-- a program that was linked from one assembly (`first`, `from`) and is described by another (`v`, `image`)
pub record Again : Type 0 where
  pub p : Program
  pub first : View
  pub from : pe.View
  pub name : List ℕ
  pub resolved : IsFaultless first
  pub sound : IsSound first
  pub reads : Reads first from name p
  pub runs : RunsWhole p
  pub writable : IsWritable p
  pub v : View
  pub image : pe.View
  pub describes : Describes p v image

-- the numbers in the assembly from which the program was linked
abbrev pub first_numbers : Again → Numbering
first_numbers a = record { keys = a.reads.keys; rows = a.reads.reached.rows }

-- WHAT STANDS FOR WHAT

-- the row of the type that stands for one of the first assembly
abbrev pub type_for : Again → ℕ → ℕ
type_for a row = type_row a.p (number_of a.reads.keys (alone (Defined row)))

abbrev pub leaf_for : Again → Leaf → Leaf
leaf_for a (Number integer) = Number integer
leaf_for a (Library number) = Library number
leaf_for a (Defined row) = Defined (type_for a row)

abbrev pub key_for : Again → Key → Key
key_for a key = record { depth = key.depth; leaf = leaf_for a key.leaf }

-- the row of the method that stands for one of the first assembly
abbrev pub method_for : Again → ℕ → ℕ
method_for a row = method_row a.p (place_of a.reads.reached.rows row)

abbrev pub keys_for : Again → List Key → List Key
keys_for a keys = map (key_for a) keys

abbrev pub methods_for : Again → List ℕ → List ℕ
methods_for a rows = map (method_for a) rows

-- the numbers in the assembly that describes the program
abbrev pub numbers_for : Again → Numbering
numbers_for a = record { keys = keys_for a a.reads.keys; rows = methods_for a a.reads.reached.rows }
