-- Programs that were linked from assemblies, and assemblies that a program is linked from again.
use Rattle.std.specs.Prelude.{◌≡◌, ℕ, ◌<◌, Bool, true, false, List, [], take, drop, All, Option, Some, None, Ok}
use Rattle.std.specs.List.{AllByRecursion}
use Rattle.px_link.specs.Link.{Reads}
use Rattle.px_meta.specs.Faults.{IsFaultless}
use Rattle.px_pe.specs.Image as pe
use Rattle.px_program.specs.Formed.{IsWellFormed, entry_of}
use Rattle.px_program.specs.declared.instr.Code.{Code}
use Rattle.px_program.specs.declared.instr.Code.TheVariants as code
use Rattle.px_program.specs.declared.program.Method.{Method}
use Rattle.px_program.specs.declared.program.Program.{Program}
use Rattle.px_tables.specs.Metadata.{IsSound, View, metadata_of}

-- the file is an assembly of which the method of a name gives the program: it is read, resolved and linked to it
pub record IsAssemblyOf (p : Program) (name file : List ℕ) : Type 0 where
  pub image : pe.View
  pub is_image : pe.image_of file ≡ Ok image
  pub v : View
  pub is_metadata : metadata_of (take image.metadata.len (drop image.metadata.start file)) ≡ Ok v
  pub resolved : IsFaultless v
  pub reads : Reads v image name p

-- the program was linked from an assembly: what readers and the linker say of it
pub record IsLinked (p : Program) : Type 0 where
  pub file : List ℕ
  pub bytes : All (λ byte. byte < 256) file
  pub name : List ℕ
  pub assembly : IsAssemblyOf p name file
  pub sound : IsSound assembly.v
  pub formed : IsWellFormed p

-- an instruction that is run
abbrev pub is_run : Code → Bool
is_run (code.Outside name opcode) = false
is_run _ = true

-- none of the instructions is Outside
abbrev pub RunsWhole : Program → Type 0
RunsWhole p = AllByRecursion (λ (method : Method). AllByRecursion (λ instr. is_run instr.code ≡ true) method.code) p.methods

abbrev pub name_in : Option Method → List ℕ
name_in None = []
name_in (Some method) = method.name

abbrev pub entry_name : Program → List ℕ
entry_name p = name_in (entry_of p)
