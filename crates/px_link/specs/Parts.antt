-- What the parts promise each other.
use Rattle.std.specs.Prelude.{◌≡◌, ℕ, ◌<◌, ◌^◌, List, [], ◌∷◌, length, if◌then◌else◌, ◌==◌, ◌&&◌, not, codes, Bool, Option, Some, None}
use Rattle.std.specs.Str.{bytes_eq}
use Rattle.std.specs.List.{AllByRecursion}
use Rattle.px_meta.specs.Chains.{IsChain, base_in}
use Rattle.px_meta.specs.declared.meta.MetaMethod.{MetaMethod}
use Rattle.px_link_methods.specs.Codes.{Numbering}
use Rattle.px_pe.specs.Image as pe
use Rattle.px_program.specs.Formed.{AreTypes}
use Rattle.px_program.specs.declared.program.Program.{Program}
use Rattle.px_program.specs.declared.program.TypeInfo.{TypeInfo}
use Rattle.px_link_reach.specs.Met.{IsOwned, IsReached}
use Rattle.px_link_reach.specs.declared.methods.Reached.{Reached}
use Rattle.px_sig.specs.declared.sig.MethodSig.{MethodSig}
use Rattle.px_tables.specs.Metadata.{View}
use Rattle.px_code.specs.declared.body.BodyFault.TheVariants as body_faults
use Rattle.px_link_reach.specs.declared.methods.ReachFault.{ReachFault}
use Rattle.px_link_reach.specs.declared.methods.ReachFault.TheVariants as reach_faults
use Rattle.px_link.specs.declared.fault.LinkFault.{LinkFault}
use Rattle.px_link.specs.declared.fault.LinkFault.TheVariants as faults
use Rattle.px_link.specs.Link.{IsEntry, Reads, maker_in, maker_of, rows_of, takes_nothing}
use Rattle.px_link.specs.Overrides.{AreLinkedTypes, pairs_of}
use Rattle.px_link.specs.declared.entry.Entry.{Entry}

-- the constructor that makes the object of a method, where it needs one
abbrev pub maker_for : View → MetaMethod → Option ℕ
maker_for v method = if method.sig.has_this then maker_in v method.owner else None

-- the name of constructors
abbrev pub is_constructor : MetaMethod → Bool
is_constructor method = bytes_eq method.name.now (codes ".ctor")

-- a constructor of a type that takes nothing, and has a body
abbrev pub makes : ℕ → MetaMethod → Bool
makes class method = (method.owner == class) && is_constructor method && not (method.rva == 0) && takes_nothing (Some method.sig)

-- the row of the method that is linked, and that of its maker
pub record IsEntryOf (v : View) (name : List ℕ) (entry : Entry) : Type 0 where
  pub sig : MethodSig
  pub is : IsEntry v name entry.method sig
  pub maker : entry.maker ≡ maker_of v entry.method sig

-- a type and all that its chain of bases has
pub record IsLine (v : View) (row : ℕ) (line : List ℕ) : Type 0 where
  pub behind : List ℕ
  pub chain : IsChain (base_in v) row behind
  pub is : line ≡ row ∷ behind

-- the methods that take the place of others in a type with this chain of bases; the types' numbers don't matter
abbrev pub pairs_by : View → List ℕ → List (List ℕ) → List ℕ → List ℕ → List (ℕ × ℕ)
pairs_by v rows = pairs_of v (record { keys = []; rows = rows })

-- the fault of a body that isn't read
abbrev pub fault_of : ReachFault → LinkFault
fault_of reach_faults.Memory = faults.Memory
fault_of (reach_faults.Bad kind at method) = faults.BadBody (body_faults.Bad kind at) method

-- what is reached from a method and its maker in some image
pub record IsReachedFrom (v : View) (lists : List (List ℕ)) (entry : Entry) (reached : Reached) : Type 0 where
  pub image : pe.View
  pub is : IsReached v image lists (entry.method ∷ rows_of entry.maker) reached

-- types with the methods that take the place of others in them; without these they are well formed
pub record HasTypes (v : View) (n : Numbering) (lists : List (List ℕ)) (targets : List ℕ) (types : List TypeInfo) : Type 0 where
  pub linked : AreLinkedTypes v n lists targets types
  pub formed : AreTypes linked.bare

-- a program that is linked, and what is known of its methods' rows
pub record IsLinked (v : View) (image : pe.View) (name : List ℕ) (program : Program) : Type 0 where
  pub reads : Reads v image name program
  pub formed : AreTypes reads.types.bare
  pub few : length reads.reached.rows < 2 ^ 32
  pub owned : AllByRecursion (IsOwned v) reads.reached.rows
