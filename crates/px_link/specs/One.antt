-- What is read of a file by a name is one program, or one that isn't linked.
use Rattle.std.specs.Prelude.{◌≡◌, ℕ, List}
use Rattle.px_pe.specs.Image as pe
use Rattle.px_program.specs.declared.program.Program.{Program}
use Rattle.px_tables.specs.Metadata.{View}
use Rattle.px_link.specs.declared.fault.LinkFault.{LinkFault}
use Rattle.px_link.specs.declared.fault.LinkFault.TheVariants.{Memory}
use Rattle.px_link.specs.Link.{Blames, Reads}

-- a method by its name in a file stands for one program
abbrev pub ReadsOne : Type 0
ReadsOne = (v : View) (image : pe.View) (name : List ℕ) (one other : Program) → Reads v image name one → Reads v image name other → one ≡ other

-- a method that stands for a program is refused for want of memory alone
abbrev pub ReadsOrBlames : Type 0
ReadsOrBlames = (v : View) (image : pe.View) (name : List ℕ) (program : Program) (fault : LinkFault) → Reads v image name program → Blames v image name fault → fault ≡ Memory
