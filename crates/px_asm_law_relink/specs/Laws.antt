-- What is proved of programs that were linked and run whole.
use Rattle.px_link.specs.Link.{Reads}
use Rattle.px_pe.specs.Image as pe
use Rattle.px_program.specs.declared.program.Program.{Program}
use Rattle.px_tables.specs.Metadata.{View}
use Rattle.px_asm_described.specs.Describes.{Describes}
use Rattle.px_asm_law_relink.specs.Linked.{IsLinked, RunsWhole, entry_name}
use Rattle.px_asm_described.specs.Writable.{IsWritable}

-- an assembly that describes a program is linked to it
abbrev pub DescribedIsLinked : Type 0
DescribedIsLinked = (p : Program) (v : View) (image : pe.View) → IsLinked p → RunsWhole p → Describes p v image → Reads v image (entry_name p) p

-- such a program can be written
abbrev pub LinkedIsWritable : Type 0
LinkedIsWritable = (p : Program) → IsLinked p → RunsWhole p → IsWritable p
