-- What is proved of what is written of a program.
use Rattle.std.specs.Prelude.{ℕ, List}
use Rattle.px_asm_image.specs.Image.{IsImageOf}
use Rattle.px_asm_image.specs.Layout.{Fits, IsMetadataOf}
use Rattle.px_asm_image.specs.declared.content.Content.{Content}
use Rattle.px_program.specs.declared.program.Program.{Program}
use Rattle.px_asm_described.specs.Describes.{Describes}
use Rattle.px_asm_described.specs.Writable.{IsWritable}
use Rattle.px_asm_law_written.specs.Written.{IsWritten}

-- an image with the metadata and the bodies that are written of a program describes it
abbrev pub WrittenDescribes : Type 0
WrittenDescribes = (p : Program) (content : Content) (bodies metadata file : List ℕ) → IsWritable p → IsWritten p content bodies → Fits content
    → (m : IsMetadataOf content metadata) → (i : IsImageOf metadata bodies file) → Describes p m.view i.view
