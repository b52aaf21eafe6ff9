-- What is written of a program: the rows and heaps of its metadata, and its bodies.
use Rattle.std.specs.Prelude.{◌≡◌, ℕ, List}
use Rattle.px_asm_image.specs.declared.content.Content.{Content}
use Rattle.px_program.specs.declared.program.Program.{Program}
use Rattle.px_asm_law_written.specs.Holds.{Holds}
use Rattle.px_asm_law_written.specs.Store.{Store}

pub record IsWritten (p : Program) (content : Content) (bodies : List ℕ) : Type 0 where
  pub store : Store
  pub strings : content.strings ≡ store.strings
  pub texts : content.user_strings ≡ store.texts
  pub blob : content.blob ≡ store.blob
  pub holds : Holds p store content.rows bodies
