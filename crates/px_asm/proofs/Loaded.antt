-- A program that was linked from a file that was read.
use Rattle.std.proofs.Common.{◌≡◌, ℕ, ◌<◌, List, Result, Ok, Err, take, drop, subst}
use Rattle.std.specs.Prelude.{All, IfOk}
use Rattle.px_link.specs.Link.{Reads}
use Rattle.px_meta.specs.Faults.{IsFaultless}
use Rattle.px_pe.specs.Image as pe
use Rattle.px_program.specs.Formed.{IsWellFormed}
use Rattle.px_program.specs.declared.program.Program.{Program}
use Rattle.px_asm_law_relink.proofs.WritingInstrs.{image_bytes}
use Rattle.px_asm_law_relink.specs.Linked.{IsLinked}
use Rattle.px_tables.specs.Metadata.{IsSound, View, metadata_of}
use Rattle.px_asm.specs.Linking.{metadata_in}

pub loaded : {E : Type 0} (r : Result Program E) (file name : List ℕ) (image : pe.View) (v : View) → All (λ byte. byte < 256) file → pe.image_of file ≡ Ok image → metadata_of (metadata_in image) ≡ Ok v
    → IsSound v → IsFaultless v → IfOk r (Reads v image name) → IfOk r IsWellFormed → IfOk r IsLinked
loaded (Ok p) file name image v bytes is_image is_metadata sound faultless reads formed = record {
  file = file;
  bytes = bytes;
  name = name;
  assembly = record {
    image = image;
    is_image = is_image;
    v = v;
    is_metadata = subst (λ (all : List ℕ). metadata_of (take image.metadata.len (drop image.metadata.start all)) ≡ Ok v) (image_bytes file image is_image) is_metadata;
    resolved = faultless;
    reads = reads;
  };
  sound = sound;
  formed = formed;
}
loaded (Err fault) file name image v bytes is_image is_metadata sound faultless reads formed = tt
