-- What is written of a program is an assembly from which it is linked again.
use Rattle.std.proofs.Common.{◌≡◌, ℕ, List, Result, Ok, Err, sym, subst}
use Rattle.std.specs.Prelude.{IfOk, Vec}
use Rattle.std.specs.declared.alloc.Global.{Global}
use Rattle.px_asm_image.specs.Image.{IsImageOf}
use Rattle.px_asm_image.specs.Layout.{Fits, IsMetadataOf}
use Rattle.px_asm_image.specs.declared.content.Content.{Content}
use Rattle.px_program.specs.declared.program.Program.{Program}
use Rattle.px_asm_law_relink.proofs.LinksAgain.{described_is_linked}
use Rattle.px_asm_law_relink.proofs.Writing.{linked_is_writable}
use Rattle.px_asm_law_relink.specs.Linked.{IsAssemblyOf, IsLinked, RunsWhole, entry_name}
use Rattle.px_tables.specs.Metadata.{metadata_of}
use Rattle.px_asm_law_written.proofs.Described.{described}
use Rattle.px_asm_law_written.specs.Written.{IsWritten}

pub assembled : (p : Program) (content : Content) (bodies metadata file : List ℕ) → IsLinked p → RunsWhole p → IsWritten p content bodies → Fits content
    → IsMetadataOf content metadata → IsImageOf metadata bodies file → IsAssemblyOf p (entry_name p) file
assembled p content bodies metadata file linked runs written fits m i =
    let describes = described p content bodies metadata file (linked_is_writable p linked runs) written fits m i in
    record {
      image = i.view;
      is_image = i.read;
      v = m.view;
      is_metadata = subst (λ (bytes : List ℕ). metadata_of bytes ≡ Ok m.view) (sym i.metadata_is) m.read;
      resolved = describes.faultless;
      reads = described_is_linked p m.view i.view linked runs describes;
    }

-- the same of what was lent of the metadata and of the bodies
pub assembled_of : {E : Type 0} (p : Program) (content : Content) (r : Result (Vec ℕ Global) E) (bodies metadata lent_bodies lent : List ℕ) → lent ≡ metadata → lent_bodies ≡ bodies → IsLinked p → RunsWhole p
    → IsWritten p content bodies → Fits content → IsMetadataOf content metadata → IfOk r (λ file. IsImageOf lent lent_bodies file.items) → IfOk r (λ file. IsAssemblyOf p (entry_name p) file.items)
assembled_of p content (Ok file) bodies metadata lent_bodies lent is bodies_is linked runs written fits m i =
    assembled p content bodies metadata file.items linked runs written fits m
    (subst (λ (bytes : List ℕ). IsImageOf bytes bodies file.items) is (subst (λ (bytes : List ℕ). IsImageOf lent bytes file.items) bodies_is i))
assembled_of p content (Err fault) bodies metadata lent_bodies lent is bodies_is linked runs written fits m i = tt
