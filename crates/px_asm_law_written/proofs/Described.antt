-- What is written of a program describes it.
use Rattle.std.proofs.Common.{ℕ, List}
use Rattle.px_asm_law_written.proofs.DescribedFaults.{faultless}
use Rattle.px_asm_law_written.proofs.DescribedImpls.{impls_described}
use Rattle.px_asm_law_written.proofs.DescribedLibrary.{library_named}
use Rattle.px_asm_law_written.proofs.DescribedMembers.{methods_written, types_written}
use Rattle.px_asm_law_written.proofs.DescribedMethods.{method_described, slot_described}
use Rattle.px_asm_law_written.proofs.DescribedTypes.{type_described}
use Rattle.px_asm_law_written.proofs.DescribedView.{Put, few_written, image, view}
use Rattle.px_asm_image.specs.Image.{IsImageOf}
use Rattle.px_asm_image.specs.Layout.{Fits, IsMetadataOf}
use Rattle.px_asm_image.specs.declared.content.Content.{Content}
use Rattle.px_program.specs.declared.program.Program.{Program}
use Rattle.px_asm_described.specs.Describes.{Describes}
use Rattle.px_asm_described.specs.Writable.{IsWritable}
use Rattle.px_asm_law_written.specs.Written.{IsWritten}

all_described : (a : Put) → Describes a.p (view a) (image a)
all_described a = record {
  faultless = faultless a;
  library = library_named a;
  types_count = types_written a;
  few_types = few_written a 0x02;
  types = type_described a;
  methods_count = methods_written a;
  methods = method_described a;
  slots = slot_described a;
  impls = impls_described a;
}

pub described : (p : Program) (content : Content) (bodies metadata file : List ℕ) → IsWritable p → IsWritten p content bodies → Fits content
    → (m : IsMetadataOf content metadata) → (i : IsImageOf metadata bodies file) → Describes p m.view i.view
described p content bodies metadata file writable written fits m i =
    all_described (record { p = p; content = content; bodies = bodies; metadata = metadata; file = file; writable = writable; written = written; fits = fits; m = m; i = i })
