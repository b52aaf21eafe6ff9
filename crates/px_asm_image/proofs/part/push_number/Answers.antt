use Rattle.std.proofs.Common.{◌∙◌, ◌++◌, ap, take}
use Rattle.byteorder.proofs.Bytes.{take-bytes_low_first}
use Rattle.px_asm_image.proofs.Pushed.{pushed}
use Rattle.px_asm_image.proofs.part.push_number.Goals as goal

pub returns : goal.returns
returns c =
    let low = ap (take c.args.size) c.to_le_bytes.ensures ∙ take-bytes_low_first 0 4 c.args.size c.args.number c.requires in
    pushed c.extend_from_slice.result _ c.args.out.now.items _ _ c.extend_from_slice.ensures.items (ap (λ r. c.args.out.now.items ++ r) low)
