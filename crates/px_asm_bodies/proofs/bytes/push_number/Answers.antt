use Rattle.std.proofs.Common.{◌∙◌, ◌++◌, ap, take}
use Rattle.px_asm_bodies.proofs.Little.{low_bytes_are}
use Rattle.px_asm_bodies.proofs.Pushed.{pushed}
use Rattle.px_asm_bodies.proofs.bytes.push_number.Goals as goal

pub returns : goal.returns
returns c =
    let low = ap (take c.args.size) c.to_le_bytes.ensures ∙ low_bytes_are c.args.size c.args.number c.requires in
    pushed c.extend_from_slice.result _ c.args.out.now.items _ _ c.extend_from_slice.ensures.items (ap (λ r. c.args.out.now.items ++ r) low)
