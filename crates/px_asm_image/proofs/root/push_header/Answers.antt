use Rattle.px_asm_image.proofs.Pushed.{header_pushed, pushed}
use Rattle.px_asm_image.proofs.root.push_header.Goals as goal

pub returns : goal.returns
returns c =
    let name = c.args.name.now in
    pushed c.extend_from_slice.result _ c.push_number-2.new.out.items name _ c.extend_from_slice.ensures.items
    (header_pushed c.args.offset c.args.size name c.args.out.now.items _ _ c.in_ok-push_number.ensures c.in_ok-push_number-2.ensures)
