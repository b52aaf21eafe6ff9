use Rattle.std.proofs.Common.{◌≡◌, rules}
use Rattle.px_asm_heaps.proofs.Whole.{kind_of, method_written}
use Rattle.px_asm_heaps.proofs.signatures.method_sig.Goals as goal
use Rattle.px_asm_heaps.proofs.signatures.method_sig.Goals.{then-sig, else-sig}

pub returns : goal.returns
returns c =
    let sig = c.args.sig.now in
    let kind : c.if-sig.kind ≡ kind_of sig.has_this = elim c.if-sig.branch [ then-sig w ↦ search rules | else-sig w ↦ search rules ] in
    method_written c.push_types.new.out.items sig c.if-sig.kind kind (search rules) (search rules) c.requires
