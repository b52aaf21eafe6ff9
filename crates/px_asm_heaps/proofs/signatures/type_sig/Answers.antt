use Rattle.std.proofs.Common.{rules}
use Rattle.px_asm_heaps.proofs.Whole.{type_written}
use Rattle.px_asm_heaps.proofs.signatures.type_sig.Goals as goal

pub returns : goal.returns
returns c = type_written c.push_type.new.out.items c.args.item.now (search rules) c.requires
