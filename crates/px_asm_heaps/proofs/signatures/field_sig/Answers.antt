use Rattle.std.proofs.Common.{rules}
use Rattle.px_asm_heaps.proofs.Whole.{field_written}
use Rattle.px_asm_heaps.proofs.signatures.field_sig.Goals as goal

pub returns : goal.returns
returns c = field_written c.push_type.new.out.items c.args.item.now (search rules) c.requires
