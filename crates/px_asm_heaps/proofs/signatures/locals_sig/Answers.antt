use Rattle.std.proofs.Common.{rules}
use Rattle.px_asm_heaps.proofs.Whole.{locals_written}
use Rattle.px_asm_heaps.proofs.signatures.locals_sig.Goals as goal

pub returns : goal.returns
returns c = locals_written c.push_types.new.out.items c.args.locals.now (search rules) (search rules) c.requires
