use Rattle.std.proofs.Common.{◌≡◌, ◌+◌, ◌-◌, arith}
use Rattle.px_words.proofs.Ones.{ones-shr}
use Rattle.px_words.proofs.width.ones.Goals as goal

pub returns : goal.returns
returns c = let whole : c.args.bits + (64 - c.args.bits) ≡ 64 = omega arith in rw whole at (ones-shr c.args.bits (64 - c.args.bits))
