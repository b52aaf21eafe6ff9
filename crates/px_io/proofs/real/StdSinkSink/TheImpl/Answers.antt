use Rattle.std.proofs.Common.{rules, arith}
use Rattle.px_io.proofs.real.StdSinkSink.TheImpl.Goals as goal

pub write-tells : goal.write-tells
write-tells g c = record {
  within = c.ensures.within;
  some = c.ensures.some;
  taken = search rules;
  failed = grind arith;
  unchanged = search rules;
  count = grind arith;
}
