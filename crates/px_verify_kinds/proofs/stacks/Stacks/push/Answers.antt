use Rattle.std.proofs.Common.{arith}
use Rattle.px_verify_kinds.proofs.Cells.{height_short}
use Rattle.px_verify_kinds.proofs.stacks.Stacks.push.Goals as goal

pub overflow_add-height : goal.overflow_add-height
overflow_add-height c = omega (arith, c.if-count.false, c.len-count.ensures, c.self.inside.cells.ok, c.height-height.ensures, height_short c.self.inside.cells.items c.args.self.now c.self.view_is c.self.invariant c.args.below.top)
