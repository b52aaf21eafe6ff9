use Rattle.std.proofs.Common.{ap, length, sym}
use Rattle.px_verify_kinds.proofs.Cells.{nothing_held, stack_top}
use Rattle.px_verify_kinds.proofs.stacks.Stacks.height.Goals as goal

pub returns-then-stack-eq0 : goal.returns-then-stack-eq0
returns-then-stack-eq0 c = sym (ap length (nothing_held c.args.self.now c.args.stack.top c.if-stack-eq0.true))

pub returns : goal.returns
returns c = (stack_top c.self.inside.cells.items c.args.self.now c.args.stack.top c.index.result.now c.self.view_is c.self.invariant c.requires c.if-stack-eq0.false c.index.ensures).height
