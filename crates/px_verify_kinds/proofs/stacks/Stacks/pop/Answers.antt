use Rattle.px_verify_kinds.proofs.Cells.{nothing_held, stack_top}
use Rattle.px_verify_kinds.proofs.stacks.Stacks.pop.Goals as goal

pub returns-then-stack-eq0-clause-kinds : goal.returns-then-stack-eq0-clause-kinds
returns-then-stack-eq0-clause-kinds c = nothing_held c.args.self.now c.args.stack.top c.if-stack-eq0.true

pub returns-clause-kinds : goal.returns-clause-kinds
returns-clause-kinds c = (stack_top c.self.inside.cells.items c.args.self.now c.args.stack.top c.index-cell.result.now c.self.view_is c.self.invariant c.requires c.if-stack-eq0.false c.index-cell.ensures).kinds

pub returns-clause-there : goal.returns-clause-there
returns-clause-there c = (stack_top c.self.inside.cells.items c.args.self.now c.args.stack.top c.index-cell.result.now c.self.view_is c.self.invariant c.requires c.if-stack-eq0.false c.index-cell.ensures).within
