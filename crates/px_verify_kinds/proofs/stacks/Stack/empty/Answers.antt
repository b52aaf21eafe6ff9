use Rattle.px_verify_kinds.proofs.Cells.{held_zero}
use Rattle.px_verify_kinds.proofs.stacks.Stack.empty.Goals as goal

pub returns-clause-kinds : goal.returns-clause-kinds
returns-clause-kinds c = λ cells. held_zero cells
