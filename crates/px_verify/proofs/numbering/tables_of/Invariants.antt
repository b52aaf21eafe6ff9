use Rattle.px_verify.specs.Numbering.{AreTabled}
use Rattle.px_verify.proofs.numbering.tables_of.Given as goal

-- the first methods have their lists
abbrev pub invariant-loop-number : goal.invariant-loop-number
invariant-loop-number l = AreTabled l.program.methods l.number l.tables.items
