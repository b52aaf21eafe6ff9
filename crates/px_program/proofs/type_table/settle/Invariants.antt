use Rattle.std.proofs.Common.{Some, length, suc}
use Rattle.px_program.specs.Lines.{base_of}
use Rattle.px_program.specs.Bases.{IsSettled}
use Rattle.px_program.proofs.Leaps.{LeadsTo}
use Rattle.px_program.proofs.Walks.{steps_left}
use Rattle.px_program.proofs.type_table.settle.Given as goal

-- the way leads from the type to where the walk has come
abbrev pub invariant-loop-base : goal.invariant-loop-base
invariant-loop-base l = LeadsTo l.types l.number l.way.items l.at

abbrev pub decreases-loop-base : goal.decreases-loop-base
decreases-loop-base l = steps_left (base_of l.types) (suc (length l.types)) (Some l.at)

-- it leads to a type whose step is known
abbrev pub invariant-loop-above : goal.invariant-loop-above
invariant-loop-above l = record {
  leads : LeadsTo l.types l.number l.way.items l.at;
  settled : IsSettled l.types l.fn.steps.items l.steps.items l.at;
}

abbrev pub decreases-loop-above : goal.decreases-loop-above
decreases-loop-above l = length l.way.items
