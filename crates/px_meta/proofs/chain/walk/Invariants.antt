use Rattle.std.specs.Prelude.{count_by, is_none}
use Rattle.px_meta.proofs.Walking.{IsWalking}
use Rattle.px_meta.proofs.chain.walk.Given as goal

abbrev pub invariant-loop-met : goal.invariant-loop-met
invariant-loop-met l = IsWalking l.nexts l.ends l.from l.at l.met

-- the types that haven't been met
abbrev pub decreases-loop-met : goal.decreases-loop-met
decreases-loop-met l = count_by is_none l.met
