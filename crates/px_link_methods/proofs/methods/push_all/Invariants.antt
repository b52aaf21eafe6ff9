use Rattle.std.proofs.Common.{take, length}
use Rattle.std.specs.List.{zip}
use Rattle.px_link_methods.proofs.Likeness.{AreMade}
use Rattle.px_link_methods.proofs.methods.push_all.Given as goal

-- the methods so far
abbrev pub invariant-loop-row : goal.invariant-loop-row
invariant-loop-row l = AreMade l.tokens (record { keys = l.types.keys; rows = l.rows.keys }) (take (length l.yielded) (zip l.rows.keys l.bodies)) l.table l.firsts
