use Rattle.std.proofs.Common.{◌≡◌, take, drop}
use Rattle.px_program.specs.Paths.{path_eq}
use Rattle.px_program.proofs.same.is_same_path.Given as goal

-- the same so far
abbrev pub invariant-loop-k : goal.invariant-loop-k
invariant-loop-k l = record { front : take l.k l.a ≡ take l.k l.b; rest : path_eq (drop l.k l.a) (drop l.k l.b) ≡ path_eq l.a l.b }
