use Rattle.std.proofs.Common.{◌≡◌, take}
use Rattle.std.specs.List.{AllZip}
use Rattle.px_asm_described.specs.Describes.{raw_clause}
use Rattle.px_asm_tokens.proofs.bodies.clauses_of.Given as goal

abbrev pub invariant-loop-clause : goal.invariant-loop-clause
invariant-loop-clause l = AllZip (λ clause raw. raw ≡ raw_clause l.rows clause) (take l.clause-index l.clauses) l.raws
