use Rattle.std.proofs.Common.{◌≡◌, ◌++◌, take}
use Rattle.std.specs.List.{flat_map, All}
use Rattle.px_asm_bodies.specs.Bytes.{clause_bytes}
use Rattle.px_asm_bodies.specs.Parts.{IsNarrow}
use Rattle.px_asm_bodies.proofs.clause.push_clauses.Given as goal

-- the clauses so far are written, and their numbers fit
abbrev pub invariant-loop-clause : goal.invariant-loop-clause
invariant-loop-clause l = record {
  pushed : l.out.items ≡ l.fn.out.items ++ flat_map clause_bytes (take l.clause-index l.clauses);
  narrow : All IsNarrow (take l.clause-index l.clauses);
}
