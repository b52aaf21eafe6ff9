use Rattle.std.proofs.Common.{ℕ, ◌≤◌}
use Rattle.px_meta.specs.Known.{IsKnown}
use Rattle.px_meta.specs.Parts.{IsSound}
use Rattle.px_meta.specs.Rows.{type_refs}
use Rattle.px_meta.proofs.types.check_type_refs.Given as goal

abbrev pub invariant-loop-n : goal.invariant-loop-n
invariant-loop-n l = record {
  sound : (row : ℕ) → row ≤ l.n → IsSound l.tables type_refs row;
  known : IsKnown l.tables l.known;
}
