use Rattle.std.proofs.Common.{ℕ, ◌≤◌}
use Rattle.px_meta.specs.Chains.{HasEnd, base_in}
use Rattle.px_meta.specs.Known.{IsKnown}
use Rattle.px_meta.specs.Members.{IsType}
use Rattle.px_meta.specs.Parts.{IsSound}
use Rattle.px_meta.specs.Rows.{type_defs}
use Rattle.px_meta.proofs.Rows.{AreFirst}
use Rattle.px_meta.proofs.types.read_types.Given as goal

abbrev pub invariant-loop-n : goal.invariant-loop-n
invariant-loop-n l = record {
  read : AreFirst IsType l.tables l.n l.types.items;
  ends : (row : ℕ) → 1 ≤ row → row ≤ l.n → HasEnd (base_in l.tables) row;
  known : IsKnown l.tables l.known;
  sound : (row : ℕ) → row ≤ l.n → IsSound l.tables type_defs row;
}
