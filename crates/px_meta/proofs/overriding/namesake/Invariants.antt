use Rattle.std.proofs.Common.{ℕ, ◌<◌}
use Rattle.px_meta.specs.Members.{IsMethod}
use Rattle.px_meta.specs.Overriding.{IsNamesake}
use Rattle.px_meta.proofs.overriding.namesake.Given as goal

-- no row so far is a namesake
abbrev pub invariant-loop-row : goal.invariant-loop-row
invariant-loop-row l = record {
  none : (o : ℕ) → o < l.row → IsNamesake l.tables l.method l.base o → ⊥;
  own : IsMethod l.tables l.method l.own;
}
