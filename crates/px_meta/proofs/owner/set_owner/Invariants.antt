use Rattle.std.proofs.Common.{◌≡◌, ◌⊎◌, ℕ, ◌-◌, ◌<◌, ◌≤◌, get_or, length}
use Rattle.px_meta.proofs.owner.set_owner.Given as goal

-- the rows of the list so far are set, and all others are as they were
abbrev pub invariant-loop-row : goal.invariant-loop-row
invariant-loop-row l = record {
  listed : (r : ℕ) → 1 ≤ r → r ≤ length l.owners → l.start ≤ r → r < l.row → get_or l.owners (r - 1) 0 ≡ l.owner;
  others : (r : ℕ) → 1 ≤ r → r ≤ length l.owners → (r < l.start) ⊎ (l.row ≤ r) → get_or l.owners (r - 1) 0 ≡ get_or l.initial.owners (r - 1) 0;
}
