use Rattle.std.proofs.Common.{◌≡◌, ◌++◌}
use Rattle.std.specs.Prelude.{replicate}
use Rattle.px_domain.proofs.times.push_times.Given as goal

-- the item is pushed as often as the loop was run
abbrev pub invariant-loop : goal.invariant-loop
invariant-loop g l = l.items.items ≡ l.fn.items.items ++ replicate l.counter l.item
