use Rattle.std.proofs.Common.{◌≡◌, ◌<◌, ◌^◌, length, take}
use Rattle.px_link_reach.specs.Met.{add_new}
use Rattle.px_link_reach.proofs.found.add_all.Given as goal

-- the first ones are added
abbrev pub invariant-loop-row : goal.invariant-loop-row
invariant-loop-row l = record { rows : l.rows.keys ≡ add_new l.fn.rows.keys (take l.row-index l.more); few : length l.rows.keys < 2 ^ 32 }
