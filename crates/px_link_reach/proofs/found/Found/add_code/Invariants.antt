use Rattle.std.proofs.Common.{◌≡◌, take}
use Rattle.std.specs.List.{flat_map}
use Rattle.px_link_reach.specs.Finding.{AreKept}
use Rattle.px_link_reach.specs.Met.{add_new, calls_of, virtual_target_of}
use Rattle.px_link_reach.proofs.found.Found.add_code.Given as goal

-- what the first instructions call is added
abbrev pub invariant-loop-raw : goal.invariant-loop-raw
invariant-loop-raw l = record {
  rows : l.self.rows.keys ≡ add_new l.fn.self.rows.keys (flat_map (calls_of l.tokens l.overriding.lists) (take l.raw-index l.code));
  targets : l.self.virtual_targets.keys ≡ add_new l.fn.self.virtual_targets.keys (flat_map (virtual_target_of l.tokens) (take l.raw-index l.code));
  kept : AreKept l.tokens l.overriding.lists l.self.rows.keys l.self.virtual_targets.keys;
}
