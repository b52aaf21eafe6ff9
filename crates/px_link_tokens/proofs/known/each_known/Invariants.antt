use Rattle.std.proofs.Common.{◌≡◌, drop}
use Rattle.std.specs.List.{AllByRecursion}
use Rattle.px_link_types.specs.Keys.{IsKey}
use Rattle.px_link_tokens.specs.Operands.{each_known}
use Rattle.px_link_tokens.proofs.Keys.{behind}
use Rattle.px_link_tokens.proofs.known.each_known.Given as goal

-- the keys of all are those so far, and then those of the rest
abbrev pub invariant-loop-item : goal.invariant-loop-item
invariant-loop-item l = record {
  whole : each_known l.meta l.types ≡ behind l.keys.items (each_known l.meta (drop l.item-index l.types));
  there : AllByRecursion (IsKey l.meta) l.keys.items;
}
