use Rattle.std.proofs.Common.{map, take}
use Rattle.px_link_types.specs.Keys.{place_key}
use Rattle.px_link_methods.specs.Parts.{IsAdded}
use Rattle.px_link_methods.proofs.met.push_places.Given as goal

abbrev pub invariant-loop-item : goal.invariant-loop-item
invariant-loop-item l = IsAdded l.meta l.fn.keys.items (map (place_key l.meta) (take l.item-index l.items)) l.keys.items
