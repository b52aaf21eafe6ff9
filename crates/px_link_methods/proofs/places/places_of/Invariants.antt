use Rattle.std.proofs.Common.{◌≡◌, map, take}
use Rattle.px_link_methods.specs.Methods.{place_of_type}
use Rattle.px_link_methods.proofs.places.places_of.Given as goal

abbrev pub invariant-loop-item : goal.invariant-loop-item
invariant-loop-item l = l.places.items ≡ map (place_of_type l.meta l.types.keys) (take l.item-index l.items)
