use Rattle.std.proofs.Common.{◌≡◌, map, take}
use Rattle.px_link_types.specs.Numbers.{place_in}
use Rattle.px_link_methods.proofs.places.places_of_keys.Given as goal

abbrev pub invariant-loop-key : goal.invariant-loop-key
invariant-loop-key l = l.places ≡ map (place_in l.types.keys) (take l.key-index l.keys)
