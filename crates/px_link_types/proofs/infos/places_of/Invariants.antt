use Rattle.std.proofs.Common.{◌≡◌, map, take}
use Rattle.px_link_types.specs.Numbers.{field_key, place_in}
use Rattle.px_link_types.proofs.infos.places_of.Given as goal

abbrev pub invariant-loop-row : goal.invariant-loop-row
invariant-loop-row l = l.places ≡ map (λ f. place_in l.types.keys (field_key l.types.tables f)) (take l.row-index l.rows)
