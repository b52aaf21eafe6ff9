use Rattle.std.proofs.Common.{◌≡◌, drop}
use Rattle.px_link_types.specs.Names.{names, place_from}
use Rattle.px_link_types.proofs.library.library_number.Given as goal

-- the search goes on behind the names so far
abbrev pub invariant-loop-number : goal.invariant-loop-number
invariant-loop-number l = place_from l.number (drop l.number names) l.name ≡ place_from 0 names l.name
