use Rattle.std.proofs.Common.{◌≡◌, ◌+◌, drop}
use Rattle.px_link_methods.specs.Codes.{place_of}
use Rattle.px_link.proofs.linked.maker_number.Given as goal

-- it is none of those so far
abbrev pub invariant-loop-at : goal.invariant-loop-at
invariant-loop-at l = place_of l.rows l.maker ≡ l.at + place_of (drop l.at l.rows) l.maker
