use Rattle.std.proofs.Common.{◌≡◌, drop}
use Rattle.px_link_tokens.specs.Named.{integer_from, integer_names}
use Rattle.px_link_tokens.proofs.integers.integer_named.Given as goal

-- the search goes on behind the names so far
abbrev pub invariant-loop-number : goal.invariant-loop-number
invariant-loop-number l = integer_from (drop l.number integer_names) l.name ≡ integer_from integer_names l.name
