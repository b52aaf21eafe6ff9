use Rattle.std.proofs.Common.{◌≡◌, map, take}
use Rattle.px_link_methods.specs.Methods.{linked_clause}
use Rattle.px_link_methods.proofs.clauses.clauses_of.Given as goal

abbrev pub invariant-loop-raw : goal.invariant-loop-raw
invariant-loop-raw l = l.clauses.items ≡ map (linked_clause l.meta l.types.keys) (take l.raw-index l.raws)
