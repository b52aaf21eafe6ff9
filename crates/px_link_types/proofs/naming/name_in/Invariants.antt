use Rattle.std.proofs.Common.{◌≡◌, drop}
use Rattle.px_link_types.proofs.Nesting.{names_before}
use Rattle.px_link_types.proofs.naming.name_in.Given as goal

abbrev pub invariant-loop-n : goal.invariant-loop-n
invariant-loop-n l = l.name.items ≡ names_before l.tables (drop l.n l.outers)
