use Rattle.std.proofs.Common.{length}
use Rattle.px_meta.specs.Rows.{IsRow, type_defs}
use Rattle.px_link.proofs.Naming.{AreAlike}
use Rattle.px_link.proofs.name.is_type_name.Given as goal

-- the text so far is the name of the type so far where the whole is that of the first
abbrev pub invariant-loop-front : goal.invariant-loop-front
invariant-loop-front l = record { row : IsRow l.meta type_defs l.row; alike : AreAlike l.meta l.initial.row l.initial.text l.row l.text }

abbrev pub decreases-loop-front : goal.decreases-loop-front
decreases-loop-front l = length l.text
