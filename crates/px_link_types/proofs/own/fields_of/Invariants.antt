use Rattle.px_link_types.proofs.Listed.{AreFound}
use Rattle.px_link_types.proofs.own.fields_of.Given as goal

abbrev pub invariant-loop-field : goal.invariant-loop-field
invariant-loop-field l = AreFound l.meta l.row l.is_static l.field l.rows.items
