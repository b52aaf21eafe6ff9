use Rattle.std.proofs.Common.{◌≡◌}
use Rattle.px_domain.proofs.Arguments.{IsReading}
use Rattle.px_domain.proofs.args.read_each.Given as goal

-- the same text is read, and the groups so far and the rest are the whole
abbrev pub invariant-loop-part : goal.invariant-loop-part
invariant-loop-part l = record {
  text : l.cursor.text.now ≡ l.fn.cursor.text.now;
  reading : IsReading l.parts l.fn.cursor.text.now l.fn.cursor.at l.part-index l.cursor.at l.words;
}
