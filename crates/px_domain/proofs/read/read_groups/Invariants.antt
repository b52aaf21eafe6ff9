use Rattle.std.proofs.Common.{◌≡◌, ◌≤◌}
use Rattle.px_domain.proofs.Groups.{IsReading}
use Rattle.px_domain.proofs.read.read_groups.Given as goal

-- the same text is read, and the groups so far and the rest are the whole
abbrev pub invariant-loop-given : goal.invariant-loop-given
invariant-loop-given l = record {
  text : l.cursor.text.now ≡ l.fn.cursor.text.now;
  few : l.words ≤ 256;
  reading : IsReading l.params l.fn.cursor.text.now l.fn.cursor.at l.given-index l.words l.cursor.at l.parts.items;
}
