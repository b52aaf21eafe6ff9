use Rattle.std.proofs.Common.{◌≡◌}
use Rattle.px_domain.proofs.Arguments.{IsListing}
use Rattle.px_domain.proofs.cursor.Cursor.elements.Given as goal

-- the same text is read, and the elements so far and the rest are the whole
abbrev pub invariant-loop : goal.invariant-loop
invariant-loop l = record {
  text : l.self.text.now ≡ l.fn.self.text.now;
  listing : IsListing l.range l.most l.counter l.gap l.fn.self.text.now l.fn.self.at l.self.at l.words;
}
