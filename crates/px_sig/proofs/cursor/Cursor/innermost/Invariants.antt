use Rattle.std.proofs.Common.{◌≡◌, ◌-◌, ◌≤◌, length}
use Rattle.px_sig.specs.Grammar.{type_at}
use Rattle.px_sig.specs.Parts.{within}
use Rattle.px_sig.proofs.cursor.Cursor.innermost.Given as goal

-- the type that is left, in so many arrays, is the type that is read
abbrev pub invariant-loop-self : goal.invariant-loop-self
invariant-loop-self l = record {
  blob : l.self.blob.now ≡ l.fn.self.blob.now;
  few : l.arrays ≤ l.self.at;
  rest : type_at l.fn.self.blob.now l.fn.self.at ≡ within l.arrays (type_at l.fn.self.blob.now l.self.at);
}

-- the rest of the blob grows shorter
abbrev pub decreases-loop-self : goal.decreases-loop-self
decreases-loop-self l = length l.self.blob.now - l.self.at
