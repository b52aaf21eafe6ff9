use Rattle.std.proofs.Common.{◌≡◌, ◌-◌, ◌<◌}
use Rattle.px_sig.specs.Grammar.{many, number_at, numbers_at}
use Rattle.px_sig.specs.Parts.{behind}
use Rattle.px_sig.proofs.cursor.Cursor.numbers.Given as goal

-- the numbers that are left lead to the end of all
abbrev pub invariant-loop : goal.invariant-loop
invariant-loop l = record {
  blob : l.self.blob.now ≡ l.fn.self.blob.now;
  later : l.fn.self.at < l.self.at;
  rest : behind (many (number_at l.fn.self.blob.now) (l.count - l.counter) l.self.at) ≡ behind (numbers_at l.fn.self.blob.now l.fn.self.at);
}
