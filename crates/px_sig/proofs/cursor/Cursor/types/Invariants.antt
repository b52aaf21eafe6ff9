use Rattle.std.proofs.Common.{◌≡◌, ◌-◌}
use Rattle.px_sig.specs.Grammar.{many, type_at}
use Rattle.px_sig.proofs.Many.{with_front}
use Rattle.px_sig.proofs.cursor.Cursor.types.Given as goal

-- the types so far, and those that are left, are all
abbrev pub invariant-loop : goal.invariant-loop
invariant-loop l = record {
  blob : l.self.blob.now ≡ l.fn.self.blob.now;
  rest : many (type_at l.fn.self.blob.now) l.count l.fn.self.at ≡ with_front l.types.items (many (type_at l.fn.self.blob.now) (l.count - l.counter) l.self.at);
}
