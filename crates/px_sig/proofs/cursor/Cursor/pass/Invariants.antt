use Rattle.std.proofs.Common.{◌≡◌, ◌+◌, ◌-◌, ◌*◌, length, vec_len}
use Rattle.px_sig.specs.Parts.{behind_all, behind_owed}
use Rattle.px_sig.proofs.cursor.Cursor.pass.Given as goal

-- what is left on the pile leads to the end of all
abbrev pub invariant-loop-owes : goal.invariant-loop-owes
invariant-loop-owes l = record {
  blob : l.self.blob.now ≡ l.fn.self.blob.now;
  rest : behind_all l.fn.self.blob.now l.owed.items l.self.at ≡ behind_owed l.fn.self.blob.now l.fn.first l.fn.self.at;
}

-- a byte that is read puts fewer than four on the pile
abbrev pub decreases-loop-owes : goal.decreases-loop-owes
decreases-loop-owes l = 4 * (length l.self.blob.now - l.self.at) + vec_len l.owed
