use Rattle.std.proofs.Common.{◌-◌, ◌≤◌, vec_len}
use Rattle.std.specs.Io.KnownBytes.{Consumes}
use Rattle.px_io.proofs.real.read_all.Given as goal

-- The bytes so far are those that the reader gave.
abbrev pub invariant-loop-bytes : goal.invariant-loop-bytes
invariant-loop-bytes g l =
    let remaining = g.F.Read.remaining in
    record {
      within : vec_len l.bytes ≤ l.limit;
      taken : Consumes (remaining l.fn.reader) (remaining l.reader) l.bytes.items;
    }

abbrev pub decreases-loop-bytes : goal.decreases-loop-bytes
decreases-loop-bytes g l = l.limit - vec_len l.bytes
