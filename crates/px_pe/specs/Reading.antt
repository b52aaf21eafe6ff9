-- A reading of bytes that may fail: its first fault is its answer.
use Rattle.std.specs.Prelude.{ℕ, ◌+◌, nat_lt, List, length, take, drop, if◌then◌else◌, Result, Ok, Err}
use Rattle.byteorder.specs.Endian.{little_number}
use Rattle.px_reading.specs.Reading.{◌>>=◌}
use Rattle.px_pe.specs.declared.fault.PeKind.{PeKind}
use Rattle.px_pe.specs.declared.fault.PeKind.TheVariants.{Cut}
use Rattle.px_pe.specs.declared.fault.PeFault.{PeFault}

-- what is wrong, and at which byte
abbrev pub fault : PeKind → ℕ → PeFault
fault kind at = record { kind = kind; at = at }

-- a read of so many bytes; one that passes the file's end is cut at its place
unfoldable pub read_bytes : ℕ → List ℕ → ℕ → Result (List ℕ) PeFault
read_bytes size file at = if nat_lt (length file) (at + size) then Err (fault Cut at) else Ok (take size (drop at file))

-- the number in a read of so many bytes, the low byte first
unfoldable pub read_number : ℕ → List ℕ → ℕ → Result ℕ PeFault
read_number size file at = read_bytes size file at >>= λ bytes. Ok (little_number size bytes)
