-- Reads that may fail: the first fault is the answer.
use Rattle.std.specs.Prelude.{ℕ, ◌+◌, nat_lt, List, length, take, drop, if◌then◌else◌, Result, Ok, Err}
use Rattle.byteorder.specs.Endian.{little_number}
use Rattle.px_reading.specs.Reading.{◌>>=◌}
use Rattle.px_tables.specs.declared.fault.TableFault.{TableFault}
use Rattle.px_tables.specs.declared.fault.TableKind.{TableKind}
use Rattle.px_tables.specs.declared.fault.TableKind.TheVariants.{Cut}

-- what is wrong, and at which byte of the metadata
abbrev pub fault : TableKind → ℕ → TableFault
fault kind at = record { kind = kind; at = at }

-- a part of the metadata, and where in it the part begins
pub record Part : Type 0 where
  pub start : ℕ
  pub bytes : List ℕ

-- so many bytes from a place on
abbrev pub slice_of : List ℕ → ℕ → ℕ → List ℕ
slice_of bytes at size = take size (drop at bytes)

-- A read of so many bytes at a place of a part. One that passes the part's end is cut at its own place.
unfoldable pub read_bytes : ℕ → Part → ℕ → Result (List ℕ) TableFault
read_bytes size part at = if nat_lt (length part.bytes) (at + size) then Err (fault Cut (part.start + at)) else Ok (slice_of part.bytes at size)

-- the number in such a read, its low byte first
unfoldable pub read_number : ℕ → Part → ℕ → Result ℕ TableFault
read_number size part at = read_bytes size part at >>= λ bytes. Ok (little_number size bytes)
