-- The metadata's root and its streams (Partition II, 24.2.1 and 24.2.2). Places count from the metadata's start.
use Rattle.std.specs.Prelude.{ℕ, zero, suc, ◌+◌, ◌*◌, ◌/◌, ◌==◌, not, nat_lt, if◌then◌else◌, List, [], ◌∷◌, codes, length, drop, Option, Some, None, option_map, Result, Ok, Err, find}
use Rattle.std.specs.List.{before_first}
use Rattle.std.specs.Str.{bytes_eq}
use Rattle.px_tables.specs.declared.fault.TableFault.{TableFault}
use Rattle.px_tables.specs.declared.fault.TableKind.TheVariants.{BadRoot, Cut, NoStream}
use Rattle.px_tables.specs.declared.streams.Found.{Found}
use Rattle.px_tables.specs.declared.streams.Root.{Root}
use Rattle.px_tables.specs.declared.streams.Streams.{Streams}
use Rattle.px_tables.specs.Reading.{Part, fault, read_bytes, read_number, slice_of}
use Rattle.px_reading.specs.Reading.{◌>>=◌}

-- all of the metadata as a part of itself
abbrev pub whole : List ℕ → Part
whole metadata = record { start = 0; bytes = metadata }

-- a size rounded up to a multiple of 4
abbrev pub padded : ℕ → ℕ
padded size = 4 * ((size + 3) / 4)

-- The root: its signature, the size of the version's text, that text, flags, and how many streams there are. What is read is where the first
-- stream's header stands, and how many there are.
unfoldable pub root_of : List ℕ → Result Root TableFault
root_of metadata =
    read_number 4 (whole metadata) 0 >>= λ signature. if not (signature == 0x424A5342) then Err (fault BadRoot 0)
    else (read_number 4 (whole metadata) 12 >>= λ size. read_bytes (padded size) (whole metadata) 16 >>= λ version.
    let at = 16 + padded size in
    read_number 2 (whole metadata) at >>= λ flags. read_number 2 (whole metadata) (at + 2) >>= λ count. Ok (record { first = at + 4; count = count }))

-- a stream: its name, and the part of the metadata that it is
pub record Stream : Type 0 where
  pub name : List ℕ
  pub part : Part

-- a name up to its zero; it is padded to a multiple of 4 bytes, and one read
unfoldable pub name_at : List ℕ → ℕ → Result (List ℕ) TableFault
name_at metadata at =
    let name = before_first (λ byte. byte == 0) (drop at metadata) in
    read_bytes (padded (length name + 1)) (whole metadata) at >>= λ bytes. Ok name

-- the stream whose header stands at a place; one that passes the metadata's end is cut at its header
unfoldable pub stream_at : List ℕ → ℕ → Result Stream TableFault
stream_at metadata at =
    read_number 4 (whole metadata) at >>= λ offset. read_number 4 (whole metadata) (at + 4) >>= λ size. name_at metadata (at + 8) >>= λ name.
    if nat_lt (length metadata) (offset + size) then Err (fault Cut at)
    else Ok (record { name = name; part = record { start = offset; bytes = slice_of metadata offset size } })

-- where the header behind that of a stream stands
abbrev pub behind : ℕ → Stream → ℕ
behind at stream = at + 8 + padded (length stream.name + 1)

-- the streams of so many headers, one behind the other
unfoldable pub streams_at : ℕ → List ℕ → ℕ → Result (List Stream) TableFault
streams_at zero metadata at = Ok []
streams_at (suc n) metadata at = stream_at metadata at >>= λ stream. streams_at n metadata (behind at stream) >>= λ rest. Ok (stream ∷ rest)

-- the first stream of a name
abbrev pub named : List Stream → List ℕ → Option Part
named streams name = option_map (λ stream. stream.part) (find (λ stream. bytes_eq stream.name name) streams)

unfoldable pub found_of : List Stream → Found
found_of streams =
    record {
      tables = named streams (codes "#~");
      strings = named streams (codes "#Strings");
      user_strings = named streams (codes "#US");
      guid = named streams (codes "#GUID");
      blob = named streams (codes "#Blob");
    }

-- a stream of a name that was found earlier, else this one where it has the name
abbrev pub or_earlier : Option Part → Stream → List ℕ → Option Part
or_earlier None stream name = if bytes_eq stream.name name then Some stream.part else None
or_earlier (Some part) stream name = Some part

-- one more stream
unfoldable pub with_stream : Found → Stream → Found
with_stream found stream =
    record {
      tables = or_earlier found.tables stream (codes "#~");
      strings = or_earlier found.strings stream (codes "#Strings");
      user_strings = or_earlier found.user_strings stream (codes "#US");
      guid = or_earlier found.guid stream (codes "#GUID");
      blob = or_earlier found.blob stream (codes "#Blob");
    }

-- the first stream of each name that is read
unfoldable pub found_in : List ℕ → Root → Result Found TableFault
found_in metadata root = streams_at root.count metadata root.first >>= λ streams. Ok (found_of streams)

-- a stream that must be there
abbrev pub needed : Option Part → ℕ → Result Part TableFault
needed None first = Err (fault NoStream first)
needed (Some part) first = Ok part

-- one that may be missing, and is then empty
abbrev pub or_empty : Option Part → Part
or_empty None = record { start = 0; bytes = [] }
or_empty (Some part) = part

-- the streams, of which three must be there; else the fault is at the first header
unfoldable pub streams_of : Found → ℕ → Result Streams TableFault
streams_of found first =
    needed found.tables first >>= λ tables. needed found.strings first >>= λ strings. needed found.blob first >>= λ blob.
    Ok (record { tables = tables; strings = strings; user_strings = or_empty found.user_strings; guid = or_empty found.guid; blob = blob })
