-- What is read of the root and of the streams as they are written.
use Rattle.std.proofs.Common.{◌≡◌, ◌≤◌, ◌<◌, ◌+◌, ◌-◌, ◌^◌, ◌==◌, ℕ, List, [], ◌∷◌, ◌++◌, length, take, drop, replicate, Ok, refl, sym, ◌∙◌, ap, arith, append_assoc, append-nil, length-append}
use Rattle.std.specs.List.{before_first}
use Rattle.std.proofs.lemmas.Bool.{le-ltb}
use Rattle.std.proofs.lemmas.List.{length-replicate}
use Rattle.std.proofs.Math.Seq.{take-append_seam}
use Rattle.byteorder.specs.Endian.{little_bytes}
use Rattle.px_tables.specs.declared.streams.Streams.{Streams}
use Rattle.px_tables.specs.Reading.{Part, read_bytes, slice_of}
use Rattle.px_tables.specs.Streams.{Stream, found_in, found_of, name_at, padded, root_of, stream_at, streams_at, streams_of, whole}
use Rattle.px_asm_image.specs.Metadata.{blob_name, padded_bytes, root_bytes, stream_header, stream_headers, streams_bytes, streams_start, strings_name, tables_name, user_strings_name}
use Rattle.px_asm_image.proofs.Placed.{behind_is, ends_inside, read_is, read_written}

pub bytes_read : (size : ℕ) (part : Part) (at : ℕ) → at + size ≤ length part.bytes → read_bytes size part at ≡ Ok (slice_of part.bytes at size)
unfolding read_bytes
bytes_read size part at inside = rw (le-ltb (length part.bytes) (at + size) inside) refl

pub root_read : (rest : List ℕ) → root_of (root_bytes ++ rest) ≡ Ok (record { first = 32; count = 4 })
unfolding root_of
root_read rest =
    let metadata = root_bytes ++ rest in
    let long : 32 ≤ length metadata = omega (arith, length-append root_bytes rest) in
    let signature = read_is 4 (whole metadata) 0 0x424A5342 (omega arith) refl in
    let size = read_is 4 (whole metadata) 12 12 (omega arith) refl in
    let version = bytes_read 12 (whole metadata) 16 (omega arith) in
    let flags = read_is 2 (whole metadata) 28 0 (omega arith) refl in
    let count = read_is 2 (whole metadata) 30 4 (omega arith) refl in
    rw (signature, size, version, flags, count) refl

-- a stream by its header
pub stream_read : (metadata : List ℕ) (at offset size : ℕ) (name text rest : List ℕ) → drop at metadata ≡ stream_header offset size text ++ rest → at ≤ length metadata
    → offset < 256 ^ 4 → size < 256 ^ 4 → before_first (λ byte. byte == 0) (text ++ rest) ≡ name → padded (length name + 1) ≡ length text → offset + size ≤ length metadata
    → stream_at metadata at ≡ Ok (record { name = name; part = record { start = offset; bytes = slice_of metadata offset size } })
unfolding stream_at name_at stream_header
stream_read metadata at offset size name text rest there inside near small name_is len within =
    let second : drop at metadata ≡ little_bytes 4 offset ++ (little_bytes 4 size ++ (text ++ rest)) =
    there ∙ append_assoc (little_bytes 4 offset) (little_bytes 4 size ++ text) rest ∙ ap (λ (r : List ℕ). little_bytes 4 offset ++ r) (append_assoc (little_bytes 4 size) text rest) in
    let third : drop (at + 4) metadata ≡ little_bytes 4 size ++ (text ++ rest) = behind_is at 4 metadata (little_bytes 4 offset) (little_bytes 4 size ++ (text ++ rest)) second refl in
    let inside4 = ends_inside at 4 metadata (little_bytes 4 offset) (little_bytes 4 size ++ (text ++ rest)) second refl inside in
    let fourth : drop (at + 4 + 4) metadata ≡ text ++ rest = behind_is (at + 4) 4 metadata (little_bytes 4 size) (text ++ rest) third refl in
    let inside8 = ends_inside (at + 4) 4 metadata (little_bytes 4 size) (text ++ rest) third refl inside4 in
    let e : at + 4 + 4 ≡ at + 8 = omega arith in
    let name_there : drop (at + 8) metadata ≡ text ++ rest = rw e at fourth in
    let ends : at + 8 + length text ≤ length metadata = ends_inside (at + 8) (length text) metadata text rest name_there refl (omega (arith, inside8)) in
    let offset_read = read_written 4 (whole metadata) at offset (little_bytes 4 size ++ (text ++ rest)) second near inside in
    let size_read = read_written 4 (whole metadata) (at + 4) size (text ++ rest) third small inside4 in
    let named : before_first (λ byte. byte == 0) (drop (at + 8) metadata) ≡ name = ap (before_first (λ byte. byte == 0)) name_there ∙ name_is in
    let text_read = bytes_read (padded (length name + 1)) (whole metadata) (at + 8) (rw len ends) in
    rw (offset_read, size_read, named, text_read, le-ltb (length metadata) (offset + size) within) refl

-- a part that stands at a place, by its size
pub slice_is : (metadata part rest : List ℕ) (at : ℕ) → drop at metadata ≡ part ++ rest → slice_of metadata at (length part) ≡ part
slice_is metadata part rest at there = ap (take (length part)) there ∙ take-append_seam part rest

padded_more : (size : ℕ) → size ≤ padded size
padded_more size = omega arith

padded_less : (size : ℕ) → padded size ≤ size + 3
padded_less size = omega arith

pub length-padded : (bytes : List ℕ) → padded (length bytes) ≡ length (padded_bytes bytes)
length-padded bytes =
    let zeros = length-replicate {A = ℕ} (padded (length bytes) - length bytes) 0 in
    omega (arith, length-append bytes (replicate (padded (length bytes) - length bytes) 0), zeros, padded_more (length bytes))

-- a part that is padded, and what stands behind it
record Standing (metadata : List ℕ) (at : ℕ) (part rest : List ℕ) : Type 0 where
  there : drop at metadata ≡ padded_bytes part ++ rest
  inside : at ≤ length metadata

standing_part : (metadata : List ℕ) (at : ℕ) (part rest : List ℕ) → Standing metadata at part rest → slice_of metadata at (length part) ≡ part
standing_part metadata at part rest here = slice_is metadata part _ at (here.there ∙ append_assoc part (replicate (padded (length part) - length part) 0) rest)

standing_ends : (metadata : List ℕ) (at : ℕ) (part rest : List ℕ) → Standing metadata at part rest → at + length part ≤ length metadata
standing_ends metadata at part rest here =
    let ends = ends_inside at (padded (length part)) metadata (padded_bytes part) rest here.there (length-padded part) here.inside in
    omega (arith, ends, padded_more (length part))

standing_next : (metadata : List ℕ) (at : ℕ) (part next rest : List ℕ) → Standing metadata at part (padded_bytes next ++ rest) → Standing metadata (at + padded (length part)) next rest
standing_next metadata at part next rest here =
    record {
      there = behind_is at (padded (length part)) metadata (padded_bytes part) (padded_bytes next ++ rest) here.there (length-padded part);
      inside = ends_inside at (padded (length part)) metadata (padded_bytes part) (padded_bytes next ++ rest) here.there (length-padded part) here.inside;
    }

-- the streams
abbrev pub streams_written : List ℕ → List ℕ → List ℕ → List ℕ → Streams
streams_written t s u b =
    let second = streams_start + padded (length t) in
    let third = second + padded (length s) in
    let fourth = third + padded (length u) in
    record {
      tables = record { start = streams_start; bytes = t };
      strings = record { start = second; bytes = s };
      user_strings = record { start = third; bytes = u };
      guid = record { start = 0; bytes = [] };
      blob = record { start = fourth; bytes = b };
    }

abbrev four_streams : List ℕ → List ℕ → List ℕ → List ℕ → List Stream
four_streams t s u b =
    let second = streams_start + padded (length t) in
    let third = second + padded (length s) in
    let fourth = third + padded (length u) in
    (record { name = 0x23 ∷ 0x7E ∷ []; part = record { start = streams_start; bytes = t } })
    ∷ (record { name = 0x23 ∷ 0x53 ∷ 0x74 ∷ 0x72 ∷ 0x69 ∷ 0x6E ∷ 0x67 ∷ 0x73 ∷ []; part = record { start = second; bytes = s } })
    ∷ (record { name = 0x23 ∷ 0x55 ∷ 0x53 ∷ []; part = record { start = third; bytes = u } })
    ∷ (record { name = 0x23 ∷ 0x42 ∷ 0x6C ∷ 0x6F ∷ 0x62 ∷ []; part = record { start = fourth; bytes = b } })
    ∷ []

-- one of the streams, by its header and by where it stands
standing_stream : (metadata : List ℕ) (at offset : ℕ) (part name text rest others : List ℕ) → Standing metadata offset part others → drop at metadata ≡ stream_header offset (length part) text ++ rest
    → at ≤ length metadata → offset < 256 ^ 4 → length part < 256 ^ 4 → before_first (λ byte. byte == 0) (text ++ rest) ≡ name → padded (length name + 1) ≡ length text
    → stream_at metadata at ≡ Ok (record { name = name; part = record { start = offset; bytes = part } })
standing_stream metadata at offset part name text rest others here there inside near small named len =
    let read = stream_read metadata at offset (length part) name text rest there inside near small named len (standing_ends metadata offset part others here) in
    let same = standing_part metadata offset part others here in
    rw same at read

pub headers_read : (t s u b : List ℕ) → length t + length s + length u + length b < 2 ^ 31
    → found_in (streams_bytes t s u b) (record { first = 32; count = 4 }) ≡ Ok (found_of (four_streams t s u b))
unfolding found_in streams_at streams_bytes stream_headers stream_header
headers_read t s u b short =
    let metadata = streams_bytes t s u b in
    let second = streams_start + padded (length t) in
    let third = second + padded (length s) in
    let fourth = third + padded (length u) in
    let h1 = stream_header streams_start (length t) tables_name in
    let h2 = stream_header second (length s) strings_name in
    let h3 = stream_header third (length u) user_strings_name in
    let h4 = stream_header fourth (length b) blob_name in
    let behind_all = padded_bytes t ++ (padded_bytes s ++ (padded_bytes u ++ padded_bytes b)) in
    let long : 92 ≤ length metadata = omega (arith, length-append root_bytes (stream_headers t s u b ++ behind_all), length-append (stream_headers t s u b) behind_all) in
    let at1 : Standing metadata streams_start t (padded_bytes s ++ (padded_bytes u ++ padded_bytes b)) = record { there = refl; inside = long } in
    let at2 = standing_next metadata streams_start t s (padded_bytes u ++ padded_bytes b) at1 in
    let at3 = standing_next metadata second s u (padded_bytes b) at2 in
    let at4 : Standing metadata fourth b [] =
    standing_next metadata third u b [] (record { there = at3.there ∙ ap (λ (r : List ℕ). padded_bytes u ++ r) (sym (append-nil (padded_bytes b))); inside = at3.inside }) in
    let l1 = padded_less (length t) in
    let l2 = padded_less (length s) in
    let l3 = padded_less (length u) in
    let r1 = standing_stream metadata 32 streams_start t _ tables_name ((h2 ++ (h3 ++ h4)) ++ behind_all) _ at1 refl (omega arith) (omega arith) (omega arith) refl refl in
    let r2 = standing_stream metadata 44 second s _ strings_name ((h3 ++ h4) ++ behind_all) _ at2 refl (omega arith) (omega arith) (omega arith) refl refl in
    let r3 = standing_stream metadata 64 third u _ user_strings_name (h4 ++ behind_all) _ at3 refl (omega arith) (omega arith) (omega arith) refl refl in
    let r4 = standing_stream metadata 76 fourth b _ blob_name behind_all _ at4 refl (omega arith) (omega arith) (omega arith) refl refl in
    rw (r1, r2, r3, r4) refl

pub streams_read : (t s u b : List ℕ) → streams_of (found_of (four_streams t s u b)) 32 ≡ Ok (streams_written t s u b)
unfolding streams_of found_of
streams_read t s u b = refl
