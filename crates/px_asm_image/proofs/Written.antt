-- An image as it is written is one that is read, with its metadata and its bodies.
use Rattle.std.proofs.Common.{◌≡◌, ◌<◌, ℕ, ◌+◌, ◌≤◌, ◌-◌, ◌^◌, List, ◌++◌, length, take, drop, replicate, refl, ap, ◌∙◌, sym, arith}
use Rattle.std.proofs.lemmas.List.{append_assoc, drop-append-le, drop-drop, drop_at, length-append, length-drop, length-replicate, take_all}
use Rattle.px_tables.specs.Streams.{padded}
use Rattle.px_asm_image.specs.Image.{first_body, HasBodies, IsImageOf}
use Rattle.px_asm_image.specs.Parts.{filled, image_bytes, section_size}
use Rattle.px_asm_image.proofs.ReadBack.{found, headers_written, image_is, view_of, AreHeaders}

length-filled : (bodies : List ℕ) → length (filled bodies) ≡ padded (length bodies)
length-filled bodies =
    let missing = padded (length bodies) - length bodies in
    omega (arith, length-append bodies (replicate missing 0), length-replicate {A = ℕ} missing 0)

-- the bodies from one on, their zeros, and the metadata
abbrev behind : (metadata bodies : List ℕ) → List ℕ
behind metadata bodies = replicate (padded (length bodies) - length bodies) 0 ++ metadata

-- behind the headers there are the bodies, and behind these the rest
bodies_from : (headers metadata bodies : List ℕ) (start at : ℕ) → length headers ≡ 584 → start ≡ 584 + at → at < length bodies
    → drop start (headers ++ (filled bodies ++ metadata)) ≡ drop at bodies ++ behind metadata bodies
bodies_from headers metadata bodies start at len place more =
    let first = drop_at headers (filled bodies ++ metadata) 584 len in
    let whole : filled bodies ++ metadata ≡ bodies ++ behind metadata bodies = append_assoc bodies _ metadata in
    ap (λ (n : ℕ). drop n (headers ++ (filled bodies ++ metadata))) place ∙ sym (drop-drop at 584 (headers ++ (filled bodies ++ metadata))) ∙ ap (drop at) (first ∙ whole) ∙ drop-append-le at bodies (behind metadata bodies) (omega arith)

bodies_at : (headers metadata bodies : List ℕ) (at : ℕ) → length headers ≡ 584 → at < length bodies
    → HasBodies (headers ++ (filled bodies ++ metadata)) (view_of (headers ++ (filled bodies ++ metadata)) (section_size (length metadata) (length bodies)) (padded (length bodies)) (length metadata)) (first_body + at) (drop at bodies)
bodies_at headers metadata bodies at len more =
    let size = section_size (length metadata) (length bodies) in
    let address = first_body + at in
    let missing = padded (length bodies) - length bodies in
    let start = 0x200 + (address - 0x2000) in
    let from = bodies_from headers metadata bodies start at len (omega arith) more in
    let count : length (drop at bodies ++ behind metadata bodies) ≤ 0x2000 + size - address =
    omega (arith, length-append (drop at bodies) (behind metadata bodies), length-drop at bodies, length-append (replicate {A = ℕ} missing 0) metadata, length-replicate {A = ℕ} missing 0) in
    record {
      span = record { start = start; len = 0x2000 + size - address };
      at = rw (found size address 1 (omega arith) (omega arith)) refl;
      rest = behind metadata bodies;
      are = rw from (take_all _ (drop at bodies ++ behind metadata bodies) count);
    }

with_headers : (headers metadata bodies : List ℕ) → AreHeaders (section_size (length metadata) (length bodies)) (padded (length bodies)) (length metadata) headers
    → IsImageOf metadata bodies (headers ++ (filled bodies ++ metadata))
with_headers headers metadata bodies are =
    let len = are.len in
    let whole = length-append headers (filled bodies ++ metadata) in
    let behind = length-append (filled bodies) metadata in
    let front = length-append headers (filled bodies) in
    let metadata_behind : drop (584 + padded (length bodies)) (headers ++ (filled bodies ++ metadata)) ≡ metadata =
    rw (← append_assoc headers (filled bodies) metadata) (drop_at (headers ++ filled bodies) metadata (584 + padded (length bodies)) (omega (arith, length-filled bodies))) in
    record {
      view = view_of (headers ++ (filled bodies ++ metadata)) (section_size (length metadata) (length bodies)) (padded (length bodies)) (length metadata);
      read = image_is headers (filled bodies ++ metadata) are (omega arith) (omega (arith, length-filled bodies));
      metadata_is = rw metadata_behind (take_all (length metadata) metadata (omega arith));
      bodies_are = λ at more. bodies_at headers metadata bodies at len more;
    }

-- the bytes of an image are an image
pub image_written : (metadata bodies : List ℕ) → length metadata + length bodies < 2 ^ 30 → IsImageOf metadata bodies (image_bytes metadata bodies)
image_written metadata bodies short = with_headers _ metadata bodies (headers_written _ _ _ (omega arith) (omega arith) (omega arith))

-- so they are as they are appended: a file of headers and bodies, which zeros fill up, and the metadata
pub appended : (headers metadata bodies : List ℕ) (end held : ℕ) → length headers ≡ 584 → end ≡ padded (length bodies) → held ≡ length (headers ++ bodies)
    → take (512 + (72 + end)) (headers ++ bodies) ++ replicate (512 + (72 + end) - held) 0 ++ metadata ≡ headers ++ (filled bodies ++ metadata)
appended headers metadata bodies end held len is_padded is_held =
    let both = length-append headers bodies in
    let missing : 512 + (72 + end) - held ≡ padded (length bodies) - length bodies = omega arith in
    rw (take_all (512 + (72 + end)) (headers ++ bodies) (omega arith), missing) (simp append_assoc)
