use Rattle.std.proofs.Common.{◌≡◌, ℕ, List, ◌+◌, ◌++◌, length, ap, ◌∙◌, arith}
use Rattle.std.specs.Vec.{vec_len}
use Rattle.px_tables.specs.Streams.{padded}
use Rattle.px_asm_image.specs.Parts.{headers_of, section_size}
use Rattle.px_asm_image.proofs.ReadBack.{headers_written}
use Rattle.px_asm_image.proofs.Written.{appended, image_written}
use Rattle.px_asm_image.proofs.image.write_image.Goals as goal

pub returns : goal.returns
returns c =
    let metadata = c.args.metadata.now in let bodies = c.args.bodies.now in
    let size = section_size (length metadata) (length bodies) in
    let end : c.next_multiple_of-place.result ≡ padded (length bodies) = omega arith in
    let headers : c.in_ok-file.file.items ≡ headers_of size (padded (length bodies)) (length metadata) = c.in_ok-file.ensures ∙ ap (λ (n : ℕ). headers_of (72 + n + length metadata) n (length metadata)) end in
    let held : c.extend_from_slice.new.self.items ≡ headers_of size (padded (length bodies)) (length metadata) ++ bodies = c.in_ok-extend_from_slice.ensures.items ∙ ap (λ (xs : List ℕ). xs ++ bodies) headers in
    let len : vec_len c.extend_from_slice.new.self ≡ length c.extend_from_slice.new.self.items = omega (arith, c.extend_from_slice.new.self.ok.0) in
    let are = headers_written size (padded (length bodies)) (length metadata) (omega arith) (omega arith) (omega arith) in
    let whole = appended _ metadata bodies _ _ are.len end (len ∙ ap length held) in
    let resized = rw held at c.in_ok-resize.ensures.items in
    rw (c.in_ok-extend_from_slice-2.ensures.items, resized, whole) (image_written metadata bodies c.requires)
