-- What a read finds of what was written.
use Rattle.std.proofs.Common.{◌≡◌, ◌≤◌, ◌<◌, ◌+◌, ◌^◌, ℕ, List, ◌++◌, length, drop, Ok, refl, sym, ◌∙◌, ap, arith, length-append, length-drop, drop-drop}
use Rattle.std.proofs.Math.Seq.{drop-append_seam}
use Rattle.std.proofs.lemmas.Bool.{le-ltb}
use Rattle.byteorder.specs.Endian.{little_bytes, little_number}
use Rattle.byteorder.specs.Numbers.{length-bytes_low_first, little_from-take, little_number-reads_back}
use Rattle.px_tables.specs.Reading.{Part, read_bytes, read_number}

-- a number that stands within the part
pub read_is : (size : ℕ) (part : Part) (at x : ℕ) → at + size ≤ length part.bytes → little_number size (drop at part.bytes) ≡ x → read_number size part at ≡ Ok x
unfolding read_number read_bytes
read_is size part at x inside is =
    let first = little_from-take 0 size size (drop at part.bytes) (omega arith) in
    rw (le-ltb (length part.bytes) (at + size) inside, first, is) refl

-- what stands at a place ends within the bytes
pub ends_inside : (at n : ℕ) (bytes front rest : List ℕ) → drop at bytes ≡ front ++ rest → n ≡ length front → at ≤ length bytes → at + n ≤ length bytes
ends_inside at n bytes front rest there is inside =
    let left = length-drop at bytes in
    let whole = ap length there in
    omega (arith, left, whole, length-append front rest)

-- what stands behind it
pub behind_is : (at n : ℕ) (bytes front rest : List ℕ) → drop at bytes ≡ front ++ rest → n ≡ length front → drop (at + n) bytes ≡ rest
behind_is at n bytes front rest there is = sym (drop-drop n at bytes) ∙ ap (drop n) there ∙ ap (λ m. drop m (front ++ rest)) is ∙ drop-append_seam front rest

-- a number that was written at a place
pub number_is : (size at x : ℕ) (bytes rest : List ℕ) → drop at bytes ≡ little_bytes size x ++ rest → x < 256 ^ size → little_number size (drop at bytes) ≡ x
number_is size at x bytes rest there small = rw there (little_number-reads_back size x rest small)

pub read_written : (size : ℕ) (part : Part) (at x : ℕ) (rest : List ℕ) → drop at part.bytes ≡ little_bytes size x ++ rest → x < 256 ^ size → at ≤ length part.bytes → read_number size part at ≡ Ok x
read_written size part at x rest there small inside =
    read_is size part at x (ends_inside at size part.bytes (little_bytes size x) rest there (sym (length-bytes_low_first 0 size x)) inside) (number_is size at x part.bytes rest there small)
