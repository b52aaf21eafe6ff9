-- What stands at a place of some bytes, and what stands behind it.
use Rattle.std.proofs.Common.{◌≡◌, ℕ, ◌+◌, ◌^◌, ◌<◌, ◌≤◌, List, [], ◌∷◌, ◌++◌, length, drop, Some, sym, ap, ◌∙◌, subst, arith, append_assoc, length-append, drop-drop}
use Rattle.std.proofs.Math.Seq.{drop-append_seam, take-append_seam}
use Rattle.std.proofs.lemmas.Bool.{le-ltb}
use Rattle.px_blobs.specs.Items.{blob_behind}
use Rattle.px_asm_heaps.specs.Heaps.{HasBlob, HasText, unit_bytes}
use Rattle.px_asm_heaps.specs.Numbers.{number_bytes}
use Rattle.px_asm_heaps.proofs.Numbers.{number_read}

-- the place behind some bytes
pub behind : (at : ℕ) (blob bytes rest : List ℕ) → drop at blob ≡ bytes ++ rest → drop (at + length bytes) blob ≡ rest
behind at blob bytes rest there = sym (drop-drop (length bytes) at blob) ∙ ap (drop (length bytes)) there ∙ drop-append_seam bytes rest

-- a blob behind its length
blob_there : (blob rest : List ℕ) → length blob < 2 ^ 29 → let bytes = number_bytes (length blob) ++ (blob ++ rest) in
    blob_behind (Some (record { number = length blob; used = length (number_bytes (length blob)) })) bytes ≡ Some blob
blob_there blob rest few =
    let used = length (number_bytes (length blob)) in
    let bytes = number_bytes (length blob) ++ (blob ++ rest) in
    let inside : used + length blob ≤ length bytes = omega (arith, length-append (number_bytes (length blob)) (blob ++ rest), length-append blob rest) in
    rw (le-ltb (length bytes) (used + length blob) inside, drop-append_seam (number_bytes (length blob)) (blob ++ rest)) (ap (λ (b : List ℕ). Some b) (take-append_seam blob rest))

pub blob_stands : (heap old blob : List ℕ) (at : ℕ) → at ≡ length old → heap ≡ old ++ (number_bytes (length blob) ++ blob) → length blob < 2 ^ 29 → HasBlob heap at blob
blob_stands heap old blob at place is few rest =
    let size = number_bytes (length blob) in
    let there : drop at (heap ++ rest) ≡ size ++ (blob ++ rest) =
    rw (place, is) (ap (drop (length old)) (append_assoc old (size ++ blob) rest ∙ ap (λ b. old ++ b) (append_assoc size blob rest)) ∙ drop-append_seam old (size ++ (blob ++ rest))) in
    rw (there, number_read (length blob) (blob ++ rest) few) (blob_there blob rest few)

pub text_stands : (heap old bytes blob units : List ℕ) (at flag : ℕ) → at ≡ length old → bytes ≡ unit_bytes units → blob ≡ bytes ++ flag ∷ [] → heap ≡ old ++ (number_bytes (length blob) ++ blob)
    → length blob < 2 ^ 29 → HasText heap at units
text_stands heap old bytes blob units at flag place first last is few =
    record { flag = flag; blob = subst (HasBlob heap at) (last ∙ ap (λ b. b ++ flag ∷ []) first) (blob_stands heap old blob at place is few) }
