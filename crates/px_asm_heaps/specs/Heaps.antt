-- Heaps as they are written: what stands at a place stays there, whatever is added behind it (Partition II, 24.2.3 and 24.2.4).
use Rattle.std.specs.Prelude.{◌≡◌, ℕ, ◌%◌, ◌/◌, ◌^◌, List, [], ◌∷◌, ◌++◌, Some}
use Rattle.std.specs.List.{flat_map}
use Rattle.px_blobs.specs.Items.{IsStringAt, blob_at}

abbrev pub HasString : List ℕ → ℕ → List ℕ → Type 0
HasString heap at text = (rest : List ℕ) → IsStringAt (heap ++ rest) at text

abbrev pub HasBlob : List ℕ → ℕ → List ℕ → Type 0
HasBlob heap at blob = (rest : List ℕ) → blob_at (heap ++ rest) at ≡ Some blob

-- the bytes of code units, the low byte first
abbrev pub unit_bytes : List ℕ → List ℕ
unit_bytes units = flat_map (λ unit. unit % 2 ^ 8 ∷ unit / 2 ^ 8 ∷ []) units

-- the bytes of a text's code units stand there, and one byte that says whether some of them are unusual
pub record HasText (heap : List ℕ) (at : ℕ) (units : List ℕ) : Type 0 where
  pub flag : ℕ
  pub blob : HasBlob heap at (unit_bytes units ++ flag ∷ [])

-- the heap is what it was, and more behind it
pub record Grows (old new : List ℕ) : Type 0 where
  pub more : List ℕ
  pub is : new ≡ old ++ more
