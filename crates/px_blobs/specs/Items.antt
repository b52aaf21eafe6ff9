-- Items of the heaps: Partition II, 24.2.3 and 24.2.4, and compressed numbers: Partition II, 23.2.
use Rattle.std.specs.Prelude.{◌≡◌, ◌≢◌, ℕ, ◌+◌, ◌-◌, ◌*◌, ◌^◌, nat_lt, if◌then◌else◌, List, [], ◌∷◌, ◌++◌, length, take, drop, Option, Some, None, All, IsUtf8}

-- a compressed number, and how many bytes it takes
pub record Compressed : Type 0 where
  pub number : ℕ
  pub used : ℕ

-- the low bits of a first byte and three more bytes, the high byte first
abbrev pub four_bytes : ℕ → ℕ → List ℕ → Option Compressed
four_bytes a b [] = None
four_bytes a b (c ∷ []) = None
four_bytes a b (c ∷ d ∷ rest) = Some (record { number = a * 2 ^ 24 + b * 2 ^ 16 + c * 2 ^ 8 + d; used = 4 })

abbrev pub more_bytes : ℕ → List ℕ → Option Compressed
more_bytes a [] = None
more_bytes a (b ∷ rest) =
    if nat_lt a 0xC0 then Some (record { number = (a - 0x80) * 2 ^ 8 + b; used = 2 })
    else if nat_lt a 0xE0 then four_bytes (a - 0xC0) b rest
    else None

-- The compressed number that some bytes begin with: of one, two or four bytes by its top bits 0, 10 or 110, the high byte first.
-- A number may be spelled with more bytes than it needs.
abbrev pub compressed_in : List ℕ → Option Compressed
compressed_in [] = None
compressed_in (a ∷ rest) = if nat_lt a 0x80 then Some (record { number = a; used = 1 }) else more_bytes a rest

abbrev pub compressed_at : List ℕ → ℕ → Option Compressed
compressed_at bytes at = compressed_in (drop at bytes)

abbrev pub blob_behind : Option Compressed → List ℕ → Option (List ℕ)
blob_behind None bytes = None
blob_behind (Some c) bytes = if nat_lt (length bytes) (c.used + c.number) then None else Some (take c.number (drop c.used bytes))

-- the blob at a place of a heap: a compressed length, and so many bytes
abbrev pub blob_at : List ℕ → ℕ → Option (List ℕ)
blob_at heap at = blob_behind (compressed_at heap at) (drop at heap)

-- the text stands at a place of a heap, and a zero byte behind it
pub record IsStringAt (heap : List ℕ) (at : ℕ) (text : List ℕ) : Type 0 where
  pub rest : List ℕ
  pub stands : drop at heap ≡ text ++ 0 ∷ rest
  pub no_zero : All (λ byte. byte ≢ 0) text
  pub utf8 : IsUtf8 text
