-- Compressed numbers as they are written (Partition II, 23.2).
use Rattle.std.specs.Prelude.{ℕ, ◌+◌, ◌/◌, ◌%◌, ◌^◌, nat_lt, if◌then◌else◌, List, [], ◌∷◌}

-- a number below 2^29, in as few bytes as it needs
unfoldable pub number_bytes : ℕ → List ℕ
number_bytes number =
    if nat_lt number 0x80 then number ∷ []
    else if nat_lt number 0x4000 then (0x80 + number / 2 ^ 8) ∷ number % 2 ^ 8 ∷ []
    else (0xC0 + number / 2 ^ 24) ∷ number / 2 ^ 16 % 2 ^ 8 ∷ number / 2 ^ 8 % 2 ^ 8 ∷ number % 2 ^ 8 ∷ []
