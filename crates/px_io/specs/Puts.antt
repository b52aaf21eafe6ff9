-- What a call that writes a text leaves.
use Rattle.std.specs.Prelude.{◌≡◌, ℕ, ◌<◌, ◌≤◌, List, ◌++◌, length, take, Option, Some, None, Result, OnOk, OnErr}
use Rattle.px_io.specs.Counts.{Rose}

-- the bytes with more at their end, where they are told
abbrev pub extended : Option (List ℕ) → List ℕ → Option (List ℕ)
extended None more = None
extended (Some bytes) more = Some (bytes ++ more)

-- a proper prefix of the text was added
unfoldable pub GrewByFront : Option (List ℕ) → List ℕ → Option (List ℕ) → Type 0
GrewByFront old text new = (n : ℕ) × (n < length text) × (new ≡ extended old (take n text))

-- At `Ok` the text was added. At `Err` a proper prefix of it was, and the device had a fault.
pub record Puts {O T E : Type 0} (written : O → Option (List ℕ)) (faults : O → ℕ) (old : O) (text : List ℕ) (new : O) (result : Result T E) : Type 0 where
  pub whole : OnOk result (written new ≡ extended (written old) text)
  pub front : OnErr result (GrewByFront (written old) text (written new))
  pub cause : OnErr result (Rose (faults old) (faults new))
  pub count : faults old ≤ faults new
