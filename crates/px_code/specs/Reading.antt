-- A reading of bytes that may fail, and what a function that may run out of memory gives of it.
use Rattle.std.specs.Prelude.{◌≡◌, ℕ, Result, Ok, Err}
use Rattle.px_code.specs.declared.body.BodyKind.{BodyKind}
use Rattle.px_code.specs.declared.body.BodyFault.{BodyFault}
use Rattle.px_code.specs.declared.body.BodyFault.TheVariants as faults

-- what is wrong, and where
abbrev pub PlacedFault : Type 0
PlacedFault = BodyKind × ℕ

abbrev pub Fails : {X : Type 0} → BodyFault → Result X PlacedFault → Type 0
Fails faults.Memory read = Unit {0}
Fails (faults.Bad kind at) read = read ≡ Err (kind, at)

-- What a function returned is what reading gives, unless memory ran out.
abbrev pub Gives : {X Y : Type 0} → (X → Y) → Result X BodyFault → Result Y PlacedFault → Type 0
Gives view (Ok x) read = read ≡ Ok (view x)
Gives view (Err e) read = Fails e read
