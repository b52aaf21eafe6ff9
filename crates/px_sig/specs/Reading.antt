-- A reading of a blob from a place on, and what a function that may run out of memory gives of it.
use Rattle.std.specs.Prelude.{◌≡◌, ℕ, Result, Ok, Err}
use Rattle.px_sig.specs.declared.fault.SigFault.{SigFault}
use Rattle.px_sig.specs.declared.fault.SigFault.TheVariants as faults

-- the fault is that of the reading, or want of memory
abbrev pub Fails : {X : Type 0} → SigFault → Result X ℕ → Type 0
Fails faults.Memory read = Unit {0}
Fails (faults.Bad at) read = read ≡ Err at

-- What a function returned is what reading gives, unless memory ran out.
abbrev pub Gives : {X : Type 0} → Result X SigFault → Result X ℕ → Type 0
Gives (Ok x) read = read ≡ Ok x
Gives (Err fault) read = Fails fault read
