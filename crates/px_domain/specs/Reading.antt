-- What a cursor's readers return.
use Rattle.std.specs.Prelude.{◌≡◌, ℕ, Result, Ok, Err}
use Rattle.px_domain.specs.declared.fault.DomainFault.{DomainFault}
use Rattle.px_domain.specs.declared.fault.DomainFault.TheVariants as faults
use Rattle.px_reading.specs.Reading.{Read}

-- the fault is that of the reading, and never want of memory
abbrev pub FailsAt : {X : Type 0} → DomainFault → Result X ℕ → Type 0
FailsAt faults.Memory read = ⊥
FailsAt (faults.Bad at) read = read ≡ Err at

-- what was returned, and the place behind it, are what reading gives
abbrev pub Reads : {X : Type 0} → Result X DomainFault → ℕ → Result (Read X) ℕ → Type 0
Reads (Ok x) end read = read ≡ Ok (record { value = x; end = end })
Reads (Err fault) end read = FailsAt fault read

-- the same of bytes that are only stepped over
abbrev pub Steps : {X : Type 0} → Result X DomainFault → ℕ → Result ℕ ℕ → Type 0
Steps (Ok x) end read = read ≡ Ok end
Steps (Err fault) end read = FailsAt fault read

-- the fault is that of the reading, or want of memory
abbrev pub FailsOr : {X : Type 0} → DomainFault → Result X ℕ → Type 0
FailsOr faults.Memory read = Unit {0}
FailsOr (faults.Bad at) read = read ≡ Err at

-- what was returned, and the place behind it, are what reading gives, unless memory ran out
abbrev pub Gathers : {X : Type 0} → Result X DomainFault → ℕ → Result (Read X) ℕ → Type 0
Gathers (Ok x) end read = read ≡ Ok (record { value = x; end = end })
Gathers (Err fault) end read = FailsOr fault read

-- the same of a whole text
abbrev pub GathersAll : {X : Type 0} → Result X DomainFault → Result X ℕ → Type 0
GathersAll (Ok x) read = read ≡ Ok x
GathersAll (Err fault) read = FailsOr fault read
