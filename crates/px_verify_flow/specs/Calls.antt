-- How a call takes its arguments: those of the parameters, the last one first, and then the receiver.
use Rattle.std.specs.Prelude.{◌≡◌, true, false, List, [], ◌∷◌, length, drop, reverse, Option, Some, None, Result, Ok, Err}
use Rattle.px_program.specs.declared.program.Place.{Place}
use Rattle.px_program.specs.declared.program.TypeInfo.{TypeInfo}
use Rattle.px_verify_kinds.specs.Stacks.{IsStack, kinds_of}
use Rattle.px_verify_kinds.specs.declared.stacks.Cell.{Cell}
use Rattle.px_verify_kinds.specs.declared.stacks.Stack.{Stack}
use Rattle.px_verify_flow.specs.Rows.{fit_places}
use Rattle.px_verify_flow.specs.declared.fault.Stop.{Stop}
use Rattle.px_verify_flow.specs.declared.fault.Stop.TheVariants as stops
use Rattle.px_verify_flow.specs.declared.fault.VerifyKind.TheVariants as faults

-- what is there, as a list
abbrev pub listed : {X : Type 0} → Option X → List X
listed None = []
listed (Some x) = x ∷ []

-- the uppermost values fit these places and are gone, or they don't fit
abbrev pub Takes : List TypeInfo → List Place → List Cell → Stack → Result Stack Stop → Type 0
Takes types places cells stack (Ok rest) =
    (fit_places types (reverse places) (kinds_of cells stack) ≡ true) × (kinds_of cells rest ≡ drop (length places) (kinds_of cells stack)) × IsStack cells rest
Takes types places cells stack (Err stop) = (fit_places types (reverse places) (kinds_of cells stack) ≡ false) × (stop ≡ stops.Fault faults.Mismatch)
