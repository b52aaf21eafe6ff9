-- What one instruction makes of a stack, put together from pops, demands and pushes.
use Rattle.std.specs.Prelude.{◌≡◌, Bool, true, false, List, [], ◌∷◌, Option, Some, None, Result, Ok, Err}
use Rattle.px_verify_kinds.specs.Stacks.{IsStack, kinds_of}
use Rattle.px_verify_kinds.specs.declared.kind.Kind.{Kind}
use Rattle.px_verify_kinds.specs.declared.stacks.Cell.{Cell}
use Rattle.px_verify_kinds.specs.declared.stacks.Stack.{Stack}
use Rattle.px_verify_flow.specs.declared.fault.Stop.{Stop}
use Rattle.px_verify_flow.specs.declared.fault.Stop.TheVariants as stops
use Rattle.px_verify_flow.specs.declared.fault.VerifyKind.{VerifyKind}
use Rattle.px_verify_flow.specs.declared.fault.VerifyKind.TheVariants as faults

-- the stack that is left, its top first, or the first fault
abbrev pub Outcome : Type 0
Outcome = Result (List Kind) VerifyKind

-- takes the top
abbrev pub on_pop : List Kind → (Kind → List Kind → Outcome) → Outcome
on_pop [] next = Err faults.Underflow
on_pop (kind ∷ below) next = next kind below

-- goes on where a demand holds
abbrev pub need : Bool → VerifyKind → Outcome → Outcome
need true fault next = next
need false fault next = Err fault

-- goes on with what is there
abbrev pub on_some : {X : Type 0} → Option X → (X → Outcome) → Outcome
on_some None next = Err faults.Mismatch
on_some (Some x) next = next x

abbrev pub and_then : Outcome → (List Kind → Outcome) → Outcome
and_then (Ok stack) next = next stack
and_then (Err fault) next = Err fault

-- What a function returned is the outcome, read off the cells that stand behind it, unless memory ran out.
abbrev pub Gives : List Cell → Result Stack Stop → Outcome → Type 0
Gives cells (Ok stack) outcome = (outcome ≡ Ok (kinds_of cells stack)) × IsStack cells stack
Gives cells (Err (stops.Fault fault)) outcome = outcome ≡ Err fault
Gives cells (Err stops.Memory) outcome = Unit {0}
