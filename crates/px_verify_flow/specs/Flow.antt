-- What an instruction gives to those that it leads to, or its first fault.
use Rattle.std.specs.Prelude.{◌&&◌, ◌||◌, not, nat_le, nat_lt, Bool, true, false, List, [], ◌∷◌, length, Option, Some, None, Ok}
use Rattle.std.specs.List.{list_any}
use Rattle.px_program.specs.Formed.{end_of}
use Rattle.px_program.specs.declared.instr.Code.{Code}
use Rattle.px_program.specs.declared.instr.Code.TheVariants as codes
use Rattle.px_program.specs.declared.instr.Instr.{Instr}
use Rattle.px_program.specs.declared.program.Method.{Method}
use Rattle.px_program.specs.declared.program.Place.{Place}
use Rattle.px_program.specs.declared.program.Program.{Program}
use Rattle.px_program.specs.declared.program.TypeInfo.{TypeInfo}
use Rattle.px_verify_kinds.specs.Kinds.{fits_kind, kind_of}
use Rattle.px_verify_kinds.specs.declared.kind.Kind.{Kind}
use Rattle.px_verify_flow.specs.Leaving.{goes_on, is_around, is_bad_leave}
use Rattle.px_verify_flow.specs.Outcome.{Outcome, and_then, need}
use Rattle.px_verify_flow.specs.Rows.{effect}
use Rattle.px_verify_flow.specs.declared.fault.VerifyKind.TheVariants as faults

-- what is returned, and nothing else, is on the stack
abbrev pub is_returned : List TypeInfo → Option Place → List Kind → Bool
is_returned types None [] = true
is_returned types (Some place) (kind ∷ []) = fits_kind types kind (kind_of place)
is_returned types _ _ = false

abbrev pub returns : Code → Bool
returns codes.Return = true
returns _ = false

-- a `ret` in the range or the block of a clause, or on another stack than what is returned
abbrev pub is_bad_return : Program → Method → Instr → List Kind → Bool
is_bad_return program method i stack = returns i.code && (not (is_returned program.types method.ret stack) || list_any (is_around i.offset) method.clauses)

abbrev pub is_deep : Method → List Kind → Bool
is_deep method stack = nat_lt method.max_stack (length stack)

-- the instruction goes on where the code ends
abbrev pub falls_off : Method → Instr → Bool
falls_off method i = goes_on i.code && nat_le (end_of method.code) i.next

-- the checks of an instruction behind its effect, in order
abbrev pub passed : Program → Method → Instr → List Kind → List Kind → Outcome
passed program method i before after =
    need (not (is_bad_return program method i before)) faults.BadRet (
    need (not (is_bad_leave i method.clauses)) faults.BadLeave (
    need (not (is_deep method before || is_deep method after)) faults.Depth (
    need (not (falls_off method i)) faults.FallsOff (Ok after))))

abbrev pub is_outside : Code → Bool
is_outside (codes.Outside name opcode) = true
is_outside _ = false

abbrev pub checked : Bool → Program → Method → Instr → List Kind → Outcome
checked true program method i stack = Ok stack
checked false program method i stack = and_then (effect program method i.code stack) (passed program method i stack)

-- what goes on from an instruction, or its first fault but a bad merge; one that isn't run has none, and leads nowhere
abbrev pub flow : Program → Method → Instr → List Kind → Outcome
flow program method i stack = checked (is_outside i.code) program method i stack
