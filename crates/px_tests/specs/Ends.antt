-- How the end of a run is written.
use Rattle.std.specs.Prelude.{ℕ, ◌%◌, ◌^◌, List, [], ◌++◌, codes, decimal, Option, Some, None, ℤ, pos, slice_get}
use Rattle.std.specs.Fmt.{signed_decimal}
use Rattle.px_domain.specs.Place.{number_of, word_bits}
use Rattle.px_io.specs.Pieces.{name_text}
use Rattle.px_program.specs.declared.instr.Code.{Code}
use Rattle.px_program.specs.declared.instr.Code.TheVariants as codes_of
use Rattle.px_program.specs.declared.instr.Instr.{Instr}
use Rattle.px_program.specs.declared.program.Method.{Method}
use Rattle.px_program.specs.declared.program.Place.{Place}
use Rattle.px_program.specs.declared.program.Program.{Program}
use Rattle.px_program.specs.declared.program.TypeInfo.{TypeInfo}
use Rattle.px_program.specs.declared.record.End.{End}
use Rattle.px_program.specs.declared.record.End.TheVariants as ends
use Rattle.px_program.specs.declared.record.Value.{Value}
use Rattle.px_program.specs.declared.record.Value.TheVariants as values
use Rattle.px_program.specs.Formed.{entry_of, instr_at}

abbrev pub name_in : Option TypeInfo → List ℕ
name_in None = []
name_in (Some info) = info.name

-- the name of the type of a number
abbrev pub type_name : Program → ℕ → List ℕ
type_name program class = name_in (slice_get program.types class)

-- the name of what an instruction that isn't run would need
abbrev pub outside_of : Code → List ℕ
outside_of (codes_of.Outside name opcode) = name
outside_of _ = []

abbrev pub outside_in : Option Instr → List ℕ
outside_in None = []
outside_in (Some instr) = outside_of instr.code

abbrev pub instr_in : Option Method → ℕ → Option Instr
instr_in None at = None
instr_in (Some method) at = instr_at method.code at

-- the name of what the instruction at an offset of a method would need
abbrev pub outside_name : Program → ℕ → ℕ → List ℕ
outside_name program method at = outside_in (instr_in (slice_get program.methods method) at)

abbrev pub return_in : Option Method → Option Place
return_in None = None
return_in (Some method) = method.ret

-- the number that a pattern is, by the return type of the entry
abbrev pub returned_by : Option Place → ℕ → ℤ
returned_by None n = pos n
returned_by (Some place) n = number_of place (n % 2 ^ word_bits place)

abbrev pub value_text : Option Place → Value → List ℕ
value_text ret values.Nothing = codes "returned" ++ []
value_text ret (values.Number n) = codes "returned " ++ (signed_decimal (returned_by ret n) ++ [])
value_text ret values.Null = codes "returned null" ++ []
value_text ret values.Object = codes "returned object" ++ []

abbrev pub end_text : Program → End → List ℕ
end_text program (ends.Returned value) = value_text (return_in (entry_of program)) value
end_text program (ends.Threw class) = codes "threw " ++ (name_text (type_name program class) ++ [])
end_text program ends.AssertFailed = codes "assert-failed" ++ []
end_text program ends.Assumed = codes "assumed" ++ []
end_text program ends.StepBound = codes "step-bound" ++ []
end_text program ends.DepthBound = codes "depth-bound" ++ []
end_text program ends.HeapBound = codes "heap-bound" ++ []
end_text program (ends.Outside method at) =
    codes "outside " ++ (decimal method ++ (codes ":" ++ (decimal at ++ (codes " " ++ (name_text (outside_name program method at) ++ [])))))
