-- The test that a program runs whole.
use Rattle.std.specs.Prelude.{Bool, List}
use Rattle.std.specs.List.{list_all}
use Rattle.px_program.specs.declared.instr.Instr.{Instr}
use Rattle.px_program.specs.declared.program.Method.{Method}
use Rattle.px_asm_law_relink.specs.Linked.{is_run}

-- none of the instructions is Outside
abbrev pub is_all_run : List Instr → Bool
is_all_run code = list_all (λ instr. is_run instr.code) code

abbrev pub are_all_run : List Method → Bool
are_all_run methods = list_all (λ method. is_all_run method.code) methods
