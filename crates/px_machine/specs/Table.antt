-- The table of instructions, read in any algebra of scalars (Partition III). A row computes the side of a site from a word, and all that comes next from the
-- side alone.
use Rattle.std.specs.Prelude.{if◌then◌else◌, List}
use Rattle.px_cells.specs.Algebra.{Algebra}
use Rattle.px_program.specs.Formed.{method_at}
use Rattle.px_program.specs.declared.instr.Code.{Code}
use Rattle.px_program.specs.declared.instr.Code.TheVariants as codes
use Rattle.px_program.specs.declared.record.End.TheVariants as ends
use Rattle.px_machine.specs.Numbers.{arithmetic_op, shift_op, signed_division, unary_op, unsigned_division}
use Rattle.px_machine.specs.declared.entry.Entry.{Entry}
use Rattle.px_machine.specs.State.{Here, Step, Ends}
use Rattle.px_machine.specs.Parts.{return_of}
use Rattle.px_machine.specs.Steps.{goes_to, goes_on}
use Rattle.px_machine.specs.NumberRows.{binary_row, divide_row, divide_unsigned_row, checked_row, shift_row, unary_row, convert_row, convert_checked_row}
use Rattle.px_machine.specs.BranchRows.{compare_row, truth_row, branch_row, switch_row, check_row}
use Rattle.px_machine.specs.MoveRows.{move_row}
use Rattle.px_machine.specs.ObjectRows.{field_row, static_row, cast_row, new_array_row, length_row, element_row}
use Rattle.px_machine.specs.CallRows.{call_row, make_row, call_virtual_row, returns}
use Rattle.px_machine.specs.BlockRows.{throw_row, rethrow_row, leaves, end_row}

module _ {P W : Type 0} (a : Algebra P W) where
  abbrev pub row : Here W → Code → List (Entry W) → P → Step P W
  row here (codes.Nop is_break) stack pool = goes_on a here stack pool
  row here (codes.Move move) stack pool = move_row a here move stack pool
  row here (codes.Arithmetic operation) stack pool = binary_row a here (arithmetic_op operation) stack pool
  row here (codes.Divide division) stack pool = divide_row a here (signed_division division) stack pool
  row here (codes.DivideUnsigned division) stack pool = divide_unsigned_row a here (unsigned_division division) stack pool
  row here (codes.Checked operation signed) stack pool = checked_row a here operation signed stack pool
  row here (codes.Shift shift) stack pool = shift_row a here (shift_op shift) stack pool
  row here (codes.Unary unary) stack pool = unary_row a here (unary_op unary) stack pool
  row here (codes.Convert to) stack pool = convert_row a here to stack pool
  row here (codes.ConvertChecked to signed) stack pool = convert_checked_row a here to signed stack pool
  row here (codes.Compare test signed) stack pool = compare_row a here test signed stack pool
  row here (codes.Branch target) stack pool = goes_to a here target stack pool
  row here (codes.BranchTruth when target) stack pool = truth_row a here when target stack pool
  row here (codes.BranchCompare test signed target) stack pool = branch_row a here test signed target stack pool
  row here (codes.Switch targets) stack pool = switch_row a here targets stack pool
  row here (codes.NewArray class) stack pool = new_array_row a here class stack pool
  row here codes.Length stack pool = length_row a here stack pool
  row here (codes.Element store form) stack pool = element_row a here store stack pool
  row here (codes.Field store field) stack pool = field_row a here store field stack pool
  row here (codes.Static store field) stack pool = static_row a here store field stack pool
  row here (codes.Call callee) stack pool = call_row a here callee stack pool
  row here (codes.CallVirtual number) stack pool = call_virtual_row a here number stack pool
  row here (codes.NewObject callee) stack pool = make_row a here callee stack pool
  row here (codes.Cast throwing class) stack pool = cast_row a here throwing class stack pool
  row here codes.Return stack pool = returns a here (return_of (method_at here.program here.frame.method)) stack pool
  row here (codes.Throw again) stack pool = if again then rethrow_row a here pool else throw_row a here stack pool
  row here (codes.Leave target) stack pool = leaves a here here.frame.offset target 0 pool
  row here codes.EndFinally stack pool = end_row a here pool
  row here (codes.Check check) stack pool = check_row a here check stack pool
  row here (codes.Outside name opcode) stack pool = Ends (ends.Outside here.frame.method here.frame.offset) pool
