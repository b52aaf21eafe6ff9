-- Which instructions move values, compute with numbers, or go elsewhere.
use Rattle.std.specs.Prelude.{Bool, true, false}
use Rattle.px_program.specs.declared.instr.Code.{Code}
use Rattle.px_program.specs.declared.instr.Code.TheVariants as codes

-- its row takes numbers, compares, moves, or empties the stack
abbrev pub is_simple : Code → Bool
is_simple (codes.Move move) = true
is_simple (codes.Arithmetic operation) = true
is_simple (codes.Divide division) = true
is_simple (codes.DivideUnsigned division) = true
is_simple (codes.Checked operation signed) = true
is_simple (codes.Shift shift) = true
is_simple (codes.Unary unary) = true
is_simple (codes.Convert to) = true
is_simple (codes.ConvertChecked to signed) = true
is_simple (codes.Compare test signed) = true
is_simple (codes.BranchTruth when target) = true
is_simple (codes.BranchCompare test signed target) = true
is_simple (codes.Switch targets) = true
is_simple (codes.Leave target) = true
is_simple codes.EndFinally = true
is_simple (codes.Check check) = true
is_simple _ = false
