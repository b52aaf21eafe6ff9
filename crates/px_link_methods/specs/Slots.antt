-- Arguments, locals and returns of forms that aren't run, and the instructions that can't be run for them.
use Rattle.std.specs.Prelude.{◌&&◌, not, Bool, true, false, List, [], ◌∷◌, ◌++◌, map, Option, Some, None, slice_get}
use Rattle.px_link_tokens.specs.Operands.{is_there, is_void}
use Rattle.px_program.specs.declared.instr.Code.{Code}
use Rattle.px_program.specs.declared.instr.Code.TheVariants as code
use Rattle.px_program.specs.declared.instr.Move.{Move}
use Rattle.px_program.specs.declared.instr.Move.TheVariants as move
use Rattle.px_sig.specs.declared.sig.MethodSig.{MethodSig}
use Rattle.px_sig.specs.declared.sig.SigType.{SigType}
use Rattle.px_tables.specs.Metadata.{View}
use Rattle.px_link_types.specs.Keys.{key_of}

-- a type of a form that isn't run; `void` is one
abbrev pub is_other : View → SigType → Bool
is_other v type = not (is_there (key_of v type))

-- for each argument and local whether it is of such a form, and whether the return is
pub record Forms : Type 0 where
  pub args : List Bool
  pub locals : List Bool
  pub ret : Bool

-- the receiver is an object of a class
abbrev pub receiver_form : Bool → List Bool
receiver_form true = false ∷ []
receiver_form false = []

abbrev pub forms_of : View → MethodSig → List SigType → Forms
forms_of v sig locals = record {
  args = receiver_form sig.has_this ++ map (is_other v) sig.params;
  locals = map (is_other v) locals;
  ret = is_other v sig.ret && not (is_void sig.ret);
}

abbrev pub is_set : Option Bool → Bool
is_set None = false
is_set (Some flag) = flag

-- a move from or to a slot of such a form
abbrev pub moves_other : Forms → Move → Bool
moves_other forms (move.Argument n) = is_set (slice_get forms.args n)
moves_other forms (move.SetArgument n) = is_set (slice_get forms.args n)
moves_other forms (move.Local n) = is_set (slice_get forms.locals n)
moves_other forms (move.SetLocal n) = is_set (slice_get forms.locals n)
moves_other forms _ = false

-- such a move isn't run, nor is a return from a method with such a return
abbrev pub is_barred : Forms → Code → Bool
is_barred forms (code.Move move) = moves_other forms move
is_barred forms code.Return = forms.ret
is_barred forms _ = false
