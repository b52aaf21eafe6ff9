-- What stands in the other assembly for what a token of the first names.
use Rattle.std.proofs.Common.{◌≡◌, ℕ, Bool, true, false, Option, Some, None, refl, sym, subst, ⊎_elim, eqb-true}
use Rattle.std.specs.Prelude.{◌==◌, ◌||◌, if◌then◌else◌}
use Rattle.std.proofs.lemmas.Bool.{or_cases}
use Rattle.px_link_methods.specs.Codes.{code_with}
use Rattle.px_link_methods.specs.Methods.{keys_of_operand}
use Rattle.px_link_tokens.specs.Operands.{operand_of}
use Rattle.px_link_tokens.specs.declared.operand.Operand.{Operand}
use Rattle.px_link_reach.specs.Met.{method_in}
use Rattle.px_asm_opcodes.specs.Recoding.{token_opcode}
use Rattle.px_link.proofs.LinkedOperands.{IsMet}
use Rattle.px_asm_law_relink.specs.Again.{Again, first_numbers, keys_for, methods_for, numbers_for}
use Rattle.px_asm_described.specs.Describes.{Names}

-- the operand of an instruction with this opcode and token, which stands for one of the first assembly
pub record HasNamed (a : Again) (opcode : ℕ) (o : Operand) (token : ℕ) : Type 0 where
  pub other : Operand
  pub at : operand_of a.v opcode token ≡ Some other
  pub keys : keys_of_operand a.v (Some other) ≡ keys_for a (keys_of_operand a.first (Some o))
  pub targets : method_in (Some other) ≡ methods_for a (method_in (Some o))
  pub code : code_with a.v (numbers_for a) opcode other ≡ code_with a.first (first_numbers a) opcode o

-- what an instruction of the first assembly does with an operand has that opcode, and a token that names it names what stands for the operand
pub record HasFor (a : Again) (opcode : ℕ) (o : Operand) : Type 0 where
  pub opcode_is : token_opcode (code_with a.first (first_numbers a) opcode o) ≡ Some opcode
  pub named : (token : ℕ) → Names a.p a.v (code_with a.first (first_numbers a) opcode o) token → HasNamed a opcode o token

-- an operand that is met
abbrev pub StandsWith : Again → ℕ → Option Operand → Type 0
StandsWith a opcode None = Unit {0}
StandsWith a opcode (Some o) = IsMet a.first (first_numbers a) o → HasFor a opcode o

-- BY THE OPCODE

pub at_code : (a : Again) (opcode other : ℕ) (o : Option Operand) → StandsWith a other o → (opcode == other) ≡ true → StandsWith a opcode o
at_code a opcode other o stands e = subst (λ k. StandsWith a k o) (sym (eqb-true opcode other e)) stands

pub at_codes : (a : Again) (opcode one other : ℕ) (o : Option Operand) → StandsWith a one o → StandsWith a other o → ((opcode == one) || (opcode == other)) ≡ true → StandsWith a opcode o
at_codes a opcode one other o stands also e = ⊎_elim (at_code a opcode one o stands) (at_code a opcode other o also) (or_cases (opcode == one) (opcode == other) e)

pub step : (a : Again) (opcode : ℕ) (test : Bool) (one other : Option Operand) → (test ≡ true → StandsWith a opcode one) → StandsWith a opcode other → StandsWith a opcode (if test then one else other)
step a opcode true one other stands later = stands refl
step a opcode false one other stands later = later
