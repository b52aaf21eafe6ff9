-- Methods and programs, written briefly: instructions by their names, one after another.
use Rattle.std.proofs.Common.{List, [], ◌∷◌, Bool, false, true, ℕ, ◌+◌, Some}
use Rattle.px_program.specs.declared.instr.Arithmetic.TheVariants.{Add, Sub}
use Rattle.px_program.specs.declared.instr.Code.{Code}
use Rattle.px_program.specs.declared.instr.Code.TheVariants.{Nop, Move, Arithmetic, Branch, BranchTruth, BranchCompare, Return}
use Rattle.px_program.specs.declared.instr.Instr.{Instr}
use Rattle.px_program.specs.declared.instr.Move.TheVariants.{Argument, Constant32}
use Rattle.px_program.specs.declared.instr.Test.{Test}
use Rattle.px_program.specs.declared.program.Method.{Method}
use Rattle.px_program.specs.declared.program.Place.{Place}
use Rattle.px_program.specs.declared.program.Place.TheVariants.{I4}

-- INSTRUCTIONS

abbrev pub nop : Code
nop = Nop false

abbrev pub ldarg : ℕ → Code
ldarg n = Move (Argument n)

-- a constant of 32 bits
abbrev pub ldc : ℕ → Code
ldc pattern = Move (Constant32 pattern)

abbrev pub add : Code
add = Arithmetic Add

abbrev pub sub : Code
sub = Arithmetic Sub

abbrev pub br : ℕ → Code
br target = Branch target

abbrev pub brtrue : ℕ → Code
brtrue target = BranchTruth true target

abbrev pub brfalse : ℕ → Code
brfalse target = BranchTruth false target

abbrev pub branch_on : Test → Bool → ℕ → Code
branch_on test signed target = BranchCompare test signed target

abbrev pub ret : Code
ret = Return

-- METHODS

-- an instruction of so many bytes
abbrev pub Sized : Type 0
Sized = ℕ × Code

-- instructions one after another from an offset
abbrev pub laid_from : ℕ → List Sized → List Instr
laid_from at [] = []
laid_from at (i ∷ rest) = record { offset = at; next = at + i.0; code = i.1 } ∷ laid_from (at + i.0) rest

-- a static method that returns an `int32`
abbrev pub method_of : List Place → List Instr → Method
method_of params code = record {
  name = [];
  owner = 0;
  is_static = true;
  params = params;
  ret = Some I4;
  locals = [];
  max_stack = 8;
  code = code;
  clauses = [];
}

-- an instance method of a type that returns an `int32`
abbrev pub instance_of : ℕ → List Place → List Instr → Method
instance_of type params code = record {
  name = [];
  owner = type;
  is_static = false;
  params = params;
  ret = Some I4;
  locals = [];
  max_stack = 8;
  code = code;
  clauses = [];
}
