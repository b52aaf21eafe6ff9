-- Programs of raw bodies.
use Rattle.std.proofs.Common.{◌≡◌, ℕ, List, [], ◌∷◌, ◌++◌, map, refl, ap, true, false, Some, None, arith}
use Rattle.std.specs.Prelude.{Err, Ok, Result, codes}
use Rattle.px_code.specs.Body.{body_of}
use Rattle.px_code.specs.Reading.{PlacedFault}
use Rattle.px_code.specs.declared.body.Body.{Body}
use Rattle.px_link.specs.Link.{BlamesRaw}
use Rattle.px_link.specs.Raw.{ReadsRaw}
use Rattle.px_link.specs.declared.fault.RawFault.TheVariants.{RawLocals}
use Rattle.px_program.specs.Alone.{array_of, no_layout}
use Rattle.px_program.specs.Arguments.{AreGiven, can_be_given}
use Rattle.px_program.specs.Library.{library_types}
use Rattle.px_program.specs.declared.instr.Code.{Code}
use Rattle.px_program.specs.declared.instr.Code.TheVariants.{BranchCompare, Move, Nop, Return}
use Rattle.px_program.specs.declared.instr.Instr.{Instr}
use Rattle.px_program.specs.declared.instr.Move.TheVariants.{Argument, Constant32}
use Rattle.px_program.specs.declared.instr.Test.TheVariants.{Eq}
use Rattle.px_program.specs.declared.program.Clause.{Clause}
use Rattle.px_program.specs.declared.program.ClauseKind.{ClauseKind}
use Rattle.px_program.specs.declared.program.ClauseKind.TheVariants.{Catch, Filter, Finally, Fault}
use Rattle.px_program.specs.declared.program.Place.{Place}
use Rattle.px_program.specs.declared.program.Place.TheVariants.{I4, I8, Ref, U1}
use Rattle.px_program.specs.declared.program.Program.{Program}
use Rattle.px_program.specs.declared.program.TypeInfo.{TypeInfo}
use Rattle.px_facts_link.proofs.InstrWords.{opcodes}
use Rattle.px_facts_link.proofs.SquareAssembly.{bodies}

abbrev instr : ℕ → ℕ → Code → Instr
instr offset next made = record { offset = offset; next = next; code = made }

abbrev constant : ℕ → Code
constant pattern = Move (Constant32 pattern)

-- the program of a static method that returns an int32, over these types
abbrev program : List TypeInfo → List Place → List Instr → List Clause → Program
program types params code clauses = record {
  types = types;
  methods =
      record {
        name = codes "raw";
        owner = 0;
        is_static = true;
        params = params;
        ret = Some I4;
        locals = [];
        max_stack = 8;
        code = code;
        clauses = clauses;
      } ∷ [];
  entry = 0;
  maker = None;
  layout = no_layout;
}

-- A METHOD of an int32, that branches at 7

a_raw_body : ReadsRaw (0x22 ∷ 0x02 ∷ 0x1D ∷ 0x2E ∷ 0x02 ∷ 0x16 ∷ 0x2A ∷ 0x17 ∷ 0x2A ∷ []) (I4 ∷ []) (false ∷ []) (program library_types (I4 ∷ [])
    (instr 0 1 (Move (Argument 0)) ∷ instr 1 2 (constant 7) ∷ instr 2 4 (BranchCompare Eq true 6)
    ∷ instr 4 5 (constant 0) ∷ instr 5 6 Return ∷ instr 6 7 (constant 1) ∷ instr 7 8 Return ∷ []) [])
unfolding bodies opcodes
a_raw_body = record { body = _; read = refl; no_locals = refl; same = refl }

-- ARRAYS as parameters: two of int32 are of one type, and one of bytes is of another
-- a body that counts one type fewer in the library gives Ref 17 for the first

arrays_as_parameters : ReadsRaw (0x0A ∷ 0x16 ∷ 0x2A ∷ []) (I4 ∷ U1 ∷ I8 ∷ I4 ∷ []) (true ∷ true ∷ false ∷ true ∷ [])
    (program (library_types ++ array_of I4 ∷ array_of U1 ∷ []) (Ref 18 ∷ Ref 19 ∷ I8 ∷ Ref 18 ∷ []) (instr 0 1 (constant 0) ∷ instr 1 2 Return ∷ []) [])
unfolding bodies opcodes
arrays_as_parameters = record { body = _; read = refl; no_locals = refl; same = refl }

-- they are what can be given
arrays_are_given : AreGiven (library_types ++ array_of I4 ∷ array_of U1 ∷ []) (Ref 18 ∷ Ref 19 ∷ I8 ∷ Ref 18 ∷ [])
arrays_are_given = record { few = omega arith; each = refl }

-- what isn't: a text, an array of arrays, and a type that isn't there; a body that takes each array gives true for the second
what_is_not_given : map (can_be_given (library_types ++ array_of I4 ∷ array_of (Ref 18) ∷ [])) (Ref 17 ∷ Ref 19 ∷ Ref 20 ∷ []) ≡ false ∷ false ∷ false ∷ []
what_is_not_given = refl

-- CLAUSES: three `nop` and `ret`, with a catch of 0..1 by 1..4, a filter of 0..1 by 1..2, a finally of 0..2 by 2..3 and a fault of 1..2 by 2..4

abbrev guarded : List ℕ
guarded =
    0x0B ∷ 0x30 ∷ 8 ∷ 0 ∷ 4 ∷ 0 ∷ 0 ∷ 0 ∷ 0 ∷ 0 ∷ 0 ∷ 0 ∷ 0 ∷ 0 ∷ 0 ∷ 0x2A
    ∷ 0x01 ∷ 52 ∷ 0 ∷ 0
    ∷ 0 ∷ 0 ∷ 0 ∷ 0 ∷ 1 ∷ 1 ∷ 0 ∷ 3 ∷ 1 ∷ 0 ∷ 0 ∷ 1
    ∷ 1 ∷ 0 ∷ 0 ∷ 0 ∷ 1 ∷ 1 ∷ 0 ∷ 1 ∷ 2 ∷ 0 ∷ 0 ∷ 0
    ∷ 2 ∷ 0 ∷ 0 ∷ 0 ∷ 2 ∷ 2 ∷ 0 ∷ 1 ∷ 0 ∷ 0 ∷ 0 ∷ 0
    ∷ 4 ∷ 0 ∷ 1 ∷ 0 ∷ 1 ∷ 2 ∷ 0 ∷ 2 ∷ 0 ∷ 0 ∷ 0 ∷ 0 ∷ []

abbrev clause : ClauseKind → ℕ → ℕ → ℕ → ℕ → Clause
clause kind from to start stop = record { kind = kind; from = from; to = to; start = start; stop = stop; class = None }

clauses_of_four_kinds : ReadsRaw guarded [] [] (program library_types []
    (instr 0 1 (Nop false) ∷ instr 1 2 (Nop false) ∷ instr 2 3 (Nop false) ∷ instr 3 4 Return ∷ [])
    (clause Catch 0 1 1 4 ∷ clause Filter 0 1 1 2 ∷ clause Finally 0 2 2 3 ∷ clause Fault 1 2 2 4 ∷ []))
unfolding bodies opcodes
clauses_of_four_kinds = record { body = _; read = refl; no_locals = refl; same = refl }

-- LOCALS, whose signature only an assembly has

abbrev with_locals : List ℕ
with_locals = 0x13 ∷ 0x30 ∷ 8 ∷ 0 ∷ 1 ∷ 0 ∷ 0 ∷ 0 ∷ 1 ∷ 0 ∷ 0 ∷ 0x11 ∷ 0x2A ∷ []

abbrev locals_body : Body
locals_body = record {
  max_stack = 8;
  init_locals = true;
  locals_token = 0x1100_0001;
  code = record { offset = 0; next = 1; opcode = 0x2A; operand = 0; targets = [] } ∷ [];
  clauses = [];
}

a_body_with_locals : body_of with_locals ≡ Ok locals_body
unfolding bodies
a_body_with_locals = refl

it_is_refused : BlamesRaw locals_body RawLocals
it_is_refused none = omega arith

token_in : Result Body PlacedFault → ℕ
token_in (Ok body) = body.locals_token
token_in (Err fault) = 0

-- a body that passes it gives a program
it_has_no_program : (p : Program) → ReadsRaw with_locals [] [] p → ⊥
unfolding bodies token_in
it_has_no_program p reads = let token : 0x1100_0001 ≡ reads.body.locals_token = ap token_in reads.read in let none = reads.no_locals in omega arith
