-- Clauses by their flags, the types that methods meet, and methods as a program has them.
use Rattle.std.proofs.Common.{◌≡◌, ℕ, List, [], ◌∷◌, refl, map, true, false, Some, None}
use Rattle.std.specs.Prelude.{codes}
use Rattle.px_code.specs.declared.body.Body.{Body}
use Rattle.px_code.specs.declared.body.RawClause.{RawClause}
use Rattle.px_code.specs.declared.body.RawInstr.{RawInstr}
use Rattle.px_link_methods.specs.Methods.{IsMethod, clause_of, met_by_all}
use Rattle.px_link_reach.specs.declared.body.Whole.{Whole}
use Rattle.px_link_tokens.specs.Operands.{operand_of}
use Rattle.px_link_types.specs.Keys.{alone, object}
use Rattle.px_link_types.specs.declared.key.Leaf.TheVariants.{Number, Library, Defined}
use Rattle.px_meta.specs.Chains as chains
use Rattle.px_program.specs.declared.instr.Code.{Code}
use Rattle.px_program.specs.declared.instr.Code.TheVariants.{Move, Nop, Outside}
use Rattle.px_program.specs.declared.instr.Instr.{Instr}
use Rattle.px_program.specs.declared.instr.Move.TheVariants.{Argument, Local}
use Rattle.px_program.specs.declared.program.Clause.{Clause}
use Rattle.px_program.specs.declared.program.ClauseKind.{ClauseKind}
use Rattle.px_program.specs.declared.program.ClauseKind.TheVariants.{Catch, Filter, Finally, Fault}
use Rattle.px_program.specs.declared.program.Place.TheVariants as places
use Rattle.px_program.specs.declared.program.Place.TheVariants.{Ref}
use Rattle.px_sig.specs.declared.sig.Integer.TheVariants.{I4}
use Rattle.px_sig.specs.Grammar.{array_of}
use Rattle.px_facts_link.proofs.CallAssembly.{calls}
use Rattle.px_facts_link.proofs.ExamplesCodes.{numbers}
use Rattle.px_facts_link.proofs.InstrWords.{alone as bare, opcodes, with_number}
use Rattle.px_facts_link.proofs.ShapeAssembly.{arrays}
use Rattle.px_facts_link.proofs.SigWords.{grammar, int32, object as object_type, other_type, void}
use Rattle.px_facts_link.proofs.TableWords.{tables}

-- CLAUSES by their flags

abbrev raw : ℕ → ℕ → RawClause
raw flags class = record { flags = flags; from = 1; to = 2; start = 3; stop = 4; class = class }

abbrev clause : ClauseKind → Clause
clause kind = record { kind = kind; from = 1; to = 2; start = 3; stop = 4; class = Some 6 }

-- a body that takes fault clauses for finally ones gives clause Finally for the last
kinds_of_clauses : map (λ flags. clause_of (Some 6) (raw flags 5)) (0 ∷ 1 ∷ 2 ∷ 4 ∷ [])
    ≡ clause Catch ∷ clause Filter ∷ clause Finally ∷ clause Fault ∷ []
kinds_of_clauses = refl

-- THE TYPES THAT METHODS MEET: the owner, those of the signature and of the locals, those that instructions name, and the classes of clauses

abbrev body_of : List RawInstr → List RawClause → Body
body_of code clauses = record { max_stack = 2; init_locals = false; locals_token = 0; code = code; clauses = clauses }

-- makes an exception with a text, and an array of int32; reaches two fields; catches an exception, a Calls and a Thing
abbrev maker : Whole
maker = record {
  body = body_of (with_number 0x73 0x0A00_0001 ∷ with_number 0x8D 0x0100_0003 ∷ with_number 0x7B 0x0400_0003 ∷ with_number 0x28 0x0600_0001 ∷ [])
      (raw 0 0x0100_0002 ∷ raw 0 0x0200_0001 ∷ raw 0 0x0100_0004 ∷ raw 2 0x0100_0002 ∷ []);
  locals = array_of int32 ∷ [];
}

-- a body that takes Object for the class of each constructor gives object for the one behind the local
types_that_a_method_meets : met_by_all calls (1 ∷ []) (maker ∷ []) ≡
    alone (Defined 1) ∷ object  -- the owner, and void stands as an object
    ∷ arrays 1 (Number I4)  -- the local
    ∷ alone (Library 1) ∷ alone (Library 17) ∷ arrays 1 (Number I4) ∷ alone (Defined 3)  -- the instructions
    ∷ alone (Library 1) ∷ alone (Defined 1) ∷ []  -- the clauses
unfolding grammar operand_of tables
types_that_a_method_meets = refl

-- METHODS

-- one of instances of Late, that takes an int32 and a float and returns a float: moves of such slots and its return are barred
abbrev floats : Whole
floats = record {
  body = body_of (bare 0x02 ∷ bare 0x03 ∷ bare 0x04 ∷ bare 0x06 ∷ bare 0x07 ∷ bare 0x2A ∷ []) (raw 0 0x0100_0002 ∷ raw 0 0x0100_0004 ∷ raw 2 0 ∷ []);
  locals = other_type ∷ object_type ∷ [];
}

abbrev instr : Code → Instr
instr made = record { offset = 0; next = 1; code = made }

-- A body that takes methods of instances for static ones gives true; one that takes the receiver for a parameter Ref 19 before the int32; one that
-- writes a single colon "Late:m"; one that goes by the arguments Move (Local 0), and one that bars only returns Move (Argument 2).
a_method_of_instances : IsMethod calls numbers 7 floats (record {
  name = codes "Late::m";
  owner = 19;
  is_static = false;
  params = places.I4 ∷ Ref 0 ∷ [];
  ret = Some (Ref 0);
  locals = Ref 0 ∷ Ref 0 ∷ [];
  max_stack = 2;
  code =
      instr (Move (Argument 0)) ∷ instr (Move (Argument 1)) ∷ instr (Outside (codes "opcode-04") 0x04)
      ∷ instr (Outside (codes "opcode-06") 0x06) ∷ instr (Move (Local 1)) ∷ instr (Outside (codes "opcode-2A") 0x2A) ∷ [];
  clauses =
      record { kind = Catch; from = 1; to = 2; start = 3; stop = 4; class = Some 1 }
      ∷ record { kind = Catch; from = 1; to = 2; start = 3; stop = 4; class = None }
      ∷ record { kind = Finally; from = 1; to = 2; start = 3; stop = 4; class = None } ∷ [];
})
unfolding grammar opcodes tables
a_method_of_instances = record {
  sig = record { has_this = true; plain = true; ret = other_type; params = int32 ∷ other_type ∷ [] };
  has_sig = refl;
  name = record { type = codes "Late"; type_is = record { outers = []; chain = chains.Ends 3 refl; is = refl }; is = refl };
  owner = refl;
  is_static = refl;
  params = refl;
  ret = refl;
  locals = refl;
  max_stack = refl;
  code = (
    record { offset = refl; next = refl; code = refl },
    (
      record { offset = refl; next = refl; code = refl },
      (
        record { offset = refl; next = refl; code = refl },
        (
          record { offset = refl; next = refl; code = refl },
          (record { offset = refl; next = refl; code = refl }, (record { offset = refl; next = refl; code = refl }, tt)),
        ),
      ),
    ),
  );
  clauses = refl;
}

-- a static one of Calls that returns nothing
a_static_method : IsMethod calls numbers 1 (record { body = body_of (bare 0x00 ∷ []) []; locals = [] }) (record {
  name = codes "Calls::m";
  owner = 18;
  is_static = true;
  params = [];
  ret = None;
  locals = [];
  max_stack = 2;
  code = instr (Nop false) ∷ [];
  clauses = [];
})
unfolding grammar opcodes tables
a_static_method = record {
  sig = record { has_this = false; plain = true; ret = void; params = [] };
  has_sig = refl;
  name = record { type = codes "Calls"; type_is = record { outers = []; chain = chains.Ends 1 refl; is = refl }; is = refl };
  owner = refl;
  is_static = refl;
  params = refl;
  ret = refl;
  locals = refl;
  max_stack = refl;
  code = (record { offset = refl; next = refl; code = refl }, tt);
  clauses = refl;
}
