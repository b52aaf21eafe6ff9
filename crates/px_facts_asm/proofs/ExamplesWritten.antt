-- What an assembly has of a program: rows, signatures, tokens, bodies and slots.
use Rattle.std.proofs.Common.{◌≡◌, ℕ, ◌+◌, ◌%◌, ◌^◌, [], ◌∷◌, map, refl, true, false, Option, Some, None, Ok, arith}
use Rattle.std.proofs.lemmas.Bool.{false≢true}
use Rattle.px_asm_described.specs.Describes.{IsArray, IsNumber, IsOther, IsSigOf, IsText, class_token, extends_of, method_row, raw_clause, type_row}
use Rattle.px_asm_law_relink.specs.Linked.{RunsWhole}
use Rattle.px_asm_law_written.specs.Holds.{IsBodyIn, IsImplRow, methods_before}
use Rattle.px_asm_law_written.specs.Store.{Store}
use Rattle.px_asm_law_written.specs.Tokens.{HasTokenIn, first_field}
use Rattle.px_code.specs.Body.{operand_of}
use Rattle.px_program.specs.declared.instr.Callee.TheVariants.{Method}
use Rattle.px_program.specs.declared.instr.Check.TheVariants.{Assert}
use Rattle.px_program.specs.declared.instr.Code.{Code}
use Rattle.px_program.specs.declared.instr.Code.TheVariants.{Call, CallVirtual, Cast, Check, Element, Field, Return, Static}
use Rattle.px_program.specs.declared.instr.ElementForm.TheVariants.{Typed}
use Rattle.px_program.specs.declared.program.Clause.{Clause}
use Rattle.px_program.specs.declared.program.ClauseKind.TheVariants.{Catch, Finally}
use Rattle.px_program.specs.declared.program.Place.TheVariants as places
use Rattle.px_program.specs.declared.program.Place.TheVariants.{Ref}
use Rattle.px_sig.specs.Grammar.{array_of, method_sig}
use Rattle.px_sig.specs.declared.sig.Integer.TheVariants as integers
use Rattle.px_sig.specs.declared.sig.MethodSig.{MethodSig}
use Rattle.px_tables.specs.Counts.{has_bit}
use Rattle.px_facts_asm.proofs.ExampleProgram.{abstract_method, example, half_run, overriding_method, static_method}
use Rattle.px_facts_link.proofs.InstrWords.{opcodes}
use Rattle.px_facts_link.proofs.SigWords.{bool, class, grammar, int32, string, void}

-- SIGNATURES of the methods: C has row 2 of TypeDef

abbrev sig_of_m : MethodSig
sig_of_m = record { has_this = false; plain = true; ret = string; params = array_of (array_of int32) ∷ int32 ∷ class 0x0200_0002 ∷ [] }

abbrev sig_of_n : MethodSig
sig_of_n = record { has_this = true; plain = true; ret = void; params = bool ∷ [] }

bytes_of_the_first : method_sig (0x00 ∷ 0x03 ∷ 0x0E ∷ 0x1D ∷ 0x1D ∷ 0x08 ∷ 0x08 ∷ 0x12 ∷ 0x08 ∷ []) ≡ Ok sig_of_m
unfolding grammar
bytes_of_the_first = refl

bytes_of_the_second : method_sig (0x20 ∷ 0x01 ∷ 0x01 ∷ 0x02 ∷ []) ≡ Ok sig_of_n
unfolding grammar
bytes_of_the_second = refl

a_static_method : IsSigOf example static_method sig_of_m
a_static_method = record {
  has_this = refl;
  plain = refl;
  params = (
    IsArray 20 (Ref 19) _ _ _ (record { info = _; at = refl; is = refl })
        (IsArray 19 places.I4 _ _ _ (record { info = _; at = refl; is = refl }) (IsNumber integers.I4 _ _ refl refl) refl refl) refl refl,
    (
      IsNumber integers.I4 _ _ refl refl,
      (IsOther 18 _ _ (λ e. omega arith) (λ e. omega arith) (record { info = _; at = refl; no_element = refl }) refl refl, tt),
    ),
  );
  ret = IsText _ _ refl refl;
}

-- the receiver is no parameter: a body that writes it as one gives Class 0x0200_0002 before the bool
an_abstract_method : IsSigOf example abstract_method sig_of_n
an_abstract_method = record { has_this = refl; plain = refl; params = (IsNumber integers.Bool _ _ refl refl, tt); ret = refl }

-- ROWS

rows_of_types : map (type_row example) (18 ∷ 21 ∷ []) ≡ 2 ∷ 3 ∷ []
rows_of_types = refl

rows_of_methods : map (method_row example) (0 ∷ 1 ∷ 2 ∷ []) ≡ 1 ∷ 2 ∷ 3 ∷ []
rows_of_methods = refl

tokens_of_classes : map (class_token example) (0 ∷ 17 ∷ 18 ∷ 21 ∷ []) ≡ 0x0100_0001 ∷ 0x0100_0012 ∷ 0x0200_0002 ∷ 0x0200_0003 ∷ []
tokens_of_classes = refl

bases : map (extends_of example) (None ∷ Some 0 ∷ Some 18 ∷ []) ≡ 0 ∷ 5 ∷ 8 ∷ []
bases = refl

-- where the methods of C and of D begin: a body that counts from zero gives 0 and 2
first_methods : map (λ i. methods_before example i + 1) (0 ∷ 1 ∷ []) ≡ 1 ∷ 3 ∷ []
first_methods = refl

-- and their fields, those of instances before the static ones
first_fields : map (first_field example) (0 ∷ 1 ∷ []) ≡ 1 ∷ 4 ∷ []
first_fields = refl

-- a body that exchanges the two gives 4 and 6
d_overrides_c : IsImplRow example (2, 1) (record { cells = 3 ∷ 6 ∷ 4 ∷ 0 ∷ 0 ∷ 0 ∷ 0 ∷ 0 ∷ 0 ∷ [] })
d_overrides_c = record { class = refl; body = refl; declaration = refl }

-- TOKENS of instructions, whatever heaps there are

abbrev IsToken : Code → ℕ → Type 0
IsToken made at = (s : Store) → HasTokenIn example s made at

a_field_of_c : IsToken (Field false (record { owner = 18; index = 0 })) 0x0400_0001
a_field_of_c s = refl

-- behind the field of instances: a body that counts the static fields there gives 0x0400_0003
a_static_field_of_c : IsToken (Static false (record { owner = 18; index = 0 })) 0x0400_0002
a_static_field_of_c s = refl

another_static_field_of_c : IsToken (Static true (record { owner = 18; index = 1 })) 0x0400_0003
another_static_field_of_c s = refl

a_field_of_d : IsToken (Field true (record { owner = 21; index = 0 })) 0x0400_0004
a_field_of_d s = refl

a_call : IsToken (Call (Method 0)) 0x0600_0001
a_call s = refl

a_virtual_call : IsToken (CallVirtual 1) 0x0600_0002
a_virtual_call s = refl

a_cast : IsToken (Cast true 18) 0x1B00_001F
a_cast s = refl

an_element : IsToken (Element false (Typed places.I4)) 0x1B00_0007
an_element s = refl

an_assertion : IsToken (Check Assert) 0x0A00_0002
an_assertion s = refl

-- CLAUSES

abbrev clause : Option ℕ → Clause
clause class = record { kind = Catch; from = 1; to = 2; start = 3; stop = 4; class = class }

-- a body that loses the classes gives 0 for each
classes_of_clauses : map (λ class. (raw_clause example (clause class)).class) (Some 1 ∷ Some 18 ∷ None ∷ []) ≡ 0x0100_0002 ∷ 0x0200_0002 ∷ 0 ∷ []
classes_of_clauses = refl

a_finally_clause : raw_clause example (record { kind = Finally; from = 1; to = 2; start = 3; stop = 4; class = None })
    ≡ record { flags = 2; from = 1; to = 2; start = 3; stop = 4; class = 0 }
a_finally_clause = refl

-- BODIES: each method's locals have a signature of their own, by the method's row

-- a body that shares the first locals gives 0x1100_0001
body_of_d : (s : Store) → IsBodyIn example s 3 (overriding_method Return) (record {
  max_stack = 1;
  init_locals = true;
  locals_token = 0x1100_0003;
  code = record { offset = 0; next = 1; opcode = 0x2A; operand = 0; targets = [] } ∷ [];
  clauses = [];
})
unfolding opcodes operand_of
body_of_d s = record {
  formed = record { some = λ e. absurd (cc); follow = (refl, omega arith, tt); lead = refl; ranges = refl; few = omega arith };
  max_stack = refl;
  locals = refl;
  code = (
    record {
      token = 0;
      fits = omega arith;
      is = record {
        encodable = record { opcode = refl; operand = record { size_is = refl; fits = omega arith; no_targets = refl } };
        placed = record { offset = refl; next = refl };
        does = refl;
      };
      has = tt;
    },
    tt,
  );
  clauses = tt;
}

-- SLOTS: a virtual method begins a new one by its flags; a body that lets it take an old one gives 0x0040

virtual_in_a_new_slot : (has_bit (0x0140 % 2 ^ 16) 6 ≡ true) × (has_bit (0x0140 % 2 ^ 16) 8 ≡ true)
virtual_in_a_new_slot = (refl, refl)

virtual_in_an_old_slot : (has_bit (0x0040 % 2 ^ 16) 6 ≡ true) × (has_bit (0x0040 % 2 ^ 16) 8 ≡ false)
virtual_in_an_old_slot = (refl, refl)

-- PROGRAMS THAT RUN WHOLE

it_runs_whole : RunsWhole example
it_runs_whole = ((refl, tt), (tt, ((refl, tt), tt)))

-- a body that takes one opcode alone for what isn't run says that it does
it_does_not : RunsWhole half_run → ⊥
it_does_not whole = false≢true whole.1.1.0.0
