-- The program of a well formed body is well formed.
use Rattle.std.proofs.Common.{◌≢◌, ℕ, ◌<◌, List, [], ◌∷◌, None, length, refl, arith, map}
use Rattle.std.specs.Prelude.{IfSome}
use Rattle.std.specs.List.{AllByRecursion, AllZip}
use Rattle.std.proofs.lemmas.List.{length-map}
use Rattle.px_code.specs.declared.body.RawClause.{RawClause}
use Rattle.px_code.specs.declared.body.RawInstr.{RawInstr}
use Rattle.px_code.specs.declared.body.Body.{Body}
use Rattle.px_code.specs.Body as raw
use Rattle.px_program.specs.Alone.{alone, types_with}
use Rattle.px_program.specs.declared.program.Place.{Place}
use Rattle.px_program.specs.declared.program.Program.{Program}
use Rattle.px_program.specs.Formed as made
use Rattle.px_program.proofs.Types.{each-map}
use Rattle.px_link_opcodes.specs.Opcodes.{plain_code}
use Rattle.px_link.specs.Raw.{instr_of, method_of}
use Rattle.px_link_methods.specs.Methods.{clause_of}
use Rattle.px_link_opcodes.proofs.Fitting.{Fits, known_fits, plain_fits}
use Rattle.px_link.proofs.Bodies.{HasStarts, IsPlacedAs, all_fit, all_ranges, all_starts, follow}

placed : (xs : List RawInstr) → AllZip IsPlacedAs xs (map instr_of xs)
placed [] = tt
placed (x ∷ xs) = (record { offset = refl; next = refl }, placed xs)

no_classes : (P : ℕ → Type 0) (cs : List RawClause) → AllByRecursion (λ c. IfSome c.class P) (map (clause_of None) cs)
no_classes P [] = tt
no_classes P (c ∷ cs) = (tt, no_classes P cs)

-- what an instruction of the whole does leads to starts, and names no number
fits : (program : Program) (all : List RawInstr) (x : RawInstr) → HasStarts (map instr_of all) x → Fits (made.is_start (map instr_of all)) program (instr_of x).code
fits program all x has =
    let p = made.is_start (map instr_of all) in
    known_fits p program x.opcode (plain_code x) (plain_fits p program x has.all has.first)

not_empty : (xs : List RawInstr) → xs ≢ [] → map instr_of xs ≢ []
not_empty [] h e = h refl
not_empty (x ∷ xs) h e = cc

-- THE METHOD ALONE

pub begins : (elements : List Place) (name : List ℕ) (body : Body) (params : List Place) → raw.IsFormed body
    → made.CanBegin (alone elements (method_of name body params)) (method_of name body params)
begins elements name body params formed = record { code = not_empty body.code formed.some; maker = refl }

pub formed_in : (elements : List Place) (name : List ℕ) (body : Body) (params : List Place) → raw.IsFormed body
    → AllByRecursion (made.FitsPlace (types_with elements)) params → made.IsFormedIn (alone elements (method_of name body params)) (method_of name body params)
formed_in elements name body params formed fit =
    let program = alone elements (method_of name body params) in
    let code = map instr_of body.code in
    let starts = all_starts body code (placed body.code) formed in
    let all = all_fit (made.is_start code) program code (each-map (HasStarts code) (λ i. Fits (made.is_start code) program i.code) instr_of (fits program body.code) body.code starts) in
    record {
      formed = record { follow = follow 0 body.code code (placed body.code) formed.follow; lead = all.0; ranges = all_ranges body.code code (placed body.code) (λ c. None) body.clauses formed.ranges };
      few_clauses = rw (length-map body.clauses (clause_of None)) formed.few;
      owner = omega arith;
      params = fit;
      ret = tt;
      locals = tt;
      operands = all.1;
      classes = no_classes (λ class. class < length program.types) body.clauses;
    }
