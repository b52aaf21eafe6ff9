-- Methods that tokens name, read again.
use Rattle.std.proofs.Common.{◌≡◌, ◌≢◌, ℕ, ◌+◌, Bool, true, false, List, [], ◌∷◌, map, Option, Some, None, refl, ap, ◌∙◌, subst, eqb-true, eq-eqb}
use Rattle.std.specs.Prelude.{◌==◌, ◌&&◌, ◌||◌, not, if◌then◌else◌}
use Rattle.std.specs.List.{AllByRecursion, AllZip, list_all, zip}
use Rattle.std.proofs.lemmas.Bool.{and_from, and_parts, cond-false, cond-true, cond_both, ne_eqb, eqb-false, not-true, or_left, or_right}
use Rattle.px_meta.specs.Members.{owner_of}
use Rattle.px_meta.specs.Rows.{cell, methods, some_row}
use Rattle.px_meta.specs.Tokens.{row_in, table_in}
use Rattle.px_link_methods.specs.Codes.{place_of}
use Rattle.px_link_methods.specs.Methods.{keys_of_body, keys_of_sig, met_by, place_of_type, return_place, sig_at}
use Rattle.px_link_tokens.specs.Operands.{Called, CalledVirtually, Made, Way, has_body, has_initialiser, is_owned, is_run, is_there, is_void, may_be_called, method_by, method_in, operand_of}
use Rattle.px_link_tokens.specs.declared.operand.Operand.{Operand}
use Rattle.px_link_tokens.specs.declared.operand.Operand.TheVariants as operand
use Rattle.px_pe.specs.Image as pe
use Rattle.px_program.proofs.Types.{each_at}
use Rattle.px_program.specs.declared.instr.Callee.TheVariants as callees
use Rattle.px_program.specs.declared.instr.Code.TheVariants as code
use Rattle.px_program.specs.declared.instr.Instr.{Instr}
use Rattle.px_program.specs.declared.program.Method.{Method}
use Rattle.px_program.specs.declared.program.Program.{Program}
use Rattle.px_asm_law_relink.proofs.TypeReads.{some_row_is}
use Rattle.px_sig.specs.declared.sig.MethodSig.{MethodSig}
use Rattle.px_sig.specs.Grammar.{plain_type}
use Rattle.px_sig.specs.declared.sig.SigLeaf.TheVariants.{Void}
use Rattle.px_sig.specs.declared.sig.SigType.{SigType}
use Rattle.px_tables.specs.Metadata.{View}
use Rattle.px_link_types.specs.declared.key.Key.{Key}
use Rattle.px_link_types.specs.Keys.{key_of, place_key}
use Rattle.px_link_types.specs.Making.{AreNumberedIn}
use Rattle.px_link_types.specs.Numbers.{is_numbered}
use Rattle.px_link_types.proofs.Closed.{each-back, each-front, grows}
use Rattle.px_link.proofs.LinkedOperands.{HasLinked, has_code, same_sig, some_body}
use Rattle.px_link_methods.proofs.RowPlaces.{at_place_of, at_zip, each_in, each_of_flat_map}
use Rattle.px_asm_law_relink.specs.Again.{Again, first_numbers, key_for, method_for, methods_for, type_for}
use Rattle.px_asm_described.specs.Describes.{IsCodeRow, IsReturnOf, IsTypeOf, NamesMethod}
use Rattle.px_asm_law_relink.proofs.InstrFields.{owned_again}
use Rattle.px_asm_law_relink.proofs.InstrInitialisers.{no_initialiser}
use Rattle.px_asm_law_relink.proofs.InstrOperands.{StandsWith}
use Rattle.px_asm_law_relink.proofs.Standing.{IsReachedRow, method_stands, methods_apart}
use Rattle.px_asm_law_relink.proofs.TypesAgain.{IsMet, type_reads}

-- NUMBERS

place_by : (a : Again) (other row : ℕ) (rest : List ℕ) → (first : Bool) → (other == row) ≡ first → IsReachedRow a other → IsReachedRow a row
    → place_of (methods_for a rest) (method_for a row) ≡ place_of rest row → place_of (methods_for a (other ∷ rest)) (method_for a row) ≡ (if first then 0 else 1 + place_of rest row)
place_by a other row rest true e there also later = cond-true (method_for a other == method_for a row) 0 _ (eq-eqb (method_for a other) (method_for a row) (ap (method_for a) (eqb-true other row e)))
place_by a other row rest false e there also later =
    cond-false (method_for a other == method_for a row) 0 _ (ne_eqb (method_for a other) (method_for a row) (λ same. eqb-false other row e (methods_apart a other row there also same))) ∙ ap (λ k. 1 + k) later

place_among : (a : Again) (rows : List ℕ) (row : ℕ) → AllByRecursion (IsReachedRow a) rows → IsReachedRow a row → place_of (methods_for a rows) (method_for a row) ≡ place_of rows row
place_among a [] row each there = refl
place_among a (other ∷ rest) row each there = place_by a other row rest (other == row) refl each.0 there (place_among a rest row each.1 there)

-- methods keep their numbers
pub same_method : (a : Again) (row : ℕ) → IsReachedRow a row → place_of (methods_for a a.reads.reached.rows) (method_for a row) ≡ place_of a.reads.reached.rows row
same_method a row there = place_among a a.reads.reached.rows row (each_in (IsReachedRow a) a.reads.reached.rows (λ other is. is)) there

-- SIGNATURES

-- the types of a signature have numbers
sig_numbered : (a : Again) (row : ℕ) (sig : MethodSig) → IsReachedRow a row → sig_at a.first row ≡ Some sig → AreNumberedIn a.reads.keys (keys_of_sig a.first (Some sig))
sig_numbered a row sig reached has_sig =
    let h = method_stands a row reached in
    let rows = a.reads.reached.rows in
    let place = at_place_of rows row reached in
    let each = each_of_flat_map (λ key. is_numbered a.reads.keys key ≡ true) (met_by a.first) (zip rows a.reads.reached.bodies) (grows a.reads.numbers).met_numbered in
    let all = each_at (λ pair. AreNumberedIn a.reads.keys (met_by a.first pair)) (zip rows a.reads.reached.bodies) each (place_of rows row) (row, h.whole)
    (at_zip rows a.reads.reached.bodies (place_of rows row) row h.whole place h.whole_at) in
    subst (λ s. AreNumberedIn a.reads.keys (keys_of_sig a.first s)) has_sig
    (each-front (λ key. is_numbered a.reads.keys key ≡ true) (keys_of_sig a.first (sig_at a.first row)) (keys_of_body a.first h.whole) all.1)

is_key : (v : View) (type : SigType) (key : Key) → key_of v type ≡ Some key → is_there (key_of v type) ≡ true
is_key v type key is = ap is_there is

params_run : (a : Again) (types news : List SigType) → AreNumberedIn a.reads.keys (map (place_key a.first) types) → AllZip (IsTypeOf a.p) (map (place_of_type a.first a.reads.keys) types) news
    → list_all (λ type. is_there (key_of a.v type)) news ≡ true
params_run a [] [] numbered zipped = refl
params_run a [] (new ∷ news) numbered zipped = absurd zipped
params_run a (type ∷ types) [] numbered zipped = absurd zipped
params_run a (type ∷ types) (new ∷ news) numbered zipped =
    let reads = type_reads a (place_key a.first type) (place_of_type a.first a.reads.keys type) new numbered.0 refl zipped.0 in
    and_from (is_there (key_of a.v new)) (list_all (λ t. is_there (key_of a.v t)) news) (is_key a.v new (key_for a (place_key a.first type)) reads.key_is) (params_run a types news numbered.1 zipped.1)

pub void_is_void : is_void (plain_type Void) ≡ true
void_is_void = refl

-- a return, by that of the first
record IsReturnAgain (a : Again) (type other : SigType) : Type 0 where
  runs : (is_void other || is_there (key_of a.v other)) ≡ true
  void : is_void type ≡ true → is_void other ≡ true

return_by : (a : Again) (type other : SigType) (void : Bool) → is_void type ≡ void → is_numbered a.reads.keys (place_key a.first type) ≡ true
    → IsReturnOf a.p (if void then None else Some (place_of_type a.first a.reads.keys type)) other → IsReturnAgain a type other
return_by a type other true void_is numbered is =
    let nothing : is_void other ≡ true = ap is_void is ∙ void_is_void in
    record { runs = or_left (is_void other) (is_there (key_of a.v other)) nothing; void = λ e. nothing }
return_by a type other false void_is numbered is =
    let reads = type_reads a (place_key a.first type) (place_of_type a.first a.reads.keys type) other numbered refl is in
    record { runs = or_right (is_void other) (is_there (key_of a.v other)) (is_key a.v other (key_for a (place_key a.first type)) reads.key_is); void = λ e. absurd (cc) }

-- the signature of a method in the other assembly, by that in the first
record HasSigFor (a : Again) (row : ℕ) (sig : MethodSig) : Type 0 where
  other : MethodSig
  has_sig : sig_at a.v (method_for a row) ≡ Some other
  run : is_run a.v other ≡ true
  this : other.has_this ≡ sig.has_this
  void : is_void sig.ret ≡ true → is_void other.ret ≡ true

not_twice : (b : Bool) → not (not b) ≡ b
not_twice true = refl
not_twice false = refl

sig_for : (a : Again) (row : ℕ) (sig : MethodSig) → IsReachedRow a row → sig_at a.first row ≡ Some sig → HasSigFor a row sig
sig_for a row sig reached has_sig =
    let h = method_stands a row reached in
    let other = h.is.sig in
    let same : h.is_method.sig ≡ sig = same_sig a.first (first_numbers a) row h.whole h.method sig h.is_method has_sig in
    let numbered = sig_numbered a row sig reached has_sig in
    let keys = a.reads.keys in
    let is_numbered_key : Key → Type 0 = λ key. is_numbered keys key ≡ true in
    let static : h.method.is_static ≡ not sig.has_this = h.is_method.is_static ∙ ap (λ (s : MethodSig). not s.has_this) same in
    let params : h.method.params ≡ map (place_of_type a.first keys) sig.params = h.is_method.params ∙ ap (λ (s : MethodSig). map (place_of_type a.first keys) s.params) same in
    let given : AllZip (IsTypeOf a.p) (map (place_of_type a.first keys) sig.params) other.params = subst (λ ps. AllZip (IsTypeOf a.p) ps other.params) params h.is.sig_is.params in
    let ret : h.method.ret ≡ return_place a.first keys sig.ret = h.is_method.ret ∙ ap (λ (s : MethodSig). return_place a.first keys s.ret) same in
    let returned = return_by a sig.ret other.ret (is_void sig.ret) refl (each-back is_numbered_key (map (place_key a.first) sig.params) (place_key a.first sig.ret ∷ []) numbered).0
    (subst (λ r. IsReturnOf a.p r other.ret) ret h.is.sig_is.ret) in
    let all = list_all (λ type. is_there (key_of a.v type)) other.params in
    let all_run : all ≡ true = params_run a sig.params other.params (each-front is_numbered_key (map (place_key a.first) sig.params) (place_key a.first sig.ret ∷ []) numbered) given in
    record {
      other = other;
      has_sig = h.is.has_sig;
      run = and_from (other.plain && all) (is_void other.ret || is_there (key_of a.v other.ret)) (and_from other.plain all h.is.sig_is.plain all_run) returned.runs;
      this = h.is.sig_is.has_this ∙ ap not static ∙ not_twice sig.has_this;
      void = returned.void;
    }

-- CALLS

code_there : (p : Program) (v : View) (image : pe.View) (row : ℕ) (method : Method) (code : List Instr) → code ≢ [] → IsCodeRow p v image row method code → cell v methods row 0 ≢ 0
code_there p v image row method [] some is = absurd (some refl)
code_there p v image row method (instr ∷ instrs) some is = is.there

body_again : (a : Again) (row : ℕ) → IsReachedRow a row → has_body a.first row ≡ true → has_body a.v (method_for a row) ≡ true
body_again a row reached has =
    let h = method_stands a row reached in
    let linked : HasLinked a.first a.from (first_numbers a) a.p row = record { whole = h.whole; method = h.method; at = h.at; body = h.body; is = h.is_method } in
    let some = has_code a.first a.from (first_numbers a) a.p row linked (some_body a.first row has) in
    ap not (ne_eqb (cell a.v methods (method_for a row) 0) 0 (code_there a.p a.v a.image (method_for a row) h.method h.method.code some h.is.code))

-- no initialiser of a type need be run, where that is asked
no_need : (a : Again) (this : Bool) (type : ℕ) → IsMet a type → (this || not (has_initialiser a.first type)) ≡ true → (this || not (has_initialiser a.v (type_for a type))) ≡ true
no_need a true type met none = refl
no_need a false type met none = ap not (no_initialiser a type met (not-true (has_initialiser a.first type) none))

called_again : (a : Again) (way : Way) (row : ℕ) (sig : MethodSig) → IsReachedRow a row → (s : HasSigFor a row sig) → may_be_called a.first way row sig ≡ true → may_be_called a.v way (method_for a row) s.other ≡ true
called_again a Called row sig reached s may =
    let h = method_stands a row reached in
    let first_owner = owner_of a.first methods row in
    let owner = owner_of a.v methods (method_for a row) in
    let parts = and_parts (is_owned a.first sig.has_this first_owner && has_body a.first row) (sig.has_this || not (has_initialiser a.first first_owner)) may in
    let body = (and_parts (is_owned a.first sig.has_this first_owner) (has_body a.first row) parts.0).1 in
    let owned : is_owned a.v s.other.has_this owner ≡ true = ap (is_owned a.v s.other.has_this) h.owner ∙ owned_again a s.other.has_this first_owner h.owner_met in
    let none : (s.other.has_this || not (has_initialiser a.v owner)) ≡ true =
    ap (λ b. b || not (has_initialiser a.v owner)) s.this ∙ ap (λ o. sig.has_this || not (has_initialiser a.v o)) h.owner ∙ no_need a sig.has_this first_owner h.owner_met parts.1 in
    and_from (is_owned a.v s.other.has_this owner && has_body a.v (method_for a row)) (s.other.has_this || not (has_initialiser a.v owner))
    (and_from (is_owned a.v s.other.has_this owner) (has_body a.v (method_for a row)) owned (body_again a row reached body)) none
called_again a CalledVirtually row sig reached s may =
    let h = method_stands a row reached in
    let first_owner = owner_of a.first methods row in
    let owner = owner_of a.v methods (method_for a row) in
    let this = (and_parts (is_owned a.first true first_owner) sig.has_this may).1 in
    and_from (is_owned a.v true owner) s.other.has_this (ap (is_owned a.v true) h.owner ∙ owned_again a true first_owner h.owner_met) (s.this ∙ this)
called_again a Made row sig reached s may =
    let h = method_stands a row reached in
    let first_owner = owner_of a.first methods row in
    let other_row = method_for a row in
    let owner = owner_of a.v methods other_row in
    let first_owned = is_owned a.first true first_owner in
    let first_body = has_body a.first row in
    let one = and_parts (first_owned && first_body && sig.has_this && is_void sig.ret) (not (has_initialiser a.first first_owner)) may in
    let two = and_parts (first_owned && first_body && sig.has_this) (is_void sig.ret) one.0 in
    let three = and_parts (first_owned && first_body) sig.has_this two.0 in
    let four = and_parts first_owned first_body three.0 in
    let owned : is_owned a.v true owner ≡ true = ap (is_owned a.v true) h.owner ∙ owned_again a true first_owner h.owner_met in
    let none : not (has_initialiser a.v owner) ≡ true = ap (λ o. not (has_initialiser a.v o)) h.owner ∙ no_need a false first_owner h.owner_met one.1 in
    let body = has_body a.v other_row in
    and_from (is_owned a.v true owner && body && s.other.has_this && is_void s.other.ret) (not (has_initialiser a.v owner))
    (and_from (is_owned a.v true owner && body && s.other.has_this) (is_void s.other.ret)
    (and_from (is_owned a.v true owner && body) s.other.has_this (and_from (is_owned a.v true owner) body owned (body_again a row reached four.1)) (s.this ∙ three.1)) (s.void two.1)) none

-- the row of the other assembly is called in the same way
named_again : (a : Again) (way : Way) (row : ℕ) (sig : MethodSig) → IsReachedRow a row → sig_at a.first row ≡ Some sig → may_be_called a.first way row sig ≡ true
    → method_in a.v way (some_row a.v methods (method_for a row)) ≡ Some (operand.Method (method_for a row))
named_again a way row sig reached has_sig may =
    let h = method_stands a row reached in
    let s = sig_for a row sig reached has_sig in
    let other = method_for a row in
    ap (method_in a.v way) (some_row_is a.v methods other h.there) ∙ ap (method_by a.v way other) s.has_sig
    ∙ cond-true (is_run a.v s.other && may_be_called a.v way other s.other) (Some (operand.Method other)) None
    (and_from (is_run a.v s.other) (may_be_called a.v way other s.other) s.run (called_again a way row sig reached s may))

-- OPCODES

abbrev CallsWith : Again → Way → ℕ → Type 0
CallsWith a way opcode = (row : ℕ) (sig : MethodSig) → sig_at a.first row ≡ Some sig → may_be_called a.first way row sig ≡ true → StandsWith a opcode (Some (operand.Method row))

-- what is in the table of methods, and so named by its row
in_methods : (a : Again) (way : Way) (row at : ℕ) (rest : Option Operand) → method_in a.v way (some_row a.v methods (method_for a row)) ≡ Some (operand.Method (method_for a row)) → NamesMethod a.p (place_of a.reads.reached.rows row) at
    → (if table_in at == methods then method_in a.v way (some_row a.v methods (row_in at)) else rest) ≡ Some (operand.Method (method_for a row))
in_methods a way row at rest named names =
    cond-true (table_in at == methods) (method_in a.v way (some_row a.v methods (row_in at))) rest (eq-eqb (table_in at) methods names.table)
    ∙ ap (λ r. method_in a.v way (some_row a.v methods r)) names.row ∙ named

call : (a : Again) → CallsWith a Called 0x28
unfolding operand_of
call a row sig has_sig may met = record {
  opcode_is = refl;
  named = λ token names. record {
    other = operand.Method (method_for a row);
    at = in_methods a Called row token _ (named_again a Called row sig met.methods.0 has_sig may) names;
    keys = refl;
    targets = refl;
    code = ap (λ k. code.Call (callees.Method k)) (same_method a row met.methods.0);
  };
}

call_virtually : (a : Again) → CallsWith a CalledVirtually 0x6F
unfolding operand_of
call_virtually a row sig has_sig may met = record {
  opcode_is = refl;
  named = λ token names. record {
    other = operand.Method (method_for a row);
    at = in_methods a CalledVirtually row token _ (named_again a CalledVirtually row sig met.methods.0 has_sig may) names;
    keys = refl;
    targets = refl;
    code = ap code.CallVirtual (same_method a row met.methods.0);
  };
}

make : (a : Again) → CallsWith a Made 0x73
unfolding operand_of
make a row sig has_sig may met = record {
  opcode_is = refl;
  named = λ token names. record {
    other = operand.Method (method_for a row);
    at = in_methods a Made row token _ (named_again a Made row sig met.methods.0 has_sig may) names;
    keys = refl;
    targets = refl;
    code = ap (λ k. code.NewObject (callees.Method k)) (same_method a row met.methods.0);
  };
}

by_sig : (a : Again) (way : Way) (opcode : ℕ) → CallsWith a way opcode → (row : ℕ) (sig : Option MethodSig) → sig_at a.first row ≡ sig → StandsWith a opcode (method_by a.first way row sig)
by_sig a way opcode calls row None e = tt
by_sig a way opcode calls row (Some sig) e =
    cond_both (is_run a.first sig && may_be_called a.first way row sig) (Some (operand.Method row)) None (StandsWith a opcode)
    (λ may. calls row sig e (and_parts (is_run a.first sig) (may_be_called a.first way row sig) may).1) (λ not_so. tt)

in_row : (a : Again) (way : Way) (opcode : ℕ) → CallsWith a way opcode → (row : Option ℕ) → StandsWith a opcode (method_in a.first way row)
in_row a way opcode calls None = tt
in_row a way opcode calls (Some row) = by_sig a way opcode calls row (sig_at a.first row) refl

pub call_stands : (a : Again) (row : Option ℕ) → StandsWith a 0x28 (method_in a.first Called row)
call_stands a row = in_row a Called 0x28 (call a) row

pub virtual_stands : (a : Again) (row : Option ℕ) → StandsWith a 0x6F (method_in a.first CalledVirtually row)
virtual_stands a row = in_row a CalledVirtually 0x6F (call_virtually a) row

pub make_stands : (a : Again) (row : Option ℕ) → StandsWith a 0x73 (method_in a.first Made row)
make_stands a row = in_row a Made 0x73 (make a) row
