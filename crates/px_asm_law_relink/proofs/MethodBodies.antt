-- A method and its body, read again.
use Rattle.std.proofs.Common.{◌≡◌, ℕ, suc, true, List, [], ◌∷◌, ◌++◌, map, Some, Result, Ok, refl, sym, ◌∙◌, subst, ⊎_elim, eq-eqb}
use Rattle.std.specs.Prelude.{◌==◌, slice_get}
use Rattle.std.specs.List.{AllByRecursion, AllZip, flat_map, zip}
use Rattle.std.proofs.lemmas.Bool.{cases_eq, cond-true}
use Rattle.px_code.specs.Reading.{PlacedFault}
use Rattle.px_link_methods.proofs.RowPlaces.{at_place_of, at_zip, each_of_flat_map}
use Rattle.px_link.proofs.Reached.{targets_in}
use Rattle.px_link.specs.Link.{starts_of}
use Rattle.px_meta.specs.Rows.{cell, is_in, methods}
use Rattle.px_link_methods.specs.Codes.{IsInstr, place_of}
use Rattle.px_link_methods.specs.Methods.{IsMethod, keys_of_body, keys_of_clause, keys_of_instr, keys_of_sig, met_by, sig_at}
use Rattle.px_link_methods.specs.Slots.{forms_of}
use Rattle.px_pe.specs.Image as pe
use Rattle.px_program.proofs.Types.{each_at}
use Rattle.px_program.specs.declared.instr.Instr.{Instr}
use Rattle.px_program.specs.declared.program.Method.{Method}
use Rattle.px_link_reach.proofs.Reaching.{target_met}
use Rattle.px_link_reach.specs.Bodies.{no_body, whole_at}
use Rattle.px_link_reach.specs.Finding.{AreIn}
use Rattle.px_link_reach.specs.Met.{IsBody, target_of, virtual_target_of}
use Rattle.px_link_reach.specs.declared.body.Whole.{Whole}
use Rattle.px_sig.specs.declared.sig.MethodSig.{MethodSig}
use Rattle.px_tables.specs.Metadata.{View}
use Rattle.px_link_types.proofs.Closed.{each-back, each-front, grows}
use Rattle.px_link_types.specs.Keys.{place_key}
use Rattle.px_link_types.specs.Making.{AreNumberedIn}
use Rattle.px_link_types.specs.Numbers.{is_numbered}
use Rattle.px_link_types.specs.declared.key.Key.{Key}
use Rattle.px_asm_law_relink.specs.Again.{Again, first_numbers, method_for}
use Rattle.px_asm_described.specs.Describes.{HasBody, IsCodeRow, IsInstrOf, IsTypeOf, raw_clause}
use Rattle.px_asm_law_relink.specs.Linked.{is_run}
use Rattle.px_asm_law_relink.proofs.Standing.{HasMethodFor, IsReachedRow}

-- WHAT IS READ

-- the body that the other assembly has for a method
pub record HasBodyFor (a : Again) (row : ℕ) (method : Method) : Type 0 where
  pub whole : Whole
  pub body : IsBody a.v a.image (method_for a row) whole
  pub max_stack : method.max_stack ≡ whole.body.max_stack
  pub locals : AllZip (IsTypeOf a.p) method.locals whole.locals
  pub code : AllZip (IsInstrOf a.p a.v) method.code whole.body.code
  pub clauses : AllZip (λ clause raw. raw ≡ raw_clause a.p clause) method.clauses whole.body.clauses

pub read_empty : (v : View) (image : pe.View) (row : ℕ) → cell v methods row 0 ≡ 0 → whole_at v image row ≡ Ok no_body
read_empty v image row none = cond-true (cell v methods row 0 == 0) (Ok no_body) _ (eq-eqb (cell v methods row 0) 0 none)

pub nothing_made : {X Y : Type 0} (R : X → Y → Type 0) (xs : List X) (ys : List Y) → AllZip R xs ys → ys ≡ [] → xs ≡ []
nothing_made R [] ys are e = refl
nothing_made R (x ∷ xs) [] are e = absurd are
nothing_made R (x ∷ xs) (y ∷ ys) are e = absurd (cc)

-- a method without code had no body
no_body_first : (a : Again) (row : ℕ) → (has : HasMethodFor a row) → has.method.code ≡ [] → no_body ≡ has.whole
no_body_first a row has none =
    ⊎_elim
    (λ empty.
    let same : ◌≡◌ {A = Result Whole PlacedFault} (Ok no_body) (Ok has.whole) = sym (read_empty a.first a.from row empty) ∙ has.body.read in
    cc)
    (λ some. absurd ((has.body.formed some).some (nothing_made (IsInstr a.first (first_numbers a) (forms_of a.first has.is_method.sig has.whole.locals)) has.whole.body.code has.method.code has.is_method.code none)))
    (cases_eq (cell a.first methods row 0) 0)

without_body : (a : Again) (row : ℕ) → (has : HasMethodFor a row) → has.method.code ≡ [] → cell a.v methods (method_for a row) 0 ≡ 0 → HasBodyFor a row has.method
without_body a row has none empty =
    let first : IsMethod a.first (first_numbers a) row no_body has.method = subst (λ w. IsMethod a.first (first_numbers a) row w has.method) (sym (no_body_first a row has none)) has.is_method in
    record {
      whole = no_body;
      body = record { read = read_empty a.v a.image (method_for a row) empty; formed = λ some. absurd (some empty) };
      max_stack = first.max_stack;
      locals = subst (λ l. AllZip (IsTypeOf a.p) l []) (sym first.locals) tt;
      code = subst (λ l. AllZip (IsInstrOf a.p a.v) l []) (sym none) tt;
      clauses = subst (λ l. AllZip (λ clause raw. raw ≡ raw_clause a.p clause) l []) (sym first.clauses) tt;
    }

with_body : (a : Again) (row : ℕ) (method : Method) → HasBody a.p a.v a.image (method_for a row) method → HasBodyFor a row method
with_body a row method has = record {
  whole = has.whole;
  body = record { read = has.read; formed = λ some. has.is.formed };
  max_stack = sym has.is.max_stack;
  locals = has.is.locals;
  code = has.is.code;
  clauses = has.is.clauses;
}

body_by : (a : Again) (row : ℕ) → (has : HasMethodFor a row) → (code : List Instr) → has.method.code ≡ code → IsCodeRow a.p a.v a.image (method_for a row) has.method code → HasBodyFor a row has.method
body_by a row has [] e is = without_body a row has e is
body_by a row has (instr ∷ code) e is = with_body a row has.method is

pub body_for : (a : Again) (row : ℕ) → (has : HasMethodFor a row) → HasBodyFor a row has.method
body_for a row has = body_by a row has has.method.code refl has.is.code

-- WHAT HAS NUMBERS

pub record AreNumbered (a : Again) (sig : MethodSig) (whole : Whole) : Type 0 where
  pub params : AreNumberedIn a.reads.keys (map (place_key a.first) sig.params)
  pub ret : is_numbered a.reads.keys (place_key a.first sig.ret) ≡ true
  pub locals : AreNumberedIn a.reads.keys (map (place_key a.first) whole.locals)
  pub code : AllByRecursion (λ raw. AreNumberedIn a.reads.keys (keys_of_instr a.first raw)) whole.body.code
  pub clauses : AllByRecursion (λ raw. AreNumberedIn a.reads.keys (keys_of_clause a.first raw)) whole.body.clauses

pub numbered_parts : (a : Again) (row : ℕ) (sig : MethodSig) (whole : Whole) → sig_at a.first row ≡ Some sig → AreNumberedIn a.reads.keys (met_by a.first (row, whole)) → AreNumbered a sig whole
numbered_parts a row sig whole has_sig met =
    let P : Key → Type 0 = λ key. is_numbered a.reads.keys key ≡ true in
    let v = a.first in
    let locals = map (place_key v) whole.locals in
    let instrs = flat_map (keys_of_instr v) whole.body.code in
    let clauses = flat_map (keys_of_clause v) whole.body.clauses in
    let body = each-back P (keys_of_sig v (sig_at v row)) (keys_of_body v whole) met.1 in
    let of_sig : AreNumberedIn a.reads.keys (keys_of_sig v (Some sig)) = subst (λ s. AreNumberedIn a.reads.keys (keys_of_sig v s)) has_sig (each-front P (keys_of_sig v (sig_at v row)) (keys_of_body v whole) met.1) in
    let behind = each-back P locals (instrs ++ clauses) body in
    record {
      params = each-front P (map (place_key v) sig.params) (place_key v sig.ret ∷ []) of_sig;
      ret = (each-back P (map (place_key v) sig.params) (place_key v sig.ret ∷ []) of_sig).0;
      locals = each-front P locals (instrs ++ clauses) body;
      code = each_of_flat_map P (keys_of_instr v) whole.body.code (each-front P instrs clauses behind);
      clauses = each_of_flat_map P (keys_of_clause v) whole.body.clauses (each-back P instrs clauses behind);
    }

pub all_met : (a : Again) (row : ℕ) → IsReachedRow a row → (has : HasMethodFor a row) → AreNumberedIn a.reads.keys (met_by a.first (row, has.whole))
all_met a row reached has =
    let rows = a.reads.reached.rows in
    each_at (λ pair. AreNumberedIn a.reads.keys (met_by a.first pair)) (zip rows a.reads.reached.bodies)
    (each_of_flat_map (λ key. is_numbered a.reads.keys key ≡ true) (met_by a.first) (zip rows a.reads.reached.bodies) (grows a.reads.numbers).met_numbered)
    (place_of rows row) (row, has.whole) (at_zip rows a.reads.reached.bodies (place_of rows row) row has.whole (at_place_of rows row reached) has.whole_at)

-- WHAT IS CALLED

each_by : {X : Type 0} (P : X → Type 0) (xs : List X) → ((j : ℕ) (x : X) → slice_get xs j ≡ Some x → P x) → AllByRecursion P xs
each_by P [] at = tt
each_by P (x ∷ xs) at = (at 0 x refl, each_by P xs (λ j y is. at (suc j) y is))

pub all_called : (a : Again) (row : ℕ) → (has : HasMethodFor a row) → AllByRecursion (λ raw. AreIn a.reads.reached.rows (target_of a.first raw)) has.whole.body.code
all_called a row has =
    let In : ℕ → Type 0 = λ called. is_in a.reads.reached.rows called ≡ true in
    each_of_flat_map In (target_of a.first) has.whole.body.code
    (each_at (λ (whole : Whole). AllByRecursion In (flat_map (target_of a.first) whole.body.code)) a.reads.reached.bodies
    (targets_in a.first a.from a.reads.lists (starts_of a.first a.reads.method a.reads.sig) a.reads.reached a.reads.is_reached)
    (place_of a.reads.reached.rows row) has.whole has.whole_at)

pub all_named : (a : Again) (row : ℕ) → IsReachedRow a row → (has : HasMethodFor a row) → AllByRecursion (λ raw. AreIn a.reads.reached.virtual_targets (virtual_target_of a.first raw)) has.whole.body.code
all_named a row reached has =
    each_by (λ raw. AreIn a.reads.reached.virtual_targets (virtual_target_of a.first raw)) has.whole.body.code
    (λ j raw at. target_met a.reads.is_reached (place_of a.reads.reached.rows row) row has.whole j raw (at_place_of a.reads.reached.rows row reached) has.body.read at)

pub all_run : (a : Again) (row : ℕ) → (has : HasMethodFor a row) → AllByRecursion (λ (instr : Instr). is_run instr.code ≡ true) has.method.code
all_run a row has = each_at (λ (method : Method). AllByRecursion (λ instr. is_run instr.code ≡ true) method.code) a.p.methods a.runs (place_of a.reads.reached.rows row) has.method has.at
