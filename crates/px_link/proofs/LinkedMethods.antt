-- Each method of a linked program is well formed.
use Rattle.std.proofs.Common.{◌≡◌, ℕ, ◌<◌, ◌^◌, ◌%◌, Bool, true, List, [], ◌∷◌, ◌++◌, length, map, Option, Some, None, refl, sym, ap, ◌∙◌, subst, ⊎_elim, arith}
use Rattle.std.specs.Prelude.{◌==◌, IfSome, Ok, Result}
use Rattle.std.specs.List.{AllByRecursion, AllZip, flat_map, list_all}
use Rattle.std.proofs.lemmas.Bool.{cases_eq, cond-true, cond_both, eq-eqb}
use Rattle.std.proofs.lemmas.List.{length-map}
use Rattle.px_code.specs.Body.{IsFormed as IsFormedBody}
use Rattle.px_code.specs.Reading.{PlacedFault}
use Rattle.px_code.specs.declared.body.Body.{Body}
use Rattle.px_code.specs.declared.body.RawClause.{RawClause}
use Rattle.px_code.specs.declared.body.RawInstr.{RawInstr}
use Rattle.px_meta.specs.Members.{owner_of}
use Rattle.px_meta.specs.Rows.{cell, is_in, methods}
use Rattle.px_link_methods.specs.Codes.{IsCode, IsInstr, IsTokenCode, Numbering, owner_number}
use Rattle.px_link_methods.specs.Methods.{IsMethod, caught, class_number, clause_of, keys_of_body, keys_of_clause, keys_of_instr, keys_of_sig, linked_clause, met_by, place_of_type, return_place, sig_at}
use Rattle.px_link_methods.specs.Slots.{Forms, forms_of, is_barred}
use Rattle.px_link_opcodes.proofs.Fitting.{Fits, FitsIf, plain_fits}
use Rattle.px_link_opcodes.specs.Opcodes.{outside, plain_code}
use Rattle.px_link_tokens.specs.Operands.{is_void}
use Rattle.px_link_tokens.specs.declared.operand.Operand.{Operand}
use Rattle.px_pe.specs.Image as pe
use Rattle.px_program.specs.Formed as made
use Rattle.px_program.specs.declared.instr.Code.{Code}
use Rattle.px_program.specs.declared.instr.Instr.{Instr}
use Rattle.px_program.specs.declared.program.Method.{Method}
use Rattle.px_program.specs.declared.program.Program.{Program}
use Rattle.px_link_reach.specs.Bodies.{no_body, whole_at}
use Rattle.px_link_reach.specs.Met.{IsBody, operand_at, target_of}
use Rattle.px_link_reach.specs.declared.body.Whole.{Whole}
use Rattle.px_sig.specs.declared.sig.SigType.{SigType}
use Rattle.px_tables.specs.Metadata.{View}
use Rattle.px_link_types.specs.declared.key.Key.{Key}
use Rattle.px_link_types.specs.declared.key.Leaf.{Leaf}
use Rattle.px_link_types.specs.declared.key.Leaf.TheVariants.{Defined}
use Rattle.px_link_types.specs.Keys.{alone, class_of, place_key}
use Rattle.px_link_types.specs.Making.{AreNumberedIn}
use Rattle.px_link_types.specs.Numbers.{is_numbered, leaf_keys}
use Rattle.px_link_types.proofs.Closed.{each-back, each-front}
use Rattle.px_link_types.proofs.Formed.{place_fits}
use Rattle.px_link.proofs.Bodies.{HasStarts, IsPlacedAs, all_fit, all_ranges, all_starts, follow}
use Rattle.px_link.proofs.LinkedCodes.{FitsWith, operand_fits}
use Rattle.px_link.proofs.LinkedOperands.{HasNumbered, IsClass, IsMet, class_class}
use Rattle.px_link.proofs.LinkedTypes.{number_fits}
use Rattle.px_link_methods.proofs.RowPlaces.{each_of_flat_map}

-- the rows that an instruction calls are among those of the program
abbrev pub HasTargets : View → Numbering → RawInstr → Type 0
HasTargets v n raw = AllByRecursion (λ target. is_in n.rows target ≡ true) (target_of v raw)

-- all types that a method meets have numbers, and all that its instructions call are there
pub record AreMetIn (v : View) (n : Numbering) (row : ℕ) (whole : Whole) : Type 0 where
  pub keys : AreNumberedIn n.keys (met_by v (row, whole))
  pub calls : AllByRecursion (HasTargets v n) whole.body.code

-- THE BODY

placed_as : (v : View) (n : Numbering) (forms : Forms) (xs : List RawInstr) (ys : List Instr) → AllZip (IsInstr v n forms) xs ys → AllZip IsPlacedAs xs ys
placed_as v n forms [] [] are = tt
placed_as v n forms [] (y ∷ ys) are = absurd are
placed_as v n forms (x ∷ xs) [] are = absurd are
placed_as v n forms (x ∷ xs) (y ∷ ys) are = (record { offset = are.0.offset; next = are.0.next }, placed_as v n forms xs ys are.1)

-- the instructions follow each other, and lead and range well, with clauses for any classes
record LeadsWell (class_of : RawClause → Option ℕ) (body : Body) (ys : List Instr) : Type 0 where
  pub follow : made.Follow 0 ys
  pub starts : AllByRecursion (HasStarts ys) body.code
  pub ranges : list_all (made.is_placed ys) (map (λ c. clause_of (class_of c) c) body.clauses) ≡ true
  pub few : length body.clauses < 2 ^ 32

leads_empty : (class_of : RawClause → Option ℕ) (ys : List Instr) → AllZip IsPlacedAs no_body.body.code ys → LeadsWell class_of no_body.body ys
leads_empty class_of [] placed = record { follow = tt; starts = tt; ranges = refl; few = omega arith }
leads_empty class_of (y ∷ ys) placed = absurd placed

leads_formed : (class_of : RawClause → Option ℕ) (body : Body) (ys : List Instr) → AllZip IsPlacedAs body.code ys → IsFormedBody body → LeadsWell class_of body ys
leads_formed class_of body ys placed formed = record {
  follow = follow 0 body.code ys placed formed.follow;
  starts = all_starts body ys placed formed;
  ranges = all_ranges body.code ys placed class_of body.clauses formed.ranges;
  few = formed.few;
}

-- a method without a body is read as one without instructions
read_empty : (v : View) (image : pe.View) (row : ℕ) (whole : Whole) → IsBody v image row whole → cell v methods row 0 ≡ 0 → no_body ≡ whole
read_empty v image row whole body none =
    let read : whole_at v image row ≡ Ok no_body = cond-true (cell v methods row 0 == 0) (Ok no_body) _ (eq-eqb (cell v methods row 0) 0 none) in
    let same : ◌≡◌ {A = Result Whole PlacedFault} (Ok no_body) (Ok whole) = sym read ∙ body.read in
    cc

leads_well : (v : View) (image : pe.View) (row : ℕ) (whole : Whole) (class_of : RawClause → Option ℕ) (ys : List Instr) → IsBody v image row whole → AllZip IsPlacedAs whole.body.code ys → LeadsWell class_of whole.body ys
leads_well v image row whole class_of ys body placed =
    ⊎_elim
    (λ none. subst (λ (w : Whole). AllZip IsPlacedAs w.body.code ys → LeadsWell class_of w.body ys) (read_empty v image row whole body none) (leads_empty class_of ys) placed)
    (λ some. leads_formed class_of whole.body ys placed (body.formed some))
    (cases_eq (cell v methods row 0) 0)

module _ (v : View) (image : pe.View) (n : Numbering) (program : Program) (has : HasNumbered v image n program) where
  abbrev IsNumbered : Key → Type 0
  IsNumbered key = is_numbered n.keys key ≡ true

  -- INSTRUCTIONS

  token_fits : (p : ℕ → Bool) (raw : RawInstr) (code : Code) (o : Option Operand) → operand_at v raw ≡ o → FitsWith v image n program has p raw.opcode o → AreNumberedIn n.keys (keys_of_instr v raw) → HasTargets v n raw
      → IsTokenCode v n raw o code → Fits p program code
  token_fits p raw code None e fits keys targets is = subst (Fits p program) (sym is.is) (record { leads = refl; operands = tt })
  token_fits p raw code (Some o) e fits keys targets is =
      let met : IsMet v n o = record { keys = rw e at keys; methods = rw e at targets } in
      subst (Fits p program) (sym is) (fits met)

  code_fits : (p : ℕ → Bool) (forms : Forms) (raw : RawInstr) (code : Code) (plain : Option Code) → FitsIf p program plain → AreNumberedIn n.keys (keys_of_instr v raw) → HasTargets v n raw
      → IsCode v n forms raw plain code → Fits p program code
  code_fits p forms raw code None fits keys targets is = token_fits p raw code (operand_at v raw) refl (operand_fits v image n program has p raw.opcode (raw.operand % 2 ^ 32)) keys targets is
  code_fits p forms raw code (Some plain) fits keys targets is =
      subst (Fits p program) (sym is) (cond_both (is_barred forms plain) (outside raw.opcode) plain (Fits p program) (λ e. record { leads = refl; operands = tt }) (λ e. fits))

  all_codes : (all : List Instr) (forms : Forms) (xs : List RawInstr) (ys : List Instr) → AllZip (IsInstr v n forms) xs ys → AllByRecursion (HasStarts all) xs
      → AllByRecursion (λ raw. AreNumberedIn n.keys (keys_of_instr v raw)) xs → AllByRecursion (HasTargets v n) xs → AllByRecursion (λ i. Fits (made.is_start all) program i.code) ys
  all_codes all forms [] [] are starts keys calls = tt
  all_codes all forms [] (y ∷ ys) are starts keys calls = absurd are
  all_codes all forms (x ∷ xs) [] are starts keys calls = absurd are
  all_codes all forms (x ∷ xs) (y ∷ ys) are starts keys calls =
      let p = made.is_start all in (
        code_fits p forms x y.code (plain_code x) (plain_fits p program x starts.0.all starts.0.first) keys.0 calls.0 are.0.code,
        all_codes all forms xs ys are.1 starts.1 keys.1 calls.1,
      )

  -- PLACES

  types_fit : (types : List SigType) → AreNumberedIn n.keys (map (place_key v) types) → AllByRecursion (made.FitsPlace program.types) (map (place_of_type v n.keys) types)
  types_fit [] are = tt
  types_fit (type ∷ types) are = (place_fits n.keys program.types has.types.count (place_key v type).depth (place_key v type).leaf are.0, types_fit types are.1)

  return_fits : (type : SigType) → IsNumbered (place_key v type) → IfSome (return_place v n.keys type) (made.FitsPlace program.types)
  return_fits type is =
      cond_both (is_void type) None (Some (place_of_type v n.keys type)) (λ o. IfSome o (made.FitsPlace program.types)) (λ e. tt)
      (λ e. place_fits n.keys program.types has.types.count (place_key v type).depth (place_key v type).leaf is)

  -- CLAUSES

  caught_class : (raw : RawClause) → IsClass (caught v raw)
  caught_class raw = cond_both (raw.flags == 0) (class_of v raw.class) None IsClass (λ e. class_class v raw.class) (λ e. tt)

  class_fits : (leaf : Option Leaf) → IsClass leaf → AreNumberedIn n.keys (leaf_keys leaf) → IfSome (class_number n.keys leaf) (λ class. class < length program.types)
  class_fits None class are = tt
  class_fits (Some leaf) class are = number_fits v n.keys program.types has.types (alone leaf) class are.0

  classes_fit : (clauses : List RawClause) → AllByRecursion (λ raw. AreNumberedIn n.keys (keys_of_clause v raw)) clauses
      → AllByRecursion (λ c. IfSome c.class (λ class. class < length program.types)) (map (linked_clause v n.keys) clauses)
  classes_fit [] are = tt
  classes_fit (raw ∷ clauses) are = (class_fits (caught v raw) (caught_class raw) are.0, classes_fit clauses are.1)

  -- THE METHOD

  pub method_formed : (row : ℕ) (whole : Whole) (method : Method) → IsBody v image row whole → IsMethod v n row whole method → AreMetIn v n row whole → made.IsFormedIn program method
  method_formed row whole method body is met =
      let owner = owner_of v methods row in
      let sig_keys = map (place_key v) is.sig.params ++ place_key v is.sig.ret ∷ [] in
      let in_code = flat_map (keys_of_instr v) whole.body.code in
      let in_clauses = flat_map (keys_of_clause v) whole.body.clauses in
      let of_sig : AreNumberedIn n.keys sig_keys = subst (λ s. AreNumberedIn n.keys (keys_of_sig v s)) is.has_sig (each-front IsNumbered (keys_of_sig v (sig_at v row)) (keys_of_body v whole) met.keys.1) in
      let of_body = each-back IsNumbered (keys_of_sig v (sig_at v row)) (keys_of_body v whole) met.keys.1 in
      let of_rest = each-back IsNumbered (map (place_key v) whole.locals) (in_code ++ in_clauses) of_body in
      let of_code = each_of_flat_map IsNumbered (keys_of_instr v) whole.body.code (each-front IsNumbered in_code in_clauses of_rest) in
      let of_clauses = each_of_flat_map IsNumbered (keys_of_clause v) whole.body.clauses (each-back IsNumbered in_code in_clauses of_rest) in
      let below : owner_number v n.keys owner < length program.types = number_fits v n.keys program.types has.types (alone (Defined owner)) refl met.keys.0 in
      let forms = forms_of v is.sig whole.locals in
      let leads = leads_well v image row whole (λ c. class_number n.keys (caught v c)) method.code body (placed_as v n forms whole.body.code method.code is.code) in
      let codes = all_fit (made.is_start method.code) program method.code (all_codes method.code forms whole.body.code method.code is.code leads.starts of_code met.calls) in
      record {
        formed = record {
          follow = leads.follow;
          lead = codes.0;
          ranges = subst (λ cs. list_all (made.is_placed method.code) cs ≡ true) (sym is.clauses) leads.ranges;
        };
        few_clauses = omega (arith, ap length is.clauses, length-map whole.body.clauses (linked_clause v n.keys), leads.few);
        owner = omega (arith, below, is.owner);
        params =
            subst (λ ps. AllByRecursion (made.FitsPlace program.types) ps) (sym is.params)
            (types_fit is.sig.params (each-front IsNumbered (map (place_key v) is.sig.params) (place_key v is.sig.ret ∷ []) of_sig));
        ret = subst (λ r. IfSome r (made.FitsPlace program.types)) (sym is.ret) (return_fits is.sig.ret (each-back IsNumbered (map (place_key v) is.sig.params) (place_key v is.sig.ret ∷ []) of_sig).0);
        locals = subst (λ ps. AllByRecursion (made.FitsPlace program.types) ps) (sym is.locals) (types_fit whole.locals (each-front IsNumbered (map (place_key v) whole.locals) (in_code ++ in_clauses) of_body));
        operands = codes.1;
        classes = subst (λ cs. AllByRecursion (λ c. IfSome c.class (λ class. class < length program.types)) cs) (sym is.clauses) (classes_fit whole.body.clauses of_clauses);
      }
