-- The clauses of a linked program's methods have ranges that aren't empty, and classes that an assembly can name.
use Rattle.std.proofs.Common.{◌≡◌, ◌⊎◌, inl, inr, ℕ, ◌<◌, true, List, [], ◌∷◌, ◌++◌, map, Option, Some, None, Result, Ok, refl, sym, ◌∙◌, subst, ⊎_elim, arith, eq-eqb}
use Rattle.std.specs.Prelude.{◌==◌, ◌&&◌, ◌||◌, IfSome, nat_lt, slice_get}
use Rattle.std.specs.List.{AllByRecursion, flat_map, list_all, zip}
use Rattle.std.proofs.lemmas.Bool.{and_parts, cases_eq, cond-true, cond_both, ltb-true}
use Rattle.px_code.specs.Body.{end_of, is_among, is_placed, is_range, is_start}
use Rattle.px_code.specs.Reading.{PlacedFault}
use Rattle.px_code.specs.declared.body.RawClause.{RawClause}
use Rattle.px_code.specs.declared.body.RawInstr.{RawInstr}
use Rattle.px_link.proofs.LinkedOperands.{IsClass, class_class}
use Rattle.px_link_methods.proofs.RowPlaces.{at_zip, each_of_flat_map}
use Rattle.px_meta.specs.Rows.{cell, is_in, methods}
use Rattle.px_link_methods.specs.Methods.{caught, class_number, keys_of_body, keys_of_clause, keys_of_instr, keys_of_sig, linked_clause, met_by, sig_at}
use Rattle.px_pe.specs.Image as pe
use Rattle.px_program.proofs.Types.{each_at}
use Rattle.px_program.specs.declared.program.Method.{Method}
use Rattle.px_program.specs.declared.program.Program.{Program}
use Rattle.px_link_reach.specs.Bodies.{no_body, whole_at}
use Rattle.px_link_reach.specs.Met.{IsBody}
use Rattle.px_link_reach.specs.declared.body.Whole.{Whole}
use Rattle.px_tables.specs.Metadata.{View}
use Rattle.px_link_types.proofs.Closed.{each-back, grows}
use Rattle.px_link_types.proofs.Formed.{has_by}
use Rattle.px_link_types.specs.Keys.{alone, class_of, place_key}
use Rattle.px_link_types.specs.Making.{AreNumberedIn}
use Rattle.px_link_types.specs.Numbers.{is_numbered, leaf_keys}
use Rattle.px_link_types.specs.declared.key.Key.{Key}
use Rattle.px_link_types.specs.declared.key.Leaf.{Leaf}
use Rattle.px_link_types.specs.declared.key.Leaf.TheVariants.{Number, Library, Defined}
use Rattle.px_asm_law_relink.proofs.WritingMethods.{each_at_place, has_row}
use Rattle.px_asm_law_relink.proofs.WritingTypes.{library_few, library_number, type_placed}
use Rattle.px_asm_law_relink.specs.Linked.{IsLinked}
use Rattle.px_asm_described.specs.Writable.{IsWritableClause}

-- RANGES

-- neither range of a clause is empty
record AreSome (raw : RawClause) : Type 0 where
  tried : raw.from < raw.to
  handled : raw.start < raw.stop

some_range : (code : List RawInstr) (from to : ℕ) → is_range code from to ≡ true → from < to
some_range code from to is =
    let front = and_parts (nat_lt from to && is_start code from) (is_start code to || (to == end_of code)) is in
    ltb-true from to (and_parts (nat_lt from to) (is_start code from) front.0).0

some_ranges : (code : List RawInstr) (raw : RawClause) → is_placed code raw ≡ true → AreSome raw
some_ranges code raw is =
    let known = is_among ((0, 2) ∷ (4, 4) ∷ []) raw.flags in
    let last = and_parts (known && is_range code raw.from raw.to) (is_range code raw.start raw.stop) is in
    let first = and_parts known (is_range code raw.from raw.to) last.0 in
    record { tried = some_range code raw.from raw.to first.1; handled = some_range code raw.start raw.stop last.1 }

all_some : (code : List RawInstr) (clauses : List RawClause) → list_all (is_placed code) clauses ≡ true → AllByRecursion AreSome clauses
all_some code [] are = tt
all_some code (raw ∷ clauses) are =
    let parts = and_parts (is_placed code raw) (list_all (is_placed code) clauses) are in
    (some_ranges code raw parts.0, all_some code clauses parts.1)

-- a method without a body has no clauses
read_empty : (v : View) (image : pe.View) (row : ℕ) (whole : Whole) → IsBody v image row whole → cell v methods row 0 ≡ 0 → no_body ≡ whole
read_empty v image row whole body none =
    let read : whole_at v image row ≡ Ok no_body = cond-true (cell v methods row 0 == 0) (Ok no_body) _ (eq-eqb (cell v methods row 0) 0 none) in
    let same : ◌≡◌ {A = Result Whole PlacedFault} (Ok no_body) (Ok whole) = sym read ∙ body.read in
    cc

body_some : (v : View) (image : pe.View) (row : ℕ) (whole : Whole) → IsBody v image row whole → AllByRecursion AreSome whole.body.clauses
body_some v image row whole body =
    ⊎_elim
    (λ none. subst (λ (w : Whole). AllByRecursion AreSome w.body.clauses) (read_empty v image row whole body none) tt)
    (λ some. all_some whole.body.code whole.body.clauses (body.formed some).ranges)
    (cases_eq (cell v methods row 0) 0)

-- CLASSES

module _ (p : Program) (l : IsLinked p) where
  abbrev v : View
  v = l.assembly.v

  abbrev keys : List Key
  keys = l.assembly.reads.keys

  abbrev IsNamed : ℕ → Type 0
  IsNamed class = (class < 18) ⊎ (is_in p.layout.types class ≡ true)

  class_by : (leaf : Option Leaf) → IsClass leaf → AreNumberedIn keys (leaf_keys leaf) → IfSome (class_number keys leaf) IsNamed
  class_by None class are = tt
  class_by (Some (Number integer)) class are = absurd (cc)
  class_by (Some (Library n)) class are =
      let few : n < 18 = library_few p l n (has_by keys (alone (Library n)) refl are.0) in
      inl (let same = library_number p l n few in omega arith)
  class_by (Some (Defined row)) class are = inr (type_placed p l row (has_by keys (alone (Defined row)) refl are.0))

  caught_class : (raw : RawClause) → IsClass (caught v raw)
  caught_class raw = cond_both (raw.flags == 0) (class_of v raw.class) None IsClass (λ e. class_class v raw.class) (λ e. tt)

  -- the types that a method's clauses catch have numbers
  clauses_numbered : (number row : ℕ) (whole : Whole) → slice_get l.assembly.reads.reached.rows number ≡ Some row → slice_get l.assembly.reads.reached.bodies number ≡ Some whole → AllByRecursion (λ raw. AreNumberedIn keys (keys_of_clause v raw)) whole.body.clauses
  clauses_numbered number row whole at body_at =
      let rows = l.assembly.reads.reached.rows in
      let bodies = l.assembly.reads.reached.bodies in
      let Has : Key → Type 0 = λ key. is_numbered keys key ≡ true in
      let each = each_of_flat_map Has (met_by v) (zip rows bodies) (grows l.assembly.reads.numbers).met_numbered in
      let met = each_at (λ pair. AllByRecursion Has (met_by v pair)) (zip rows bodies) each number (row, whole) (at_zip rows bodies number row whole at body_at) in
      let code = flat_map (keys_of_instr v) whole.body.code in
      let clauses = flat_map (keys_of_clause v) whole.body.clauses in
      let body = each-back Has (keys_of_sig v (sig_at v row)) (keys_of_body v whole) met.1 in
      each_of_flat_map Has (keys_of_clause v) whole.body.clauses (each-back Has code clauses (each-back Has (map (place_key v) whole.locals) (code ++ clauses) body))

  -- CLAUSES

  both : (clauses : List RawClause) → AllByRecursion AreSome clauses → AllByRecursion (λ raw. AreNumberedIn keys (keys_of_clause v raw)) clauses → AllByRecursion (IsWritableClause p) (map (linked_clause v keys) clauses)
  both [] some numbered = tt
  both (raw ∷ clauses) some numbered =
      (record { tried = some.0.tried; handled = some.0.handled; class = class_by (caught v raw) (caught_class raw) numbered.0 }, both clauses some.1 numbered.1)

  method_clauses : (number : ℕ) (method : Method) → slice_get p.methods number ≡ Some method → AllByRecursion (IsWritableClause p) method.clauses
  method_clauses number method at =
      let m = has_row l number method at in
      subst (AllByRecursion (IsWritableClause p)) (sym m.is.clauses)
      (both m.whole.body.clauses (body_some v l.assembly.image m.row m.whole m.body) (clauses_numbered number m.row m.whole m.at m.whole_at))

  pub clauses_are : AllByRecursion (λ (method : Method). AllByRecursion (IsWritableClause p) method.clauses) p.methods
  clauses_are = each_at_place (λ (method : Method). AllByRecursion (IsWritableClause p) method.clauses) p.methods method_clauses
