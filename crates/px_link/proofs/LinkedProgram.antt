-- The types and methods of a linked program are well formed, where its methods have all that they call.
use Rattle.std.proofs.Common.{◌≡◌, ℕ, ◌^◌, ◌<◌, true, List, [], ◌∷◌, length, Some, refl, sym, ap, ◌∙◌, subst, arith}
use Rattle.std.specs.Prelude.{◌==◌, Ok, slice_get}
use Rattle.std.specs.List.{AllByRecursion, AllZip, flat_map, zip}
use Rattle.std.proofs.lemmas.Bool.{cond_both}
use Rattle.std.proofs.lemmas.List.{length-map}
use Rattle.std.proofs.lemmas.Slice.Zip.{AllZip-long, firsts-zip}
use Rattle.px_code.specs.declared.body.RawInstr.{RawInstr}
use Rattle.px_meta.specs.Members.{owner_of}
use Rattle.px_meta.specs.Rows.{is_in, methods}
use Rattle.px_link_methods.specs.Codes.{Numbering, place_of}
use Rattle.px_link_methods.specs.Methods.{AreMethods, IsMethod, met_by}
use Rattle.px_pe.specs.Image as pe
use Rattle.px_program.specs.Formed.{AreTypes, CanBegin, HasMethod, IsFormedIn, IsWellFormed, Overrides}
use Rattle.px_program.specs.declared.program.Method.{Method}
use Rattle.px_program.specs.declared.program.Program.{Program}
use Rattle.px_program.specs.Overriding.{AreByFirst}
use Rattle.px_program.specs.declared.program.TypeInfo.{TypeInfo}
use Rattle.px_program.proofs.Types.{each-weaken, each_at}
use Rattle.px_link_reach.specs.Bodies.{whole_at}
use Rattle.px_link_reach.specs.Met.{IsBody, calls_at, calls_of, in_body, target_of, with_overriders}
use Rattle.px_link_reach.specs.declared.body.Whole.{Whole}
use Rattle.px_tables.specs.Metadata.{View}
use Rattle.px_link_types.specs.declared.key.Leaf.TheVariants.{Defined}
use Rattle.px_link_types.specs.Keys.{alone}
use Rattle.px_link_types.specs.Making.{AreNumberedIn}
use Rattle.px_link_types.specs.Numbers.{has_key, is_numbered}
use Rattle.px_link_types.proofs.Closed.{grows}
use Rattle.px_link_types.proofs.Formed.{has_by}
use Rattle.px_link.specs.Link.{Reads}
use Rattle.px_link.specs.Overrides.{in_order}
use Rattle.px_link.proofs.LinkedMethods.{AreMetIn, HasTargets, method_formed}
use Rattle.px_link.proofs.LinkedOperands.{HasLinked, HasNumbered}
use Rattle.px_link.proofs.LinkedTypes.{HasDefined, defined_type, have_types, linked_types}
use Rattle.px_link_methods.proofs.RowPlaces.{at_place_of, at_zip, beside, each_in, each_of_flat_map, in_flat_map}

-- CALLS

-- all that the methods of some rows call is among them
abbrev pub IsClosed : View → pe.View → List (List ℕ) → List ℕ → Type 0
IsClosed v image lists rows = (row target : ℕ) → is_in rows row ≡ true → is_in (calls_at v image lists row) target ≡ true → is_in rows target ≡ true

-- the same by the instructions of their bodies
abbrev pub IsClosedByInstr : View → pe.View → List (List ℕ) → List ℕ → Type 0
IsClosedByInstr v image lists rows =
    (row : ℕ) (whole : Whole) (k : ℕ) (raw : RawInstr) (target : ℕ) → is_in rows row ≡ true → whole_at v image row ≡ Ok whole → slice_get whole.body.code k ≡ Some raw → is_in (calls_of v lists raw) target ≡ true
    → is_in rows target ≡ true

-- a body has all that its method calls
calls_are : (v : View) (image : pe.View) (lists : List (List ℕ)) (row : ℕ) (whole : Whole) → whole_at v image row ≡ Ok whole → calls_at v image lists row ≡ flat_map (calls_of v lists) whole.body.code
calls_are v image lists row whole read = ap (in_body (calls_of v lists)) read

pub closed_by_instr : (v : View) (image : pe.View) (lists : List (List ℕ)) (rows : List ℕ) (bodies : List Whole) → AllZip (IsBody v image) rows bodies → IsClosedByInstr v image lists rows → IsClosed v image lists rows
closed_by_instr v image lists rows bodies are closed row target there calls =
    let body = beside (IsBody v image) rows bodies are (place_of rows row) row (at_place_of rows row there) in
    let found = in_flat_map (calls_of v lists) body.0.body.code target (subst (λ l. is_in l target ≡ true) (calls_are v image lists row body.0 body.1.1.read) calls) in
    closed row body.0 found.0 found.1.0 target there body.1.1.read found.1.1.0 found.1.1.1

-- what an instruction calls begins with the method that its token names
target_in_calls : (P : ℕ → Type 0) (v : View) (lists : List (List ℕ)) (raw : RawInstr) → AllByRecursion P (calls_of v lists raw) → AllByRecursion P (target_of v raw)
target_in_calls P v lists raw =
    cond_both (raw.opcode == 0x6F) (flat_map (with_overriders lists) (target_of v raw)) (target_of v raw) (λ l. AllByRecursion P l → AllByRecursion P (target_of v raw))
    (λ e each. heads (target_of v raw) (each_of_flat_map P (with_overriders lists) (target_of v raw) each)) (λ e each. each)
  where
    heads : (xs : List ℕ) → AllByRecursion (λ x. AllByRecursion P (with_overriders lists x)) xs → AllByRecursion P xs
    heads [] each = tt
    heads (x ∷ xs) each = (each.0.0, heads xs each.1)

-- the calls of a body lead to rows of the program
all_targets : (v : View) (image : pe.View) (n : Numbering) (lists : List (List ℕ)) (row : ℕ) (whole : Whole) → IsClosed v image lists n.rows → is_in n.rows row ≡ true → IsBody v image row whole
    → AllByRecursion (HasTargets v n) whole.body.code
all_targets v image n lists row whole closed there body =
    let In : ℕ → Type 0 = λ target. is_in n.rows target ≡ true in
    let each = each_in In (calls_at v image lists row) (λ target calls. closed row target there calls) in
    each-weaken (λ raw. AllByRecursion In (calls_of v lists raw)) (HasTargets v n) (target_in_calls In v lists) whole.body.code
    (each_of_flat_map In (calls_of v lists) whole.body.code (subst (λ l. AllByRecursion In l) (calls_are v image lists row whole body.read) each))

-- METHODS

-- the method of a row
pub has_linked : (v : View) (image : pe.View) (n : Numbering) (bodies : List Whole) (program : Program) → AllZip (IsBody v image) n.rows bodies → AreMethods v n bodies program.methods
    → (row : ℕ) → is_in n.rows row ≡ true → HasLinked v image n program row
has_linked v image n bodies program are linked row there =
    let place = at_place_of n.rows row there in
    let body = beside (IsBody v image) n.rows bodies are (place_of n.rows row) row place in
    let method = beside (λ (pair : ℕ × Whole) (method : Method). IsMethod v n pair.0 pair.1 method) (zip n.rows bodies) program.methods linked (place_of n.rows row) (row, body.0) (at_zip n.rows bodies (place_of n.rows row) row body.0 place body.1.0) in
    record { whole = body.0; method = method.0; at = method.1.0; body = body.1.1; is = method.1.1 }

-- a program has as many methods as it has rows
pub same_count : (v : View) (image : pe.View) (n : Numbering) (bodies : List Whole) (program : Program) → AllZip (IsBody v image) n.rows bodies → AreMethods v n bodies program.methods → length program.methods ≡ length n.rows
same_count v image n bodies program are linked =
    AllZip-long (λ (pair : ℕ × Whole) (method : Method). IsMethod v n pair.0 pair.1 method) (zip n.rows bodies) program.methods linked
    ∙ sym (length-map (zip n.rows bodies) (λ (pair : ℕ × Whole). pair.0)) ∙ ap length (firsts-zip n.rows bodies (AllZip-long (IsBody v image) n.rows bodies are))

all_formed : (v : View) (image : pe.View) (n : Numbering) (lists : List (List ℕ)) (program : Program) → HasNumbered v image n program → IsClosed v image lists n.rows
    → (rows : List ℕ) (bodies : List Whole) (made : List Method) → AllByRecursion (λ row. is_in n.rows row ≡ true) rows → AllZip (IsBody v image) rows bodies → AllByRecursion (λ pair. AllByRecursion (λ key. is_numbered n.keys key ≡ true) (met_by v pair)) (zip rows bodies)
    → AllZip (λ (pair : ℕ × Whole) (method : Method). IsMethod v n pair.0 pair.1 method) (zip rows bodies) made → AllByRecursion (IsFormedIn program) made
all_formed v image n lists program has closed [] [] [] there are keys linked = tt
all_formed v image n lists program has closed [] [] (m ∷ made) there are keys linked = absurd linked
all_formed v image n lists program has closed [] (b ∷ bodies) made there are keys linked = absurd are
all_formed v image n lists program has closed (row ∷ rows) [] made there are keys linked = absurd are
all_formed v image n lists program has closed (row ∷ rows) (b ∷ bodies) [] there are keys linked = absurd linked
all_formed v image n lists program has closed (row ∷ rows) (b ∷ bodies) (m ∷ made) there are keys linked =
    let met : AreMetIn v n row b = record { keys = keys.0; calls = all_targets v image n lists row b closed there.0 are.0 } in
    (method_formed v image n program has row b m are.0 linked.0 met, all_formed v image n lists program has closed rows bodies made there.1 are.1 keys.1 linked.1)

-- THE PROGRAM

abbrev pub numbering_of : {v : View} {image : pe.View} {name : List ℕ} {program : Program} → Reads v image name program → Numbering
numbering_of r = record { keys = r.keys; rows = r.reached.rows }

pub has_numbered : (v : View) (image : pe.View) (name : List ℕ) (program : Program) → (r : Reads v image name program) → HasNumbered v image (numbering_of r) program
has_numbered v image name program r = record {
  types = have_types v (numbering_of r) r.lists (in_order r.reached.rows r.reached.virtual_targets) program.types r.types;
  methods = has_linked v image (numbering_of r) r.reached.bodies program r.is_reached.bodies r.methods;
}

pub types_formed : (v : View) (image : pe.View) (name : List ℕ) (program : Program) → (r : Reads v image name program) → AreTypes r.types.bare → AreTypes program.types
types_formed v image name program r = linked_types v (numbering_of r) r.lists (in_order r.reached.rows r.reached.virtual_targets) program.types r.types

pub few_methods : (v : View) (image : pe.View) (name : List ℕ) (program : Program) → (r : Reads v image name program) → length r.reached.rows < 2 ^ 32 → length program.methods < 2 ^ 32
few_methods v image name program r few = omega (arith, same_count v image (numbering_of r) r.reached.bodies program r.is_reached.bodies r.methods)

-- all types that the methods meet have numbers
pub all_numbered : (v : View) (image : pe.View) (name : List ℕ) (program : Program) → (r : Reads v image name program) → AllByRecursion (λ pair. AreNumberedIn r.keys (met_by v pair)) (zip r.reached.rows r.reached.bodies)
all_numbered v image name program r = each_of_flat_map (λ key. is_numbered r.keys key ≡ true) (met_by v) (zip r.reached.rows r.reached.bodies) (grows r.numbers).met_numbered

-- the owner of a method of the program has a number
pub owner_numbered : (v : View) (image : pe.View) (name : List ℕ) (program : Program) → (r : Reads v image name program) → (row : ℕ) → is_in r.reached.rows row ≡ true → has_key r.keys (alone (Defined (owner_of v methods row))) ≡ true
owner_numbered v image name program r row there =
    let rows = r.reached.rows in
    let place = at_place_of rows row there in
    let body = beside (IsBody v image) rows r.reached.bodies r.is_reached.bodies (place_of rows row) row place in
    let numbered = each_at (λ pair. AreNumberedIn r.keys (met_by v pair)) (zip rows r.reached.bodies) (all_numbered v image name program r) (place_of rows row) (row, body.0) (at_zip rows r.reached.bodies (place_of rows row) row body.0 place body.1.0) in
    has_by r.keys (alone (Defined (owner_of v methods row))) refl numbered.0

-- and is one of its types
pub owner_defined : (v : View) (image : pe.View) (name : List ℕ) (program : Program) → (r : Reads v image name program) → (row : ℕ) → is_in r.reached.rows row ≡ true → HasDefined v r.keys program.types (owner_of v methods row)
owner_defined v image name program r row there = defined_type v r.keys program.types (has_numbered v image name program r).types (owner_of v methods row) (owner_numbered v image name program r row there)

pub methods_formed : (v : View) (image : pe.View) (name : List ℕ) (program : Program) → (r : Reads v image name program) → IsClosed v image r.lists r.reached.rows → AllByRecursion (IsFormedIn program) program.methods
methods_formed v image name program r closed =
    all_formed v image (numbering_of r) r.lists program (has_numbered v image name program r) closed r.reached.rows r.reached.bodies program.methods
    (each_in (λ row. is_in r.reached.rows row ≡ true) r.reached.rows (λ row there. there)) r.is_reached.bodies (all_numbered v image name program r) r.methods

-- Where its methods have all that they call, a program is well formed if its entry can begin and each method that takes the place of another may.
pub well_formed_by : (v : View) (image : pe.View) (name : List ℕ) (program : Program) → (r : Reads v image name program) → AreTypes r.types.bare → length r.reached.rows < 2 ^ 32 → IsClosed v image r.lists r.reached.rows
    → HasMethod (CanBegin program) program program.entry → ((type : ℕ) (info : TypeInfo) → slice_get program.types type ≡ Some info → AllByRecursion (Overrides program type) info.overrides)
    → AllByRecursion (λ (info : TypeInfo). AreByFirst info.overrides) program.types → IsWellFormed program
well_formed_by v image name program r types few closed entry overrides by_first = record {
  types = types_formed v image name program r types;
  few_methods = few_methods v image name program r few;
  entry = entry;
  methods = methods_formed v image name program r closed;
  overrides = overrides;
  by_first = by_first;
}
