-- What a linked program is given: sixteen arguments at most, each an integer or an array of integers.
use Rattle.std.proofs.Common.{◌≡◌, ℕ, zero, suc, ◌+◌, ◌≤◌, true, List, [], ◌∷◌, length, map, Some, None, refl, sym, ap, ◌∙◌, subst, arith}
use Rattle.std.specs.Prelude.{◌==◌, ◌||◌, nat_le, not, slice_get}
use Rattle.std.specs.List.{list_all, zip}
use Rattle.std.proofs.lemmas.Bool.{and_from, and_parts, cond_both, eqb-false, leb-true, not-false, or_parts}
use Rattle.std.proofs.lemmas.List.{length-map}
use Rattle.px_pe.specs.Image as pe
use Rattle.px_program.proofs.Types.{each_at}
use Rattle.px_program.specs.Arguments.{AreGiven, arguments_of, can_be_given, has_integers, is_integer_element}
use Rattle.px_program.specs.Arguments as given
use Rattle.px_program.specs.declared.program.Program.{Program}
use Rattle.px_program.specs.declared.program.TypeInfo.{TypeInfo}
use Rattle.px_sig.specs.declared.sig.Integer.{Integer}
use Rattle.px_sig.specs.declared.sig.Integer.TheVariants as integers
use Rattle.px_sig.specs.declared.sig.SigType.{SigType}
use Rattle.px_sig.specs.declared.sig.SigLeaf.{SigLeaf}
use Rattle.px_sig.specs.declared.sig.SigLeaf.TheVariants.{Void, Int, Str, Object, Class, Other}
use Rattle.px_tables.specs.Metadata.{View}
use Rattle.px_link_types.proofs.Closed.{each-front}
use Rattle.px_link_types.proofs.Formed.{has_by}
use Rattle.px_link_types.specs.Keys.{alone, key_of, key_or_object, place_key}
use Rattle.px_link_types.specs.Making.{AreNumberedIn}
use Rattle.px_link_types.specs.Numbers.{has_key, integer_place, is_numbered, number_of, place_in}
use Rattle.px_link_types.specs.declared.key.Key.{Key}
use Rattle.px_link_types.specs.declared.key.Leaf.TheVariants.{Number}
use Rattle.px_link_methods.proofs.RowPlaces.{at_zip, beside}
use Rattle.px_link_methods.specs.Methods.{keys_of_body, keys_of_sig, met_by, place_of_type, sig_at}
use Rattle.px_link_reach.specs.Met.{IsBody}
use Rattle.px_link.specs.Link.{Reads, is_argument, is_integer, unfit_from}
use Rattle.px_link.proofs.LinkedEntry.{arguments_are}
use Rattle.px_link.proofs.LinkedProgram.{all_numbered, has_numbered}
use Rattle.px_link.proofs.LinkedTypes.{HaveTypes, StandsFor, type_of}

-- INTEGERS

integer_given : (types : List TypeInfo) (integer : Integer) → can_be_given types (integer_place integer) ≡ true
integer_given types integers.Bool = refl
integer_given types integers.Char = refl
integer_given types integers.I1 = refl
integer_given types integers.U1 = refl
integer_given types integers.I2 = refl
integer_given types integers.U2 = refl
integer_given types integers.I4 = refl
integer_given types integers.U4 = refl
integer_given types integers.I8 = refl
integer_given types integers.U8 = refl
integer_given types integers.N = refl
integer_given types integers.UN = refl

integer_is : (integer : Integer) → given.is_integer (integer_place integer) ≡ true
integer_is integers.Bool = refl
integer_is integers.Char = refl
integer_is integers.I1 = refl
integer_is integers.U1 = refl
integer_is integers.I2 = refl
integer_is integers.U2 = refl
integer_is integers.I4 = refl
integer_is integers.U4 = refl
integer_is integers.I8 = refl
integer_is integers.U8 = refl
integer_is integers.N = refl
integer_is integers.UN = refl

-- an array of integers
abbrev row_of : Integer → Key
row_of integer = record { depth = 1; leaf = Number integer }

array_given : (v : View) (keys : List Key) (types : List TypeInfo) → HaveTypes v keys types → (integer : Integer) → has_key keys (row_of integer) ≡ true → has_integers (slice_get types (number_of keys (row_of integer))) ≡ true
array_given v keys types have integer has =
    let found = type_of v keys types have (row_of integer) has in
    let stands : StandsFor v keys (row_of integer) found.0 = found.1.1 in
    ap has_integers found.1.0 ∙ ap is_integer_element (stands.alike.element ∙ ap (λ (t : TypeInfo). t.element) stands.info) ∙ integer_is integer

-- TYPES OF A SIGNATURE

module _ (v : View) (keys : List Key) (types : List TypeInfo) (have : HaveTypes v keys types) where
  number_given : (type : SigType) (integer : Integer) → key_of v type ≡ Some (alone (Number integer)) → can_be_given types (place_of_type v keys type) ≡ true
  number_given type integer is = ap (λ key. can_be_given types (place_in keys (key_or_object key))) is ∙ integer_given types integer

  row_given : (type : SigType) (integer : Integer) → key_of v type ≡ Some (row_of integer) → is_numbered keys (place_key v type) ≡ true → can_be_given types (place_of_type v keys type) ≡ true
  row_given type integer is numbered =
      let key : place_key v type ≡ row_of integer = ap key_or_object is in
      ap (λ k. can_be_given types (place_in keys k)) key ∙ array_given v keys types have integer (has_by keys (row_of integer) refl (subst (λ k. is_numbered keys k ≡ true) key numbered))

  given_by : (depth : ℕ) (leaf : SigLeaf) → depth ≤ 1 → is_integer leaf ≡ true → is_numbered keys (place_key v (record { depth = depth; leaf = leaf })) ≡ true → can_be_given types (place_of_type v keys (record { depth = depth; leaf = leaf })) ≡ true
  given_by zero (Int integer) few is numbered = number_given (record { depth = 0; leaf = Int integer }) integer refl
  given_by (suc zero) (Int integer) few is numbered = row_given (record { depth = 1; leaf = Int integer }) integer refl numbered
  given_by (suc (suc n)) (Int integer) few is numbered = absurd (omega arith)
  given_by depth Void few is numbered = absurd (cc)
  given_by depth Str few is numbered = absurd (cc)
  given_by depth Object few is numbered = absurd (cc)
  given_by depth (Class at) few is numbered = absurd (cc)
  given_by depth Other few is numbered = absurd (cc)

  all_given : (k : ℕ) (params : List SigType) → unfit_from k params ≡ None → AreNumberedIn keys (map (place_key v) params) → list_all (can_be_given types) (map (place_of_type v keys) params) ≡ true
  all_given k [] fit numbered = refl
  all_given k (type ∷ params) fit numbered =
      cond_both ((k == 16) || not (is_argument type)) (Some k) (unfit_from (k + 1) params) (λ o. o ≡ None → list_all (can_be_given types) (map (place_of_type v keys) (type ∷ params)) ≡ true)
      (λ unfit none. absurd (cc))
      (λ fits none.
      let parts = and_parts (nat_le type.depth 1) (is_integer type.leaf) (not-false (is_argument type) (or_parts (k == 16) (not (is_argument type)) fits).1) in
      and_from (can_be_given types (place_of_type v keys type)) (list_all (can_be_given types) (map (place_of_type v keys) params)) (given_by type.depth type.leaf (leb-true type.depth 1 parts.0) parts.1 numbered.0) (all_given (k + 1) params none numbered.1))
      fit

-- all of some types can be given, sixteen at most
fit_few : (k : ℕ) (types : List SigType) → k ≤ 16 → unfit_from k types ≡ None → k + length types ≤ 16
fit_few k [] within fit = omega arith
fit_few k (type ∷ types) within fit =
    cond_both ((k == 16) || not (is_argument type)) (Some k) (unfit_from (k + 1) types) (λ o. o ≡ None → k + length (type ∷ types) ≤ 16)
    (λ unfit none. absurd (cc))
    (λ fits none.
    let below = eqb-false k 16 (or_parts (k == 16) (not (is_argument type)) fits).0 in
    omega (arith, fit_few (k + 1) types (omega (arith, below)) none))
    fit

-- THE ENTRY

-- the types of the entry's parameters have numbers
params_numbered : (v : View) (image : pe.View) (name : List ℕ) (program : Program) → (r : Reads v image name program) → slice_get r.reached.rows 0 ≡ Some r.method → AreNumberedIn r.keys (map (place_key v) r.sig.params)
params_numbered v image name program r first =
    let rows = r.reached.rows in
    let IsNumbered = λ (key : Key). is_numbered r.keys key ≡ true in
    let body = beside (IsBody v image) rows r.reached.bodies r.is_reached.bodies 0 r.method first in
    let numbered = each_at (λ pair. AreNumberedIn r.keys (met_by v pair)) (zip rows r.reached.bodies) (all_numbered v image name program r) 0 (r.method, body.0) (at_zip rows r.reached.bodies 0 r.method body.0 first body.1.0) in
    let of_sig = each-front IsNumbered (keys_of_sig v (sig_at v r.method)) (keys_of_body v body.0) numbered.1 in
    each-front IsNumbered (map (place_key v) r.sig.params) (place_key v r.sig.ret ∷ []) (subst (λ s. AreNumberedIn r.keys (keys_of_sig v s)) r.entry.found.has_sig of_sig)

-- the arguments of a program are what can be given
pub reads_given : (v : View) (image : pe.View) (name : List ℕ) (program : Program) → (r : Reads v image name program) → slice_get r.reached.rows 0 ≡ Some r.method → AreGiven program.types (arguments_of program)
reads_given v image name program r first =
    subst (AreGiven program.types) (sym (arguments_are v image name program r first))
    (record {
      few = omega (arith, length-map r.sig.params (place_of_type v r.keys), fit_few 0 r.sig.params (omega arith) r.entry.fit);
      each = all_given v r.keys program.types (has_numbered v image name program r).types 0 r.sig.params r.entry.fit (params_numbered v image name program r first);
    })
