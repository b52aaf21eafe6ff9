-- The entry of a linked program can begin.
use Rattle.std.proofs.Common.{◌≡◌, ◌≢◌, ℕ, ◌+◌, Bool, true, false, List, [], ◌∷◌, map, Option, Some, None, refl, sym, ap, ◌∙◌, subst, eqb-true, eq-eqb}
use Rattle.std.specs.Prelude.{◌==◌, ◌&&◌, ◌||◌, not, codes, find, if◌then◌else◌, slice_get}
use Rattle.std.specs.List.{AllByRecursion}
use Rattle.std.specs.Str.{bytes_eq}
use Rattle.std.proofs.lemmas.Bool.{and_parts, cond-true, cond_both, eqb-false, not-true}
use Rattle.std.proofs.lemmas.Option.{same_Some}
use Rattle.px_meta.specs.Members.{owner_of}
use Rattle.px_meta.specs.Rows.{cell, is_in, methods, rows_in, text_at}
use Rattle.px_link_methods.specs.Codes.{Numbering, owner_number, place_of}
use Rattle.px_link_methods.specs.Methods.{IsMethod, place_of_type, sig_at}
use Rattle.px_link_tokens.specs.Operands.{is_there, is_void}
use Rattle.px_pe.specs.Image as pe
use Rattle.px_program.specs.Arguments.{arguments_of, params_in}
use Rattle.px_program.specs.Formed.{CanBegin, HasMethod, IsMaker, MadeBy, entry_of, method_at}
use Rattle.px_program.specs.declared.program.Method.{Method}
use Rattle.px_program.specs.declared.program.Program.{Program}
use Rattle.px_link_reach.specs.declared.body.Whole.{Whole}
use Rattle.px_sig.specs.declared.sig.MethodSig.{MethodSig}
use Rattle.px_tables.specs.Metadata.{View}
use Rattle.px_link_types.specs.Keys.{is_class}
use Rattle.px_link.specs.Link.{Reads, is_maker, is_nil, maker_in, maker_number, rows_of, starts_of, takes_nothing}
use Rattle.px_link.proofs.LinkedOperands.{HasLinked, HasNumbered, has_code, is_instance, no_return, same_sig}
use Rattle.px_link.proofs.LinkedProgram.{has_numbered, numbering_of}
use Rattle.px_link_methods.proofs.RowPlaces.{found_passes, in_at}

-- PARAMETERS

-- the parameters of a method are those of its signature
pub params_are : (v : View) (n : Numbering) (row : ℕ) (whole : Whole) (method : Method) (sig : MethodSig) → IsMethod v n row whole method → sig_at v row ≡ Some sig → method.params ≡ map (place_of_type v n.keys) sig.params
params_are v n row whole method sig is e = is.params ∙ ap (λ (s : MethodSig). map (place_of_type v n.keys) s.params) (same_sig v n row whole method sig is e)

is_static : (v : View) (n : Numbering) (row : ℕ) (whole : Whole) (method : Method) (sig : MethodSig) → IsMethod v n row whole method → sig_at v row ≡ Some sig → sig.has_this ≡ false → method.is_static ≡ true
is_static v n row whole method sig is e this = is.is_static ∙ ap (λ (s : MethodSig). not s.has_this) (same_sig v n row whole method sig is e) ∙ ap not this

-- THE MAKER

-- an instance method that takes nothing and returns nothing
record TakesNothing (v : View) (row : ℕ) : Type 0 where
  pub sig : MethodSig
  pub has_sig : sig_at v row ≡ Some sig
  pub this : sig.has_this ≡ true
  pub void : is_void sig.ret ≡ true
  pub none : sig.params ≡ []

nil_is : {X : Type 0} (xs : List X) → is_nil xs ≡ true → xs ≡ []
nil_is [] is = refl
nil_is (x ∷ xs) is = absurd (cc)

takes : (v : View) (row : ℕ) (sig : Option MethodSig) → sig_at v row ≡ sig → takes_nothing sig ≡ true → TakesNothing v row
takes v row None e is = absurd (cc)
takes v row (Some sig) e is =
    let last = and_parts (sig.has_this && sig.plain && is_void sig.ret) (is_nil sig.params) is in
    let third = and_parts (sig.has_this && sig.plain) (is_void sig.ret) last.0 in
    record { sig = sig; has_sig = e; this = (and_parts sig.has_this sig.plain third.0).0; void = third.1; none = nil_is sig.params last.1 }

-- a constructor of a type that takes nothing
record IsMakerOf (v : View) (type maker : ℕ) : Type 0 where
  pub owner : owner_of v methods maker ≡ type
  pub body : cell v methods maker 0 ≢ 0
  pub takes : TakesNothing v maker

maker_is : (v : View) (type maker : ℕ) → is_maker v type maker ≡ true → IsMakerOf v type maker
maker_is v type maker is =
    let owned = owner_of v methods maker == type in
    let named = bytes_eq (text_at v (cell v methods maker 3)) (codes ".ctor") in
    let body = not (cell v methods maker 0 == 0) in
    let last = and_parts (owned && named && body) (takes_nothing (sig_at v maker)) is in
    let third = and_parts (owned && named) body last.0 in
    record {
      owner = eqb-true (owner_of v methods maker) type (and_parts owned named third.0).0;
      body = eqb-false (cell v methods maker 0) 0 (not-true (cell v methods maker 0 == 0) third.1);
      takes = takes v maker (sig_at v maker) refl last.1;
    }

maker_found : (v : View) (type maker : ℕ) → maker_in v type ≡ Some maker → IsMakerOf v type maker
maker_found v type maker =
    cond_both (is_class v type) (find (is_maker v type) (rows_in v methods)) None (λ o. o ≡ Some maker → IsMakerOf v type maker)
    (λ class found. maker_is v type maker (found_passes (is_maker v type) (rows_in v methods) maker found)) (λ other found. absurd (cc))

module _ (v : View) (image : pe.View) (n : Numbering) (program : Program) (has : HasNumbered v image n program) (row : ℕ) (entry : HasLinked v image n program row) where
  one_maker : (maker : ℕ) → HasLinked v image n program maker → IsMakerOf v (owner_of v methods row) maker → HasMethod (IsMaker entry.method) program (place_of n.rows maker)
  one_maker maker linked is = record {
    method = linked.method;
    at = linked.at;
    is = record {
      instance = is_instance v n maker linked.whole linked.method is.takes.sig linked.is is.takes.has_sig is.takes.this;
      owner = linked.is.owner ∙ ap (owner_number v n.keys) is.owner ∙ sym entry.is.owner;
      no_return = no_return v n maker linked.whole linked.method is.takes.sig linked.is is.takes.has_sig is.takes.void;
      no_params = params_are v n maker linked.whole linked.method is.takes.sig linked.is is.takes.has_sig ∙ ap (map (place_of_type v n.keys)) is.takes.none;
      code = has_code v image n program maker linked is.body;
    };
  }

  instance_made : (sig : MethodSig) → sig_at v row ≡ Some sig → sig.has_this ≡ true → (maker : Option ℕ) → maker_in v (owner_of v methods row) ≡ maker → is_there maker ≡ true → AllByRecursion (λ m. is_in n.rows m ≡ true) (rows_of maker)
      → MadeBy program entry.method (maker_number n.rows maker)
  instance_made sig e this None found there met = absurd (cc)
  instance_made sig e this (Some maker) found there met =
      (is_instance v n row entry.whole entry.method sig entry.is e this, one_maker maker (has.methods maker met.0) (maker_found v (owner_of v methods row) maker found))

  made_by : (sig : MethodSig) → sig_at v row ≡ Some sig → (this : Bool) → sig.has_this ≡ this → (not this || is_there (if this then maker_in v (owner_of v methods row) else None)) ≡ true
      → AllByRecursion (λ m. is_in n.rows m ≡ true) (rows_of (if this then maker_in v (owner_of v methods row) else None)) → MadeBy program entry.method (maker_number n.rows (if this then maker_in v (owner_of v methods row) else None))
  made_by sig e true this there met = instance_made sig e this (maker_in v (owner_of v methods row)) refl there met
  made_by sig e false this there met = is_static v n row entry.whole entry.method sig entry.is e this

-- THE ENTRY

first_place : (rows : List ℕ) (row : ℕ) → slice_get rows 0 ≡ Some row → place_of rows row ≡ 0
first_place [] row at = absurd (cc)
first_place (other ∷ rows) row at = cond-true (other == row) 0 (1 + place_of rows row) (eq-eqb other row (same_Some other row at))

module _ (v : View) (image : pe.View) (name : List ℕ) (program : Program) (r : Reads v image name program) (first : slice_get r.reached.rows 0 ≡ Some r.method) where
  entry_linked : HasLinked v image (numbering_of r) program r.method
  entry_linked = (has_numbered v image name program r).methods r.method (in_at r.reached.rows 0 r.method first)

  entry_at : entry_of program ≡ Some entry_linked.method
  entry_at = ap (method_at program) (r.entry_is ∙ sym (first_place r.reached.rows r.method first)) ∙ entry_linked.at

  -- the entry has code, and a maker where it needs one
  pub entry_begins : AllByRecursion (λ row. is_in r.reached.rows row ≡ true) (starts_of v r.method r.sig) → HasMethod (CanBegin program) program program.entry
  entry_begins met = record {
    method = entry_linked.method;
    at = entry_at;
    is = record {
      code = has_code v image (numbering_of r) program r.method entry_linked r.entry.found.has_body;
      maker = subst (MadeBy program entry_linked.method) (sym r.maker_is) (made_by v image (numbering_of r) program (has_numbered v image name program r) r.method entry_linked r.sig r.entry.found.has_sig r.sig.has_this refl r.entry.made met.1);
    };
  }

  -- ARGUMENTS

  pub arguments_are : arguments_of program ≡ map (place_of_type v r.keys) r.sig.params
  arguments_are = ap params_in entry_at ∙ params_are v (numbering_of r) r.method entry_linked.whole entry_linked.method r.sig entry_linked.is r.entry.found.has_sig
