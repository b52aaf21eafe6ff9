-- The types of a signature and of locals, read again.
use Rattle.std.proofs.Common.{◌≡◌, ℕ, zero, suc, Bool, true, false, List, [], ◌∷◌, ◌++◌, map, Some, None, refl, sym, ap, ◌∙◌, arith}
use Rattle.std.specs.Prelude.{◌==◌, ◌&&◌, not, slice_get}
use Rattle.std.specs.List.{AllByRecursion, AllZip}
use Rattle.std.proofs.lemmas.Bool.{and_left, and_parts, and_right, cond-false, cond-true, cond_both, ne_eqb}
use Rattle.std.proofs.lemmas.Simd.{map-map}
use Rattle.px_link_methods.specs.Methods.{place_of_type, return_place}
use Rattle.px_link_methods.specs.Slots.{Forms, forms_of, is_other, is_set, receiver_form}
use Rattle.px_link_tokens.specs.Operands.{is_there, is_void, is_void_leaf}
use Rattle.px_program.specs.declared.instr.Code.TheVariants as code
use Rattle.px_program.specs.declared.instr.Move.TheVariants as move
use Rattle.px_program.specs.declared.program.Place.{Place}
use Rattle.px_sig.specs.declared.sig.MethodSig.{MethodSig}
use Rattle.px_sig.specs.Grammar.{plain_type}
use Rattle.px_sig.specs.declared.sig.SigLeaf.{SigLeaf}
use Rattle.px_sig.specs.declared.sig.SigLeaf.TheVariants.{Void, Int, Str, Object, Class, Other}
use Rattle.px_sig.specs.declared.sig.SigType.{SigType}
use Rattle.px_tables.specs.Metadata.{View}
use Rattle.px_link_types.specs.Keys.{in_arrays, key_or_object, leaf_of, object, place_key}
use Rattle.px_link_types.specs.Making.{AreNumberedIn}
use Rattle.px_link_types.specs.Numbers.{is_numbered, place_in}
use Rattle.px_asm_law_relink.specs.Again.{Again, key_for, keys_for}
use Rattle.px_asm_described.specs.Describes.{IsArray, IsNumber, IsObject, IsOther, IsReturnOf, IsText, IsTypeOf}
use Rattle.px_asm_law_relink.proofs.InstrsAgain.{BarsNothing}
use Rattle.px_asm_law_relink.proofs.TypesAgain.{same_place, type_reads}

-- LISTS

-- what is so of two lists item by item
pub map_both : {X Y Z : Type 0} (R : X → Y → Type 0) (f : X → Z) (g : Y → Z) → ((x : X) (y : Y) → R x y → g y ≡ f x) → (xs : List X) (ys : List Y) → AllZip R xs ys → map g ys ≡ map f xs
map_both R f g same [] [] are = refl
map_both R f g same [] (y ∷ ys) are = absurd are
map_both R f g same (x ∷ xs) [] are = absurd are
map_both R f g same (x ∷ xs) (y ∷ ys) are = let first = same x y are.0 in let later = map_both R f g same xs ys are.1 in cc

-- A TYPE

-- a type of the other assembly and that for which it stands
pub record IsTypeAgain (a : Again) (first type : SigType) : Type 0 where
  pub key : place_key a.v type ≡ key_for a (place_key a.first first)
  pub place : place_of_type a.v (keys_for a a.reads.keys) type ≡ place_of_type a.first a.reads.keys first
  pub runs : is_other a.v type ≡ false

pub type_again : (a : Again) (first type : SigType) → is_numbered a.reads.keys (place_key a.first first) ≡ true → IsTypeOf a.p (place_of_type a.first a.reads.keys first) type → IsTypeAgain a first type
type_again a first type numbered is =
    let reads = type_reads a (place_key a.first first) (place_of_type a.first a.reads.keys first) type numbered refl is in
    let key : place_key a.v type ≡ key_for a (place_key a.first first) = ap key_or_object reads.key_is in
    record {
      key = key;
      place = ap (place_in (keys_for a a.reads.keys)) key ∙ same_place a (place_key a.first first) numbered;
      runs = ap (λ o. not (is_there o)) reads.key_is;
    }

-- all of some types
pub record AreTypesAgain (a : Again) (firsts types : List SigType) : Type 0 where
  pub keys : map (place_key a.v) types ≡ keys_for a (map (place_key a.first) firsts)
  pub places : map (place_of_type a.v (keys_for a a.reads.keys)) types ≡ map (place_of_type a.first a.reads.keys) firsts
  pub run : AllByRecursion (λ flag. flag ≡ false) (map (is_other a.v) types)

each_type : (a : Again) (firsts types : List SigType) → AreNumberedIn a.reads.keys (map (place_key a.first) firsts) → AllZip (IsTypeOf a.p) (map (place_of_type a.first a.reads.keys) firsts) types → AllZip (IsTypeAgain a) firsts types
each_type a [] [] numbered are = tt
each_type a [] (type ∷ types) numbered are = absurd are
each_type a (first ∷ firsts) [] numbered are = absurd are
each_type a (first ∷ firsts) (type ∷ types) numbered are = (type_again a first type numbered.0 are.0, each_type a firsts types numbered.1 are.1)

none_other : (a : Again) (firsts types : List SigType) → AllZip (IsTypeAgain a) firsts types → AllByRecursion (λ flag. flag ≡ false) (map (is_other a.v) types)
none_other a [] [] are = tt
none_other a [] (type ∷ types) are = absurd are
none_other a (first ∷ firsts) [] are = absurd are
none_other a (first ∷ firsts) (type ∷ types) are = (are.0.runs, none_other a firsts types are.1)

pub types_again : (a : Again) (firsts types : List SigType) → AreNumberedIn a.reads.keys (map (place_key a.first) firsts) → AllZip (IsTypeOf a.p) (map (place_of_type a.first a.reads.keys) firsts) types → AreTypesAgain a firsts types
types_again a firsts types numbered are =
    let each = each_type a firsts types numbered are in
    record {
      keys = map_both (IsTypeAgain a) (λ first. key_for a (place_key a.first first)) (place_key a.v) (λ first type again. again.key) firsts types each ∙ sym (map-map (key_for a) (place_key a.first) firsts);
      places = map_both (IsTypeAgain a) (place_of_type a.first a.reads.keys) (place_of_type a.v (keys_for a a.reads.keys)) (λ first type again. again.place) firsts types each;
      run = none_other a firsts types each;
    }

-- RETURNS

pub record IsReturnAgain (a : Again) (first type : SigType) : Type 0 where
  pub key : place_key a.v type ≡ key_for a (place_key a.first first)
  pub place : return_place a.v (keys_for a a.reads.keys) type ≡ return_place a.first a.reads.keys first
  pub void : is_void type ≡ is_void first
  pub runs : (is_other a.v type && not (is_void type)) ≡ false

-- what a place holds isn't void
pub some_type : (a : Again) (place : Place) (type : SigType) → IsTypeOf a.p place type → is_void type ≡ false
some_type a _ _ (IsNumber integer place type e is) = ap is_void is
some_type a _ _ (IsObject place type e is) = ap is_void is
some_type a _ _ (IsText place type e is) = ap is_void is
some_type a _ _ (IsOther class place type other text plain e is) = ap is_void is
some_type a _ _ (IsArray array element place inner type has of e is) = ap is_void is ∙ and_left (suc inner.depth == 0) (is_void_leaf inner.leaf) (ne_eqb (suc inner.depth) 0 (λ e. omega arith))

void_leaf : (leaf : SigLeaf) → is_void_leaf leaf ≡ true → leaf ≡ Void
void_leaf Void void = refl
void_leaf (Int integer) void = absurd (cc)
void_leaf Str void = absurd (cc)
void_leaf Object void = absurd (cc)
void_leaf (Class at) void = absurd (cc)
void_leaf Other void = absurd (cc)

void_key : (v : View) (type : SigType) → is_void type ≡ true → place_key v type ≡ object
void_key v type void =
    let leaf = void_leaf type.leaf (and_parts (type.depth == 0) (is_void_leaf type.leaf) void).1 in
    ap (λ l. key_or_object (in_arrays type.depth (leaf_of v l))) leaf

no_return : (a : Again) (first type : SigType) → is_void first ≡ true → type ≡ plain_type Void → IsReturnAgain a first type
no_return a first type void is =
    let also : is_void type ≡ true = ap is_void is in
    record {
      key = void_key a.v type also ∙ sym (ap (key_for a) (void_key a.first first void));
      place = cond-true (is_void type) None (Some (place_of_type a.v (keys_for a a.reads.keys) type)) also ∙ sym (cond-true (is_void first) None (Some (place_of_type a.first a.reads.keys first)) void);
      void = also ∙ sym void;
      runs = and_right (is_other a.v type) (not (is_void type)) (ap not also);
    }

some_return : (a : Again) (first type : SigType) → is_void first ≡ false → is_numbered a.reads.keys (place_key a.first first) ≡ true → IsTypeOf a.p (place_of_type a.first a.reads.keys first) type → IsReturnAgain a first type
some_return a first type some numbered is =
    let also : is_void type ≡ false = some_type a (place_of_type a.first a.reads.keys first) type is in
    let again = type_again a first type numbered is in
    record {
      key = again.key;
      place = cond-false (is_void type) None (Some (place_of_type a.v (keys_for a a.reads.keys) type)) also ∙ ap (λ place. Some place) again.place
          ∙ sym (cond-false (is_void first) None (Some (place_of_type a.first a.reads.keys first)) some);
      void = also ∙ sym some;
      runs = and_left (is_other a.v type) (not (is_void type)) again.runs;
    }

pub return_again : (a : Again) (first type : SigType) → is_numbered a.reads.keys (place_key a.first first) ≡ true → IsReturnOf a.p (return_place a.first a.reads.keys first) type → IsReturnAgain a first type
return_again a first type numbered =
    cond_both (is_void first) None (Some (place_of_type a.first a.reads.keys first)) (λ o. IsReturnOf a.p o type → IsReturnAgain a first type)
    (λ void is. no_return a first type void is) (λ some is. some_return a first type some numbered is)

-- FORMS

none_set : (flags : List Bool) (n : ℕ) → AllByRecursion (λ flag. flag ≡ false) flags → is_set (slice_get flags n) ≡ false
none_set [] n none = refl
none_set (flag ∷ flags) zero none = none.0
none_set (flag ∷ flags) (suc n) none = none_set flags n none.1

-- where no form is another, nothing is barred
pub bars_nothing : (forms : Forms) → AllByRecursion (λ flag. flag ≡ false) forms.args → AllByRecursion (λ flag. flag ≡ false) forms.locals → forms.ret ≡ false → BarsNothing forms
bars_nothing forms args locals ret (code.Move (move.Argument n)) = none_set forms.args n args
bars_nothing forms args locals ret (code.Move (move.SetArgument n)) = none_set forms.args n args
bars_nothing forms args locals ret (code.Move (move.Local n)) = none_set forms.locals n locals
bars_nothing forms args locals ret (code.Move (move.SetLocal n)) = none_set forms.locals n locals
bars_nothing forms args locals ret code.Return = ret
bars_nothing forms args locals ret _ = refl

receiver_none : (this : Bool) (flags : List Bool) → AllByRecursion (λ flag. flag ≡ false) flags → AllByRecursion (λ flag. flag ≡ false) (receiver_form this ++ flags)
receiver_none true flags none = (refl, none)
receiver_none false flags none = none

pub sig_bars_nothing : (a : Again) (firsts first_locals : List SigType) (first_ret : SigType) (sig : MethodSig) (locals : List SigType)
    → AreTypesAgain a firsts sig.params → AreTypesAgain a first_locals locals → IsReturnAgain a first_ret sig.ret → BarsNothing (forms_of a.v sig locals)
sig_bars_nothing a firsts first_locals first_ret sig locals params others ret =
    bars_nothing (forms_of a.v sig locals) (receiver_none sig.has_this (map (is_other a.v) sig.params) params.run) others.run ret.runs
