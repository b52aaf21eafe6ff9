-- What the tokens of a program's instructions name is there.
use Rattle.std.proofs.Common.{◌≡◌, ◌≢◌, ℕ, zero, suc, ◌<◌, true, false, List, [], ◌∷◌, Option, Some, None, refl, sym, ap, ◌∙◌, arith}
use Rattle.std.specs.Prelude.{◌==◌, not, IfSome, slice_get}
use Rattle.std.specs.List.{AllByRecursion, AllZip}
use Rattle.std.proofs.lemmas.Bool.{cond_both, eqb-false, not-true}
use Rattle.std.proofs.lemmas.Option.{same_Some}
use Rattle.px_meta.specs.Rows.{cell, is_in, methods, some_row, type_defs, type_refs, type_specs}
use Rattle.px_meta.specs.Tokens.{row_in, table_in}
use Rattle.px_link_methods.specs.Codes.{Numbering, place_of}
use Rattle.px_link_methods.specs.Methods.{IsMethod, keys_of_operand, return_place, sig_at}
use Rattle.px_link_tokens.specs.Operands.{has_body, is_void, key_alone, spec_in, type_at, type_only}
use Rattle.px_link_tokens.specs.declared.operand.Operand.{Operand}
use Rattle.px_pe.specs.Image as pe
use Rattle.px_program.specs.Formed.{HasCode, IsInstance, has_element, method_at}
use Rattle.px_program.specs.declared.program.Method.{Method}
use Rattle.px_program.specs.declared.program.Program.{Program}
use Rattle.px_program.specs.declared.program.TypeInfo.{TypeInfo}
use Rattle.px_link_reach.specs.Met.{IsBody, method_in as methods_in}
use Rattle.px_link_reach.specs.declared.body.Whole.{Whole}
use Rattle.px_sig.specs.declared.sig.MethodSig.{MethodSig}
use Rattle.px_tables.specs.Metadata.{View}
use Rattle.px_link_types.specs.declared.key.Key.{Key}
use Rattle.px_link_types.specs.declared.key.Leaf.{Leaf}
use Rattle.px_link_types.specs.declared.key.Leaf.TheVariants.{Defined}
use Rattle.px_link_types.specs.Infos.{IsInfoOf}
use Rattle.px_link_types.specs.Keys.{class_of, defined_in, is_class, library_in as library_leaf_in, library_leaf, library_ref}
use Rattle.px_link_types.specs.Making.{AreNumberedIn}
use Rattle.px_link_types.specs.Numbers.{has_key, is_integer, is_integer_leaf, number_of}
use Rattle.px_link.proofs.LinkedTypes.{HaveTypes, StandsFor, type_of}

-- WHAT A PROGRAM HAS

-- a method of the program, by its row
pub record HasLinked (v : View) (image : pe.View) (n : Numbering) (program : Program) (row : ℕ) : Type 0 where
  pub whole : Whole
  pub method : Method
  pub at : method_at program (place_of n.rows row) ≡ Some method
  pub body : IsBody v image row whole
  pub is : IsMethod v n row whole method

-- each type and each method that has a number
pub record HasNumbered (v : View) (image : pe.View) (n : Numbering) (program : Program) : Type 0 where
  pub types : HaveTypes v n.keys program.types
  pub methods : (row : ℕ) → is_in n.rows row ≡ true → HasLinked v image n program row

-- the types and the method of an operand have numbers
pub record IsMet (v : View) (n : Numbering) (o : Operand) : Type 0 where
  pub keys : AreNumberedIn n.keys (keys_of_operand v (Some o))
  pub methods : AllByRecursion (λ row. is_in n.rows row ≡ true) (methods_in (Some o))

-- TYPES

-- an array has elements
array_info : (v : View) (keys : List Key) (depth : ℕ) (leaf : Leaf) (info : TypeInfo) → 0 < depth → IsInfoOf v keys depth leaf info → has_element (Some info) ≡ true
array_info v keys zero leaf info some is = absurd (omega arith)
array_info v keys (suc depth) leaf info some is = rw is refl

array_element : (info type : TypeInfo) → type.element ≡ info.element → has_element (Some info) ≡ true → has_element (Some type) ≡ true
array_element info type same has = rw same has

pub array_type : (v : View) (keys : List Key) (types : List TypeInfo) → HaveTypes v keys types → (key : Key) → 0 < key.depth → has_key keys key ≡ true → has_element (slice_get types (number_of keys key)) ≡ true
array_type v keys types have key some has =
    let found = type_of v keys types have key has in
    let stands : StandsFor v keys key found.0 = found.1.1 in
    ap has_element found.1.0 ∙ array_element stands.bare found.0 stands.alike.element (array_info v keys key.depth key.leaf stands.bare some stands.info)

-- a class is no integer
abbrev pub IsClass : Option Leaf → Type 0
IsClass leaf = IfSome leaf (λ l. is_integer_leaf l ≡ false)

defined_class : (v : View) (row : Option ℕ) → IsClass (defined_in v row)
defined_class v None = tt
defined_class v (Some row) = cond_both (is_class v row) (Some (Defined row)) None IsClass (λ e. refl) (λ e. tt)

leaf_class : (number : Option ℕ) → IsClass (library_leaf number)
leaf_class None = tt
leaf_class (Some number) = refl

library_class : (v : View) (row : Option ℕ) → IsClass (library_leaf_in v row)
library_class v None = tt
library_class v (Some row) = leaf_class (library_ref v row)

pub class_class : (v : View) (at : ℕ) → IsClass (class_of v at)
class_class v at =
    cond_both (table_in at == type_defs) _ _ IsClass (λ e. defined_class v (some_row v type_defs (row_in at)))
    (λ e. cond_both (table_in at == type_refs) (library_leaf_in v (some_row v type_refs (row_in at))) None IsClass (λ f. library_class v (some_row v type_refs (row_in at))) (λ f. tt))

abbrev pub IsType : Option Key → Type 0
IsType key = IfSome key (λ k. is_integer k ≡ false)

class_type : (leaf : Option Leaf) → IsClass leaf → IsType (key_alone leaf)
class_type None is = tt
class_type (Some leaf) is = is

only_type : (key : Option Key) → IsType (type_only key)
only_type None = tt
only_type (Some key) = cond_both (is_integer key) None (Some key) IsType (λ e. tt) (λ e. e)

pub type_type : (v : View) (at : ℕ) → IsType (type_at v at)
type_type v at =
    cond_both (table_in at == type_specs) (type_only (spec_in v (some_row v type_specs (row_in at)))) (key_alone (class_of v at)) IsType
    (λ e. only_type (spec_in v (some_row v type_specs (row_in at)))) (λ e. class_type (class_of v at) (class_class v at))

-- METHODS

not_empty : {X Y : Type 0} (R : X → Y → Type 0) (xs : List X) (ys : List Y) → AllZip R xs ys → xs ≢ [] → ys ≢ []
not_empty R [] ys zipped some = absurd (some refl)
not_empty R (x ∷ xs) [] zipped some = absurd zipped
not_empty R (x ∷ xs) (y ∷ ys) zipped some = λ e. absurd (cc)

pub has_code : (v : View) (image : pe.View) (n : Numbering) (program : Program) (row : ℕ) → (linked : HasLinked v image n program row) → cell v methods row 0 ≢ 0 → HasCode linked.method
has_code v image n program row linked some = not_empty _ linked.whole.body.code linked.method.code linked.is.code (linked.body.formed some).some

pub same_sig : (v : View) (n : Numbering) (row : ℕ) (whole : Whole) (method : Method) (sig : MethodSig) → (is : IsMethod v n row whole method) → sig_at v row ≡ Some sig → is.sig ≡ sig
same_sig v n row whole method sig is e = same_Some is.sig sig (sym is.has_sig ∙ e)

pub is_instance : (v : View) (n : Numbering) (row : ℕ) (whole : Whole) (method : Method) (sig : MethodSig) → IsMethod v n row whole method → sig_at v row ≡ Some sig → sig.has_this ≡ true → IsInstance method
is_instance v n row whole method sig is e this =
    let same = same_sig v n row whole method sig is e in
    is.is_static ∙ ap (λ (s : MethodSig). not s.has_this) same ∙ ap not this

void_place : (v : View) (keys : List Key) (sig : MethodSig) → is_void sig.ret ≡ true → return_place v keys sig.ret ≡ None
void_place v keys sig void = rw void refl

pub no_return : (v : View) (n : Numbering) (row : ℕ) (whole : Whole) (method : Method) (sig : MethodSig) → IsMethod v n row whole method → sig_at v row ≡ Some sig → is_void sig.ret ≡ true → method.ret ≡ None
no_return v n row whole method sig is e void =
    let same = same_sig v n row whole method sig is e in
    is.ret ∙ ap (λ (s : MethodSig). return_place v n.keys s.ret) same ∙ void_place v n.keys sig void

pub some_body : (v : View) (row : ℕ) → has_body v row ≡ true → cell v methods row 0 ≢ 0
some_body v row has = eqb-false (cell v methods row 0) 0 (not-true (cell v methods row 0 == 0) has)
