-- What a place holds is spelled in one way.
use Rattle.std.proofs.Common.{◌≡◌, ℕ, Bool, List, [], ◌∷◌, ◌++◌, Option, Some, None, refl, sym, ap, ◌∙◌, subst}
use Rattle.std.specs.Prelude.{◌≢◌, not, slice_get}
use Rattle.std.specs.List.{AllZip}
use Rattle.std.proofs.lemmas.Option.{same_Some}
use Rattle.px_link.proofs.LinkedProgram.{has_numbered}
use Rattle.px_link.proofs.LinkedTypes.{HaveTypes, StandsFor}
use Rattle.px_program.specs.Library.{library_types}
use Rattle.px_program.specs.declared.program.Method.{Method}
use Rattle.px_program.specs.declared.program.Place.{Place}
use Rattle.px_program.specs.declared.program.Place.TheVariants as places
use Rattle.px_program.specs.declared.program.Program.{Program}
use Rattle.px_program.specs.declared.program.TypeInfo.{TypeInfo}
use Rattle.px_sig.specs.declared.sig.Integer.{Integer}
use Rattle.px_sig.specs.declared.sig.Integer.TheVariants as integers
use Rattle.px_sig.specs.declared.sig.MethodSig.{MethodSig}
use Rattle.px_sig.specs.Grammar.{array_of, plain_type}
use Rattle.px_sig.specs.declared.sig.SigLeaf.TheVariants.{Class, Int, Object, Str}
use Rattle.px_sig.specs.declared.sig.SigType.{SigType}
use Rattle.px_link_types.specs.Keys.{alone}
use Rattle.px_link_types.specs.Numbers.{integer_place, library_keys}
use Rattle.px_link_types.specs.declared.key.Key.{Key}
use Rattle.px_link_types.specs.declared.key.Leaf.TheVariants.{Library}
use Rattle.px_link_types.proofs.Closed.{grows}
use Rattle.px_asm_law_relink.specs.Again.{Again}
use Rattle.px_asm_described.specs.Describes.{HasElement, IsArray, IsClass, IsNumber, IsObject, IsOther, IsReturnOf, IsSigOf, IsText, IsTypeOf, class_token}

-- INTEGERS

-- the integer that a place has
integer_of : Place → Option Integer
integer_of places.Bool = Some integers.Bool
integer_of places.Char = Some integers.Char
integer_of places.I1 = Some integers.I1
integer_of places.U1 = Some integers.U1
integer_of places.I2 = Some integers.I2
integer_of places.U2 = Some integers.U2
integer_of places.I4 = Some integers.I4
integer_of places.U4 = Some integers.U4
integer_of places.I8 = Some integers.I8
integer_of places.U8 = Some integers.U8
integer_of places.N = Some integers.N
integer_of places.UN = Some integers.UN
integer_of (places.Ref type) = None

its_integer : (integer : Integer) → integer_of (integer_place integer) ≡ Some integer
unfolding integer_of
its_integer integers.Bool = refl
its_integer integers.Char = refl
its_integer integers.I1 = refl
its_integer integers.U1 = refl
its_integer integers.I2 = refl
its_integer integers.U2 = refl
its_integer integers.I4 = refl
its_integer integers.U4 = refl
its_integer integers.I8 = refl
its_integer integers.U8 = refl
its_integer integers.N = refl
its_integer integers.UN = refl

same_integer : (integer other : Integer) → integer_place integer ≡ integer_place other → integer ≡ other
same_integer integer other same = same_Some integer other (sym (its_integer integer) ∙ ap integer_of same ∙ its_integer other)

no_reference : (integer : Integer) (type : ℕ) → integer_place integer ≡ places.Ref type → ⊥
unfolding integer_of
no_reference integer type same = let both = sym (its_integer integer) ∙ ap integer_of same in absurd (cc)

-- TYPES

abbrev pub IsNoArray : Program → ℕ → Type 0
IsNoArray p type = (element : Place) → HasElement p type element → ⊥

no_class : (p : Program) (class : ℕ) (element : Place) → IsClass p class → HasElement p class element → ⊥
no_class p class element is has =
    let same : is.info ≡ has.info = same_Some is.info has.info (sym is.at ∙ has.at) in
    let none = sym is.no_element ∙ ap (λ (info : TypeInfo). info.element) same ∙ has.is in
    absurd (cc)

same_element : (p : Program) (array : ℕ) (element other : Place) → HasElement p array element → HasElement p array other → element ≡ other
same_element p array element other has has_other =
    let same : has.info ≡ has_other.info = same_Some has.info has_other.info (sym has.at ∙ has_other.at) in
    same_Some element other (sym has.is ∙ ap (λ (info : TypeInfo). info.element) same ∙ has_other.is)

same_number : (type other : ℕ) → places.Ref type ≡ places.Ref other → type ≡ other
same_number type other same = cc

module _ (p : Program) (no_object : IsNoArray p 0) (no_text : IsNoArray p 17) where
  as_number : (integer : Integer) (place : Place) (type second : SigType) → place ≡ integer_place integer → type ≡ plain_type (Int integer) → IsTypeOf p place second → type ≡ second
  as_number integer place type second at is (IsNumber i _ _ at' is') = is ∙ ap (λ n. plain_type (Int n)) (same_integer integer i (sym at ∙ at')) ∙ sym is'
  as_number integer place type second at is (IsObject _ _ at' is') = absurd (no_reference integer 0 (sym at ∙ at'))
  as_number integer place type second at is (IsText _ _ at' is') = absurd (no_reference integer 17 (sym at ∙ at'))
  as_number integer place type second at is (IsOther class _ _ _ _ _ at' is') = absurd (no_reference integer class (sym at ∙ at'))
  as_number integer place type second at is (IsArray array _ _ _ _ _ _ at' is') = absurd (no_reference integer array (sym at ∙ at'))

  as_reference : (number : ℕ) (place : Place) (type second : SigType) → ((element : Place) → HasElement p number element → ⊥) → place ≡ places.Ref number → (number ≡ 0 → second ≡ plain_type Object → type ≡ second) → (number ≡ 17 → second ≡ plain_type Str → type ≡ second)
      → (number ≢ 0 → number ≢ 17 → second ≡ plain_type (Class (class_token p number)) → type ≡ second) → IsTypeOf p place second → type ≡ second
  as_reference number place type second no_array at object text rest (IsNumber i _ _ at' is') = absurd (no_reference i number (sym at' ∙ at))
  as_reference number place type second no_array at object text rest (IsObject _ _ at' is') = object (same_number number 0 (sym at ∙ at')) is'
  as_reference number place type second no_array at object text rest (IsText _ _ at' is') = text (same_number number 17 (sym at ∙ at')) is'
  as_reference number place type second no_array at object text rest (IsOther class _ _ some no_text' is_class at' is') =
      let same : class ≡ number = same_number class number (sym at' ∙ at) in
      rest (λ e. some (same ∙ e)) (λ e. no_text' (same ∙ e)) (is' ∙ ap (λ c. plain_type (Class (class_token p c))) same)
  as_reference number place type second no_array at object text rest (IsArray array element _ _ _ has _ at' is') =
      let same : array ≡ number = same_number array number (sym at' ∙ at) in
      absurd (no_array element (subst (λ n. HasElement p n element) same has))

  as_array : (array : ℕ) (element place : Place) (inner type second : SigType) → HasElement p array element → ((one : SigType) → IsTypeOf p element one → inner ≡ one) → place ≡ places.Ref array → type ≡ array_of inner → IsTypeOf p place second → type ≡ second
  as_array array element place inner type second has same_inner at is (IsNumber i _ _ at' is') = absurd (no_reference i array (sym at' ∙ at))
  as_array array element place inner type second has same_inner at is (IsObject _ _ at' is') = absurd (no_object element (subst (λ n. HasElement p n element) (same_number array 0 (sym at ∙ at')) has))
  as_array array element place inner type second has same_inner at is (IsText _ _ at' is') = absurd (no_text element (subst (λ n. HasElement p n element) (same_number array 17 (sym at ∙ at')) has))
  as_array array element place inner type second has same_inner at is (IsOther class _ _ _ _ is_class at' is') =
      absurd (no_class p class element is_class (subst (λ n. HasElement p n element) (same_number array class (sym at ∙ at')) has))
  as_array array element place inner type second has same_inner at is (IsArray array' element' _ inner' _ has' inner_is at' is') =
      let same : array' ≡ array = same_number array' array (sym at' ∙ at) in
      let level : element' ≡ element = same_element p array element' element (subst (λ n. HasElement p n element') same has') has in
      is ∙ ap array_of (same_inner inner' (subst (λ e. IsTypeOf p e inner') level inner_is)) ∙ sym is'

  -- a place has one type
  pub one_type : (place : Place) (type second : SigType) → IsTypeOf p place type → IsTypeOf p place second → type ≡ second
  one_type place type second (IsNumber integer _ _ at is) second_is = as_number integer place type second at is second_is
  one_type place type second (IsObject _ _ at is) second_is =
      as_reference 0 place type second no_object at (λ e is'. is ∙ sym is') (λ e is'. absurd (cc)) (λ some no_text' is'. absurd (some refl)) second_is
  one_type place type second (IsText _ _ at is) second_is =
      as_reference 17 place type second no_text at (λ e is'. absurd (cc)) (λ e is'. is ∙ sym is') (λ some no_text' is'. absurd (no_text' refl)) second_is
  one_type place type second (IsOther class _ _ some no_text' is_class at is) second_is =
      as_reference class place type second (λ element has. no_class p class element is_class has) at (λ e is'. absurd (some e)) (λ e is'. absurd (no_text' e)) (λ some' no_text'' is'. is ∙ sym is') second_is
  one_type place type second (IsArray array element _ inner _ has inner_is at is) second_is =
      as_array array element place inner type second has (λ one one_is. one_type element inner one inner_is one_is) at is second_is

  pub one_list : (held : List Place) (types others : List SigType) → AllZip (IsTypeOf p) held types → AllZip (IsTypeOf p) held others → types ≡ others
  one_list [] [] [] are are_others = refl
  one_list [] [] (u ∷ us) are are_others = absurd are_others
  one_list [] (t ∷ ts) us are are_others = absurd are
  one_list (h ∷ held) [] us are are_others = absurd are
  one_list (h ∷ held) (t ∷ ts) [] are are_others = absurd are_others
  one_list (h ∷ held) (t ∷ ts) (u ∷ us) are are_others = let first = one_type h t u are.0 are_others.0 in let later = one_list held ts us are.1 are_others.1 in cc

  pub one_return : (held : Option Place) (type second : SigType) → IsReturnOf p held type → IsReturnOf p held second → type ≡ second
  one_return None type second is second_is = is ∙ sym second_is
  one_return (Some place) type second is second_is = one_type place type second is second_is

abbrev sig_of : Bool → Bool → SigType → List SigType → MethodSig
sig_of this plain ret params = record { has_this = this; plain = plain; ret = ret; params = params }

same_parts : (sig other : MethodSig) → sig.has_this ≡ other.has_this → sig.plain ≡ other.plain → sig.ret ≡ other.ret → sig.params ≡ other.params → sig ≡ other
same_parts sig other this plain ret params =
    let first : sig_of sig.has_this sig.plain sig.ret sig.params ≡ sig_of other.has_this other.plain other.ret other.params = cc in
    first

-- TYPES OF THE LIBRARY

no_elements : (a : Again) (n : ℕ) (bare : TypeInfo) → ((more : List Key) → slice_get (library_keys ++ more) n ≡ Some (alone (Library n))) → slice_get library_types n ≡ Some bare → bare.element ≡ None → IsNoArray a.p n
no_elements a n bare key_at bare_at none element has =
    let have : HaveTypes a.first a.reads.keys a.p.types = (has_numbered a.first a.from a.name a.p a.reads).types in
    let grown = grows a.reads.numbers in
    let at = ap (λ keys. slice_get keys n) grown.all_is ∙ key_at grown.more in
    let stands : StandsFor a.first a.reads.keys (alone (Library n)) has.info = have.each n (alone (Library n)) has.info at has.at in
    let same : stands.bare ≡ bare = same_Some stands.bare bare (sym stands.info ∙ bare_at) in
    let empty : has.info.element ≡ None = stands.alike.element ∙ ap (λ (info : TypeInfo). info.element) same ∙ none in
    let some = has.is in
    absurd (cc)

pub no_object : (a : Again) → IsNoArray a.p 0
no_object a = no_elements a 0 _ (λ more. refl) refl refl

pub no_text : (a : Again) → IsNoArray a.p 17
no_text a = no_elements a 17 _ (λ more. refl) refl refl

-- SIGNATURES

-- methods that take and return the same have one signature
pub one_sig : (a : Again) (method other : Method) (sig other_sig : MethodSig) → method.is_static ≡ other.is_static → method.params ≡ other.params → method.ret ≡ other.ret
    → IsSigOf a.p method sig → IsSigOf a.p other other_sig → sig ≡ other_sig
one_sig a method other sig other_sig static arguments ret is is_other =
    same_parts sig other_sig (is.has_this ∙ ap not static ∙ sym is_other.has_this) (is.plain ∙ sym is_other.plain)
    (one_return a.p (no_object a) (no_text a) other.ret sig.ret other_sig.ret (subst (λ r. IsReturnOf a.p r sig.ret) ret is.ret) is_other.ret)
    (one_list a.p (no_object a) (no_text a) other.params sig.params other_sig.params (subst (λ l. AllZip (IsTypeOf a.p) l sig.params) arguments is.params) is_other.params)
