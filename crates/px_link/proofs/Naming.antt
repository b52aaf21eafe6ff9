-- Names, taken apart from their ends.
use Rattle.std.proofs.Common.{◌≡◌, ◌≢◌, ℕ, List, [], ◌∷◌, ◌++◌, Bool, true, false, Option, Some, None, length, refl, sym, ap, ◌∙◌, subst, append_assoc, arith, Bor}
use Rattle.std.specs.Prelude.{◌==◌, MatchBool, MatchOption, codes}
use Rattle.std.proofs.lemmas.Bool.{false≢true}
use Rattle.std.proofs.lemmas.Bool.Decides.{nat_tests}
use Rattle.std.proofs.lemmas.List.{append_cancel_right}
use Rattle.px_tables.specs.Metadata.{View}
use Rattle.px_meta.specs.Chains.{Ends, GoesOn, IsChain, outer_of}
use Rattle.px_meta.specs.Members.{IsMethod, IsType, owner_of}
use Rattle.px_meta.specs.Rows.{IsRow, cell, methods, text_at, type_defs}
use Rattle.px_meta.specs.declared.meta.MetaMethod.{MetaMethod}
use Rattle.px_meta.specs.declared.meta.MetaType.{MetaType}
use Rattle.px_link.specs.Names.{IsNamed, IsTypeName, own_name, type_name, with_namespace}
use Rattle.px_meta.proofs.Alike.{text_is}

-- the text ends with no such ending
abbrev pub EndsNot : List ℕ → List ℕ → Type 0
EndsNot text ending = (front : List ℕ) → text ≢ front ++ ending

-- the two texts are such names, or neither is
pub record AreAlike (v : View) (row : ℕ) (text : List ℕ) (other : ℕ) (rest : List ℕ) : Type 0 where
  pub there : IsTypeName v row text → IsTypeName v other rest
  pub back : IsTypeName v other rest → IsTypeName v row text

pub alike : (v : View) (row : ℕ) (text : List ℕ) → AreAlike v row text row text
alike v row text = record { there = λ n. n; back = λ n. n }

pub joined : (v : View) (a : ℕ) (s : List ℕ) (b : ℕ) (t : List ℕ) (c : ℕ) (u : List ℕ) → AreAlike v a s b t → AreAlike v b t c u → AreAlike v a s c u
joined v a s b t c u ab bc = record { there = λ n. bc.there (ab.there n); back = λ n. ab.back (bc.back n) }

-- a type's name ends with its own
not_own_by : (v : View) (row : ℕ) (text : List ℕ) → EndsNot text (own_name v row) → (outers : List ℕ) → text ≡ type_name v row outers → ⊥
not_own_by v row text ends [] is = ends [] is
not_own_by v row text ends (outer ∷ outers) is = ends (type_name v outer outers ++ codes "/") is

pub not_own : (v : View) (row : ℕ) (text : List ℕ) → EndsNot text (own_name v row) → IsTypeName v row text → ⊥
not_own v row text ends n = not_own_by v row text ends n.outers n.is

-- where no type is around it, a type's name is its own
pub outermost : (v : View) (row : ℕ) (text front : List ℕ) → outer_of v row ≡ None → text ≡ front ++ own_name v row → front ≡ [] → IsTypeName v row text
outermost v row text front none is empty = record {
  outers = [];
  chain = Ends row none;
  is = is ∙ ap (λ f. f ++ own_name v row) empty;
}

outermost_by : (v : View) (row : ℕ) (text front : List ℕ) → outer_of v row ≡ None → text ≡ front ++ own_name v row
    → (outers : List ℕ) → IsChain (outer_of v) row outers → text ≡ type_name v row outers → front ≡ []
outermost_by v row text front none is [] chain named = append_cancel_right front [] (own_name v row) (sym is ∙ named)
outermost_by v row text front none is (outer ∷ outers) (GoesOn _ _ _ some chain) named = absurd (cc)

pub outermost_front : (v : View) (row : ℕ) (text front : List ℕ) → outer_of v row ≡ None → text ≡ front ++ own_name v row → IsTypeName v row text → front ≡ []
outermost_front v row text front none is n = outermost_by v row text front none is n.outers n.chain n.is

-- the name of a type that is nested in another goes on with a slash and the other's
pub record IsNested (v : View) (row : ℕ) (front : List ℕ) (outer : ℕ) : Type 0 where
  pub rest : List ℕ
  pub of_outer : IsTypeName v outer rest
  pub is : front ≡ rest ++ codes "/"

nested_by : (v : View) (row outer : ℕ) (text front : List ℕ) → outer_of v row ≡ Some outer → text ≡ front ++ own_name v row
    → (outers : List ℕ) → IsChain (outer_of v) row outers → text ≡ type_name v row outers → IsNested v row front outer
nested_by v row outer text front some is [] (Ends _ none) named = absurd (cc)
nested_by v row outer text front some is (o ∷ outers) (GoesOn _ _ _ on chain) named =
    let same : o ≡ outer = cc in
    record {
      rest = type_name v o outers;
      of_outer = record { outers = outers; chain = subst (λ n. IsChain (outer_of v) n outers) same chain; is = ap (λ n. type_name v n outers) same };
      is = append_cancel_right front (type_name v o outers ++ codes "/") (own_name v row) (sym is ∙ named);
    }

nested : (v : View) (row outer : ℕ) (text front : List ℕ) → outer_of v row ≡ Some outer → text ≡ front ++ own_name v row → IsTypeName v row text → IsNested v row front outer
nested v row outer text front some is n = nested_by v row outer text front some is n.outers n.chain n.is

pub no_slash : (v : View) (row outer : ℕ) (text front : List ℕ) → outer_of v row ≡ Some outer → text ≡ front ++ own_name v row → EndsNot front (codes "/") → IsTypeName v row text → ⊥
no_slash v row outer text front some is ends n = let nest : IsNested v row front outer = nested v row outer text front some is n in ends nest.rest nest.is

pub gone_on : (v : View) (row outer : ℕ) (text front rest : List ℕ) → outer_of v row ≡ Some outer → text ≡ front ++ own_name v row → front ≡ rest ++ codes "/" → AreAlike v row text outer rest
gone_on v row outer text front rest some is slash = record {
  there = λ n.
      let nest : IsNested v row front outer = nested v row outer text front some is n in
      subst (λ t. IsTypeName v outer t) (append_cancel_right nest.rest rest (codes "/") (sym nest.is ∙ slash)) nest.of_outer;
  back = λ n. record {
    outers = outer ∷ n.outers;
    chain = GoesOn row outer n.outers some n.chain;
    is = is ∙ ap (λ f. f ++ own_name v row) (slash ∙ ap (λ t. t ++ codes "/") n.is);
  };
}

-- a name behind its namespace, from its end
pub no_name : (text namespace name : List ℕ) → EndsNot text name → EndsNot text (with_namespace namespace name)
no_name text [] name ends = ends
no_name text (c ∷ namespace) name ends = λ front is. ends (front ++ ((c ∷ namespace) ++ codes ".")) (is ∙ sym (append_assoc front ((c ∷ namespace) ++ codes ".") name))

pub no_namespace : (text namespace name front : List ℕ) → namespace ≡ [] → text ≡ front ++ name → text ≡ front ++ with_namespace namespace name
no_namespace text [] name front empty is = is
no_namespace text (c ∷ namespace) name front empty is = absurd (cc)

pub no_dot : (text namespace name front : List ℕ) → namespace ≢ [] → text ≡ front ++ name → EndsNot front (codes ".") → EndsNot text (with_namespace namespace name)
no_dot text [] name front some is ends = absurd (some refl)
no_dot text (c ∷ namespace) name front some is ends = λ f e.
    ends (f ++ (c ∷ namespace))
    (append_cancel_right front (f ++ (c ∷ namespace) ++ codes ".") name
    (sym is ∙ e ∙ sym (append_assoc f ((c ∷ namespace) ++ codes ".") name) ∙ ap (λ t. t ++ name) (sym (append_assoc f (c ∷ namespace) (codes ".")))))

-- what stands before the dot ends with the namespace where the text ends with the whole
pub front_of_dot : (text namespace name front rest f : List ℕ) → namespace ≢ [] → text ≡ front ++ name → front ≡ rest ++ codes "." → text ≡ f ++ with_namespace namespace name → rest ≡ f ++ namespace
front_of_dot text [] name front rest f some is dot e = absurd (some refl)
front_of_dot text (c ∷ namespace) name front rest f some is dot e =
    append_cancel_right rest (f ++ (c ∷ namespace)) (codes ".")
    (sym dot ∙ append_cancel_right front (f ++ (c ∷ namespace) ++ codes ".") name
    (sym is ∙ e ∙ sym (append_assoc f ((c ∷ namespace) ++ codes ".") name) ∙ ap (λ t. t ++ name) (sym (append_assoc f (c ∷ namespace) (codes ".")))))

pub behind_namespace : (text namespace name front rest f : List ℕ) → namespace ≢ [] → text ≡ front ++ name → front ≡ rest ++ codes "." → rest ≡ f ++ namespace → text ≡ f ++ with_namespace namespace name
behind_namespace text [] name front rest f some is dot e = absurd (some refl)
behind_namespace text (c ∷ namespace) name front rest f some is dot e =
    is ∙ ap (λ t. t ++ name) (dot ∙ ap (λ t. t ++ codes ".") e ∙ append_assoc f (c ∷ namespace) (codes ".")) ∙ append_assoc f ((c ∷ namespace) ++ codes ".") name

pub along : (v : View) (a : ℕ) (s : List ℕ) (b : ℕ) (t : List ℕ) (outcome : Bool) → AreAlike v a s b t → MatchBool outcome (IsTypeName v b t) (IsTypeName v b t → ⊥) → MatchBool outcome (IsTypeName v a s) (IsTypeName v a s → ⊥)
along v a s b t true same is = same.back is
along v a s b t false same is_not = λ n. is_not (same.there n)

empty_or_not : (v : View) (row : ℕ) (text front : List ℕ) (outcome : Bool) → (outcome ≡ true → front ≡ []) → (outcome ≡ false → front ≢ []) → outer_of v row ≡ None → text ≡ front ++ own_name v row
    → MatchBool outcome (IsTypeName v row text) (IsTypeName v row text → ⊥)
empty_or_not v row text front true empty some none is = outermost v row text front none is (empty refl)
empty_or_not v row text front false empty some none is = λ n. some refl (outermost_front v row text front none is n)

is_empty : (front : List ℕ) → (length front == 0) ≡ true → front ≡ []
is_empty [] h = refl
is_empty (c ∷ front) h = absurd (grind (arith, nat_tests, h))

-- no type is around it: its name is told by what stands before its own
pub outermost_told : (v : View) (row : ℕ) (text front : List ℕ) (outcome : Bool) → outcome ≡ (length front == 0) → outer_of v row ≡ None → text ≡ front ++ own_name v row
    → MatchBool outcome (IsTypeName v row text) (IsTypeName v row text → ⊥)
outermost_told v row text front outcome told none is =
    empty_or_not v row text front outcome (λ e. is_empty front (sym told ∙ e)) (λ e empty. false≢true (sym e ∙ told ∙ ap (λ f. length f == 0) empty)) none is

-- what a search for an ending answers
abbrev pub SplitsEnding : List ℕ → List ℕ → Option (Bor (List ℕ)) → Type 0
SplitsEnding text ending answer = MatchOption answer (EndsNot text ending) (λ front. text ≡ front.now ++ ending)

pub none_told : (text ending : List ℕ) (answer : Option (Bor (List ℕ))) → answer ≡ None → EndsNot text ending → SplitsEnding text ending answer
none_told text ending None is ends = ends
none_told text ending (Some front) is ends = absurd (cc)

pub namespace_told : (text namespace name front rest : List ℕ) (answer : Option (Bor (List ℕ))) → namespace ≢ [] → text ≡ front ++ name → front ≡ rest ++ codes "."
    → SplitsEnding rest namespace answer → SplitsEnding text (with_namespace namespace name) answer
namespace_told text namespace name front rest None some is dot ends = λ f e. ends f (front_of_dot text namespace name front rest f some is dot e)
namespace_told text namespace name front rest (Some f) some is dot e = behind_namespace text namespace name front rest f.now some is dot e

pub own_told : (v : View) (row : ℕ) (text namespace name : List ℕ) (answer : Option (Bor (List ℕ))) (t : MetaType) → IsType v row t → namespace ≡ t.namespace.now → name ≡ t.name.now
    → SplitsEnding text (with_namespace namespace name) answer → SplitsEnding text (own_name v row) answer
own_told v row text namespace name answer t is namespace_is name_is told =
    let one : namespace ≡ text_at v (cell v type_defs row 2) = namespace_is ∙ sym (text_is v (cell v type_defs row 2) t.namespace.now is.namespace) in
    let other : name ≡ text_at v (cell v type_defs row 1) = name_is ∙ sym (text_is v (cell v type_defs row 1) t.name.now is.name) in
    let same : with_namespace namespace name ≡ own_name v row = ap (λ n. with_namespace n name) one ∙ ap (λ n. with_namespace (text_at v (cell v type_defs row 2)) n) other in
    subst (λ ending. SplitsEnding text ending answer) same told

pub some_by_test : (xs : List ℕ) → (length xs == 0) ≡ false → xs ≢ []
some_by_test xs e empty = false≢true (sym e ∙ ap (λ ys. length ys == 0) empty)

front_of : (v : View) (name front : List ℕ) (row : ℕ) (m : MetaMethod) → IsMethod v row m → name ≡ front ++ m.name.now → (n : IsNamed v name row) → front ≡ n.type ++ codes "::"
front_of v name front row m is own n =
    append_cancel_right front (n.type ++ codes "::") m.name.now
    (sym own ∙ n.is ∙ ap (λ t. n.type ++ codes "::" ++ t) (text_is v (cell v methods row 3) m.name.now is.name))

-- whether a method has the name, by what stands before its own
pub named_told : (v : View) (name front type : List ℕ) (row : ℕ) (m : MetaMethod) (outcome : Bool) → IsRow v methods row → IsMethod v row m → m.owner ≢ 0
    → name ≡ front ++ m.name.now → front ≡ type ++ codes "::" → MatchBool outcome (IsTypeName v m.owner type) (IsTypeName v m.owner type → ⊥)
    → MatchBool outcome (IsNamed v name row) (IsNamed v name row → ⊥)
named_told v name front type row m true there is owned own colons told = record {
  row = there;
  owned = λ e. owned (is.owner ∙ e);
  type = type;
  type_is = subst (λ o. IsTypeName v o type) is.owner told;
  is = own ∙ ap (λ f. f ++ m.name.now) colons ∙ ap (λ n. type ++ codes "::" ++ n) (sym (text_is v (cell v methods row 3) m.name.now is.name));
}
named_told v name front type row m false there is owned own colons told = λ n.
    let same : n.type ++ codes "::" ≡ type ++ codes "::" = sym (front_of v name front row m is own n) ∙ colons in
    told (subst (λ o. IsTypeName v o type) (sym is.owner) (subst (λ t. IsTypeName v (owner_of v methods row) t) (append_cancel_right n.type type (codes "::") same) n.type_is))

pub no_owner : (v : View) (name : List ℕ) (row : ℕ) (m : MetaMethod) → IsMethod v row m → m.owner ≡ 0 → IsNamed v name row → ⊥
no_owner v name row m is none n = n.owned (sym is.owner ∙ none)

pub other_method : (v : View) (name : List ℕ) (row : ℕ) (m : MetaMethod) → IsMethod v row m → EndsNot name m.name.now → IsNamed v name row → ⊥
other_method v name row m is ends n = ends (n.type ++ codes "::") (n.is ∙ ap (λ t. n.type ++ codes "::" ++ t) (text_is v (cell v methods row 3) m.name.now is.name))

pub no_colons : (v : View) (name front : List ℕ) (row : ℕ) (m : MetaMethod) → IsMethod v row m → name ≡ front ++ m.name.now → EndsNot front (codes "::") → IsNamed v name row → ⊥
no_colons v name front row m is own ends n = ends n.type (front_of v name front row m is own n)
