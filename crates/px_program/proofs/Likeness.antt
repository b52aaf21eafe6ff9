-- A method that is added is like an earlier one, or the first of its kind.
use Rattle.std.proofs.Common.{◌≡◌, inl, inr, ◌⊎◌, ℕ, zero, suc, ◌<◌, List, [], ◌∷◌, ◌++◌, Some, Result, Ok, Err, true, false, refl, sym, ap, subst, arith, length, ◌∙◌}
use Rattle.std.specs.Prelude.{get_or, slice_get, OnErr, OnOk}
use Rattle.std.proofs.lemmas.Option.{slice_get-get_or, slice_get_within}
use Rattle.std.specs.declared.alloc.AllocError.{AllocError}
use Rattle.px_program.specs.Alike.{AreAlike, AreFirsts, IsFirst, renamed}
use Rattle.px_program.specs.declared.program.Method.{Method}

-- LISTS WITH ONE MORE

-- what stands in a list with one more stands in the list, or is the last
pub pushed_cases : {X : Type 0} (xs : List X) (x : X) (k : ℕ) (y : X) → slice_get (xs ++ x ∷ []) k ≡ Some y → (slice_get xs k ≡ Some y) ⊎ ((k ≡ length xs) × (x ≡ y))
pushed_cases [] x zero y is = inr (refl, cc)
pushed_cases [] x (suc k) y is = absurd (cc)
pushed_cases (z ∷ xs) x zero y is = inl is
pushed_cases (z ∷ xs) x (suc k) y is = elim (pushed_cases xs x k y is) [
  | inl there ↦ inl there
  | inr last ↦ inr (ap suc last.0, last.1)
]

still_there : {X : Type 0} (xs more : List X) (k : ℕ) (y : X) → slice_get xs k ≡ Some y → slice_get (xs ++ more) k ≡ Some y
still_there [] more k y is = absurd (cc)
still_there (z ∷ xs) more zero y is = is
still_there (z ∷ xs) more (suc k) y is = still_there xs more k y is

last_there : {X : Type 0} (xs : List X) (x : X) → slice_get (xs ++ x ∷ []) (length xs) ≡ Some x
last_there [] x = refl
last_there (z ∷ xs) x = last_there xs x

-- below the length of a list, one more changes nothing
pushed_below : {X : Type 0} (xs : List X) (x : X) (k : ℕ) (y : X) → k < length xs → slice_get (xs ++ x ∷ []) k ≡ Some y → slice_get xs k ≡ Some y
pushed_below xs x k y below is = elim (pushed_cases xs x k y is) [
  | inl there ↦ there
  | inr last ↦ absurd (omega (arith, last.0))
]

-- at it stands the last
pushed_last : {X : Type 0} (xs : List X) (x : X) (k : ℕ) (y : X) → k ≡ length xs → slice_get (xs ++ x ∷ []) k ≡ Some y → x ≡ y
pushed_last xs x k y last is = elim (pushed_cases xs x k y is) [
  | inl there ↦ let within : k < length xs = slice_get_within xs k y there in absurd (omega arith)
  | inr same ↦ same.1
]

-- LIKENESS

alike_itself : (method : Method) → AreAlike method method
alike_itself method = record { is_static = refl; owner = λ _. refl; params = refl; ret = refl; locals = refl; max_stack = refl; code = refl; clauses = refl }

pub alike_through : (one between other : Method) → AreAlike one between → AreAlike between other → AreAlike one other
alike_through one between other first second = record {
  is_static = first.is_static ∙ second.is_static;
  owner = λ instance. first.owner instance ∙ second.owner (sym first.is_static ∙ instance);
  params = first.params ∙ second.params;
  ret = first.ret ∙ second.ret;
  locals = first.locals ∙ second.locals;
  max_stack = first.max_stack ∙ second.max_stack;
  code = first.code ∙ second.code;
  clauses = first.clauses ∙ second.clauses;
}

owner_kept : (method : Method) (owner : ℕ) → (method.is_static ≡ true) ⊎ (method.owner ≡ owner) → method.is_static ≡ false → method.owner ≡ owner
owner_kept method owner (inl static) instance = absurd (cc)
owner_kept method owner (inr same) instance = same

pub like_renamed : (method : Method) (name : List ℕ) (owner : ℕ) → (method.is_static ≡ true) ⊎ (method.owner ≡ owner) → AreAlike method (renamed method name owner)
like_renamed method name owner same = record { is_static = refl; owner = owner_kept method owner same; params = refl; ret = refl; locals = refl; max_stack = refl; code = refl; clauses = refl }

-- FIRSTS

-- those that were there keep theirs
kept_first : (methods : List Method) (firsts : List ℕ) (method : Method) (more number first : ℕ) → AreFirsts methods firsts → slice_get firsts number ≡ Some first → IsFirst (methods ++ method ∷ []) (firsts ++ more ∷ []) number first
kept_first methods firsts method more number first are at =
    let is = are.each number first at in
    let within : number < length firsts = slice_get_within firsts number first at in
    let here : number < length methods = omega (arith, within, are.count) in
    let earlier : first < length methods = omega (arith, here, is.earlier) in
    record {
      earlier = is.earlier;
      itself = still_there firsts (more ∷ []) first first is.itself;
      alike = λ one other one_at other_at. is.alike one other (pushed_below methods method first one earlier one_at) (pushed_below methods method number other here other_at);
    }

-- a first that the method that is added can have: its own number, or the first of one that is alike
abbrev pub CanBeFirst : List Method → List ℕ → Method → ℕ → Type 0
CanBeFirst methods firsts method first = (first ≡ length methods) ⊎ ((slice_get firsts first ≡ Some first) × ((one : Method) → slice_get methods first ≡ Some one → AreAlike one method))

new_first : (methods : List Method) (firsts : List ℕ) (method : Method) (number first : ℕ) → AreFirsts methods firsts → number ≡ length methods → CanBeFirst methods firsts method first → IsFirst (methods ++ method ∷ []) (firsts ++ first ∷ []) number first
new_first methods firsts method number first are last (inl own) = record {
  earlier = omega (arith, last, own);
  itself = ap (slice_get (firsts ++ first ∷ [])) (own ∙ sym are.count) ∙ last_there firsts first;
  alike = λ one other one_at other_at.
      let one_is : method ≡ one = pushed_last methods method first one own one_at in
      let other_is : method ≡ other = pushed_last methods method number other last other_at in
      subst (λ it. AreAlike it other) one_is (subst (AreAlike method) other_is (alike_itself method));
}
new_first methods firsts method number first are last (inr like) =
    let within : first < length firsts = slice_get_within firsts first first like.0 in
    let below : first < length methods = omega (arith, within, are.count) in
    record {
      earlier = omega (arith, last, below);
      itself = still_there firsts (first ∷ []) first first like.0;
      alike = λ one other one_at other_at.
          let other_is : method ≡ other = pushed_last methods method number other last other_at in
          subst (AreAlike one) other_is (like.1 one (pushed_below methods method first one below one_at));
    }

pub length_pushed : {X : Type 0} (xs : List X) (x : X) → length (xs ++ x ∷ []) ≡ suc (length xs)
length_pushed [] x = refl
length_pushed (y ∷ xs) x = ap suc (length_pushed xs x)

pub firsts_with : (methods : List Method) (firsts : List ℕ) (method : Method) (first : ℕ) → AreFirsts methods firsts → CanBeFirst methods firsts method first → AreFirsts (methods ++ method ∷ []) (firsts ++ first ∷ [])
firsts_with methods firsts method first are can = record {
  count = length_pushed firsts first ∙ ap suc are.count ∙ sym (length_pushed methods method);
  each = λ number its at. elim (pushed_cases firsts first number its at) [
    | inl there ↦ kept_first methods firsts method first number its are there
    | inr last ↦ subst (IsFirst (methods ++ method ∷ []) (firsts ++ first ∷ []) number) last.1 (new_first methods firsts method number first are (last.0 ∙ are.count) can)
  ];
}

-- where nothing was added, all is as it was
pub firsts_after : (methods : List Method) (firsts : List ℕ) (new_methods : List Method) (new_firsts : List ℕ) → new_methods ≡ methods → new_firsts ≡ firsts → AreFirsts methods firsts → AreFirsts new_methods new_firsts
firsts_after methods firsts new_methods new_firsts same_methods same_firsts are = subst (λ list. AreFirsts list new_firsts) (sym same_methods) (subst (AreFirsts methods) (sym same_firsts) are)

-- a method like that of a number takes its first
pub first_shared : (methods : List Method) (firsts : List ℕ) (number first : ℕ) (method like : Method) → AreFirsts methods firsts → slice_get firsts number ≡ Some first → slice_get methods number ≡ Some method → AreAlike method like → CanBeFirst methods firsts like first
first_shared methods firsts number first method like are at method_at same =
    let is = are.each number first at in
    inr (is.itself, λ one one_at. alike_through one method like (is.alike one method one_at method_at) same)

-- THE TABLE

-- what the table has at a number
pub read_first : (methods seen : List Method) (firsts : List ℕ) (number first : ℕ) → methods ≡ seen → AreFirsts methods firsts → number < length seen → first ≡ get_or firsts number first → IsFirst seen firsts number first
read_first methods seen firsts number first view are within is =
    let same : length methods ≡ length seen = ap length view in
    let there : number < length firsts = omega (arith, within, are.count, same) in
    let at : slice_get firsts number ≡ Some first = slice_get-get_or firsts number first there ∙ ap Some (sym is) in
    subst (λ list. IsFirst list firsts number first) view (are.each number first at)

-- the table after a push, whether it could be done or not
pub firsts_pushed : (methods : List Method) (firsts : List ℕ) (method : Method) (first : ℕ) (result : Result (Unit {0}) AllocError) (new_methods : List Method) (new_firsts : List ℕ) → AreFirsts methods firsts → CanBeFirst methods firsts method first
    → OnOk result (new_methods ≡ methods ++ method ∷ []) → OnOk result (new_firsts ≡ firsts ++ first ∷ []) → OnErr result ((new_methods ≡ methods) × (new_firsts ≡ firsts)) → AreFirsts new_methods new_firsts
firsts_pushed methods firsts method first (Ok done) new_methods new_firsts are can more_methods more_firsts kept =
    subst (λ list. AreFirsts list new_firsts) (sym more_methods) (subst (AreFirsts (methods ++ method ∷ [])) (sym more_firsts) (firsts_with methods firsts method first are can))
firsts_pushed methods firsts method first (Err fault) new_methods new_firsts are can more_methods more_firsts kept = firsts_after methods firsts new_methods new_firsts kept.0 kept.1 are

same_some : (one other : Method) → Some one ≡ Some other → one ≡ other
same_some one other is = cc

at_number : (methods seen : List Method) (number : ℕ) (method : Method) → methods ≡ seen → number < length seen → method ≡ get_or methods number method → slice_get seen number ≡ Some method
at_number methods seen number method view within is = slice_get-get_or seen number method within ∙ ap Some (sym (is ∙ ap (λ list. get_or list number method) view))

-- a method under another name can have the first of the one that it is like
pub renamed_can : (methods seen : List Method) (firsts : List ℕ) (number first : ℕ) (method like : Method) (name : List ℕ) (owner : ℕ) → methods ≡ seen → AreFirsts methods firsts → number < length seen → first ≡ get_or firsts number first → method ≡ get_or methods number method
    → ((it : Method) → slice_get seen number ≡ Some it → (it.is_static ≡ true) ⊎ (it.owner ≡ owner)) → like ≡ renamed method name owner → CanBeFirst methods firsts like first
renamed_can methods seen firsts number first method like name owner view are within is method_is same like_is =
    let lengths : length methods ≡ length seen = ap length view in
    let there : number < length firsts = omega (arith, within, are.count, lengths) in
    let at : slice_get firsts number ≡ Some first = slice_get-get_or firsts number first there ∙ ap Some (sym is) in
    let method_at : slice_get seen number ≡ Some method = at_number methods seen number method view within method_is in
    let alike : AreAlike method like = subst (AreAlike method) (sym like_is) (like_renamed method name owner (same method method_at)) in
    first_shared methods firsts number first method like are at (ap (λ list. slice_get list number) view ∙ method_at) alike

pub renamed_pushed : (methods seen : List Method) (number : ℕ) (method like : Method) (name : List ℕ) (owner : ℕ) (result : Result (Unit {0}) AllocError) (new_methods : List Method) → methods ≡ seen → number < length seen → method ≡ get_or methods number method → like ≡ renamed method name owner → OnOk result (new_methods ≡ methods ++ like ∷ [])
    → (it : Method) → slice_get seen number ≡ Some it → OnOk result (new_methods ≡ seen ++ renamed it name owner ∷ [])
renamed_pushed methods seen number method like name owner (Ok done) new_methods view within method_is like_is more it at =
    let same : method ≡ it = same_some method it (sym (at_number methods seen number method view within method_is) ∙ at) in
    more ∙ ap (λ list. list ++ like ∷ []) view ∙ ap (λ last. seen ++ last ∷ []) (like_is ∙ ap (λ x. renamed x name owner) same)
renamed_pushed methods seen number method like name owner (Err fault) new_methods view within method_is like_is more it at = tt
