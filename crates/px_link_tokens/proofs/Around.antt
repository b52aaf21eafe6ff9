-- The references around a reference to a type, and why a walk over them ends.
use Rattle.std.proofs.Common.{◌≡◌, ℕ, suc, ◌-◌, ◌<◌, Bool, true, false, List, [], ◌∷◌, ◌++◌, length, append_assoc, append-nil, Some, None, refl, sym, ap, ◌∙◌, subst, arith}
use Rattle.std.specs.Prelude.{◌==◌, ◌||◌}
use Rattle.std.specs.List.{AllByRecursion, IsDistinct, list_any}
use Rattle.std.proofs.Math.Dec.{eqb}
use Rattle.std.proofs.lemmas.Bool.{eqb-false, eqb-true, ne_eqb, or_parts}
use Rattle.std.proofs.lemmas.List.{length_push}
use Rattle.std.proofs.lemmas.List.Folds.{list_any-append}
use Rattle.std.proofs.lemmas.Map.Steps.{length-le_from_distinct_below}
use Rattle.px_meta.specs.Rows.{IsRow, count_of, is_in, type_refs}
use Rattle.px_tables.specs.Metadata.{View}
use Rattle.px_link_tokens.specs.Outside.{AreScopes, ComesBack, Ends, GoesOn, scope_of}

-- A walk over the references around a row is at one of them: whatever is around that one goes on behind those that were met.
pub record IsAround (v : View) (row : ℕ) (scopes : List ℕ) (at : ℕ) : Type 0 where
  pub there : IsRow v type_refs at
  pub met : AllByRecursion (IsRow v type_refs) scopes
  pub seen : List ℕ
  pub same : (other : ℕ) → is_in (at ∷ seen) other ≡ is_in (row ∷ scopes) other
  pub count : length seen ≡ length scopes
  pub distinct : IsDistinct eqb (at ∷ seen)
  pub below : (other : ℕ) → list_any (eqb other) (at ∷ seen) ≡ true → other < suc (count_of v type_refs)
  pub goes : (rest : List ℕ) → AreScopes v seen at rest → AreScopes v [] row (scopes ++ rest)

-- ROWS THAT WERE SEEN

apart : (other : ℕ) (seen : List ℕ) → is_in seen other ≡ false → AllByRecursion (λ row. eqb other row ≡ false) seen
apart other [] none = tt
apart other (row ∷ seen) none =
    let parts = or_parts (row == other) (is_in seen other) none in
    (ne_eqb other row (λ e. eqb-false row other parts.0 (sym e)), apart other seen parts.1)

distinct_by : (row : ℕ) (seen : List ℕ) → AllByRecursion (λ other. eqb row other ≡ false) seen → IsDistinct eqb seen → IsDistinct eqb (row ∷ seen)
unfolding IsDistinct
distinct_by row seen apart distinct = (apart, distinct)

none_distinct : IsDistinct eqb []
unfolding IsDistinct
none_distinct = tt

below_by : (other row bound : ℕ) (more test : Bool) → eqb other row ≡ test → row < bound → (more ≡ true → other < bound) → (test || more) ≡ true → other < bound
below_by other row bound more true is less later e = let same = eqb-true other row is in omega (arith, same, less)
below_by other row bound more false is less later e = later e

last_or_before : (a b : Bool) → (a || b) ≡ (b || (a || false))
last_or_before true true = refl
last_or_before true false = refl
last_or_before false true = refl
last_or_before false false = refl

-- THE WALK

pub around_begun : (v : View) (row : ℕ) (scopes : List ℕ) → scopes ≡ [] → IsRow v type_refs row → IsAround v row scopes row
around_begun v row scopes none is =
    subst (λ s. IsAround v row s row) (sym none) (record {
      there = is;
      met = tt;
      seen = [];
      same = λ other. refl;
      count = refl;
      distinct = distinct_by row [] tt none_distinct;
      below = λ other e. below_by other row (suc (count_of v type_refs)) false (eqb other row) refl (omega (arith, is.few)) (λ f. absurd (cc)) e;
      goes = λ rest around. around;
    })

each-push : {X : Type 0} (P : X → Type 0) (xs : List X) (x : X) → AllByRecursion P xs → P x → AllByRecursion P (xs ++ x ∷ [])
each-push P [] x each is = (is, tt)
each-push P (y ∷ ys) x each is = (each.0, each-push P ys x each.1 is)

pub around_on : (v : View) (row : ℕ) (scopes news : List ℕ) (at scope : ℕ) → IsAround v row scopes at → scope_of v at ≡ Some scope → IsRow v type_refs scope → is_in (row ∷ scopes) scope ≡ false → news ≡ scopes ++ scope ∷ []
    → IsAround v row news scope
around_on v row scopes news at scope around on is new e =
    let first = around.same scope ∙ new in
    subst (λ s. IsAround v row s scope) (sym e) (record {
      there = is;
      met = each-push (IsRow v type_refs) scopes scope around.met is;
      seen = at ∷ around.seen;
      same = λ other. ap (λ b. (scope == other) || b) (around.same other) ∙ last_or_before (scope == other) (is_in (row ∷ scopes) other)
          ∙ sym (list_any-append (λ r. r == other) (row ∷ scopes) (scope ∷ []));
      count = let one = length_push scopes scope in omega (arith, one, around.count);
      distinct = distinct_by scope (at ∷ around.seen) (apart scope (at ∷ around.seen) first) around.distinct;
      below = λ other f. below_by other scope (suc (count_of v type_refs)) (list_any (eqb other) (at ∷ around.seen)) (eqb other scope) refl (omega (arith, is.few)) (around.below other) f;
      goes = λ rest more. subst (AreScopes v [] row) (sym (append_assoc scopes (scope ∷ []) rest)) (around.goes (scope ∷ rest) (GoesOn around.seen at scope rest on first more));
    })

-- how many more may be met
abbrev pub scopes_left : View → List ℕ → ℕ
scopes_left v scopes = suc (count_of v type_refs) - length scopes

pub fewer_scopes : (v : View) (row : ℕ) (scopes news : List ℕ) (at scope : ℕ) → IsAround v row scopes at → news ≡ scopes ++ scope ∷ [] → scopes_left v news < scopes_left v scopes
fewer_scopes v row scopes news at scope around e =
    let few = length-le_from_distinct_below (at ∷ around.seen) (suc (count_of v type_refs)) around.distinct around.below in
    let one = ap length e ∙ length_push scopes scope in
    omega (arith, few, one, around.count)

pub around_ended : (v : View) (row : ℕ) (scopes : List ℕ) (at : ℕ) → IsAround v row scopes at → scope_of v at ≡ None → AreScopes v [] row scopes
around_ended v row scopes at around none = subst (AreScopes v [] row) (append-nil scopes) (around.goes [] (Ends around.seen at none))

pub around_back : (v : View) (row : ℕ) (scopes : List ℕ) (at scope : ℕ) → IsAround v row scopes at → scope_of v at ≡ Some scope → is_in (row ∷ scopes) scope ≡ true → AreScopes v [] row scopes
around_back v row scopes at scope around on met =
    subst (AreScopes v [] row) (append-nil scopes) (around.goes [] (ComesBack around.seen at scope on (around.same scope ∙ met)))
