-- The first of some methods that has an address, and the bodies of methods with one address.
use Rattle.std.proofs.Common.{◌≡◌, ℕ, suc, ◌+◌, Bool, true, false, cond, List, [], ◌∷◌, ◌++◌, length, inl, inr, Option, Some, None, Ok, refl, sym, ap, ◌∙◌, subst, eqb-true, arith}
use Rattle.std.specs.Prelude.{◌==◌, if◌then◌else◌, nat_lt, not, position, slice_get}
use Rattle.std.specs.BTreeMap.{BTreeMap, Updates, get, is_at}
use Rattle.std.specs.List.{AllZip, position_or_len}
use Rattle.std.specs.Map.{lookup}
use Rattle.std.specs.Option.{option_and_then, option_map, option_or}
use Rattle.std.specs.Ordering.{nat_cmp}
use Rattle.std.proofs.lemmas.Bool.{cond_both, cond-true, cond-false, le-ltb, lt-ltb, ltb-false, ltb-true}
use Rattle.std.proofs.lemmas.Bool.Decides.{nat_tests}
use Rattle.std.proofs.lemmas.Option.{slice_get_cases, slice_get_within}
use Rattle.px_meta.specs.Rows.{cell, methods}
use Rattle.px_pe.specs.Image as pe
use Rattle.px_reading.specs.Reading.{◌>>=◌}
use Rattle.px_tables.specs.Metadata.{View}
use Rattle.px_link_reach.specs.Bodies.{body_at, no_body, whole_at, whole_of}
use Rattle.px_link_reach.specs.Finding.{AreWithin, IsKnown}
use Rattle.px_link_reach.specs.Met.{IsBody}
use Rattle.px_link_reach.specs.declared.body.Whole.{Whole}
use Rattle.px_link_reach.specs.declared.known.Known.{Known}
use Rattle.px_link_reach.proofs.Zips.{zip_both, zip_length, zip_next}

-- ONE ADDRESS, ONE BODY

-- nothing of a method but its address is read
pub same_whole : (v : View) (image : pe.View) (method other : ℕ) → cell v methods other 0 ≡ cell v methods method 0 → whole_at v image other ≡ whole_at v image method
same_whole v image method other same = ap (λ at. if at == 0 then Ok no_body else (body_at image at >>= whole_of v)) same

pub same_body : (v : View) (image : pe.View) (method other : ℕ) (whole : Whole) → cell v methods other 0 ≡ cell v methods method 0 → IsBody v image other whole → IsBody v image method whole
same_body v image method other whole same is = record {
  read = sym (same_whole v image method other same) ∙ is.read;
  formed = λ some. is.formed (λ none. some (sym same ∙ none));
}

-- THE FIRST THAT PASSES

-- keys that differ
is_at_apart : (a b : ℕ) → (a == b) ≡ false → is_at (nat_cmp a) b ≡ false
is_at_apart a b apart = grind (arith, nat_tests)

position_step : (b : Bool) (k l : ℕ) → cond (nat_lt (cond (not b) (1 + k) 0) (suc l)) (Some (cond (not b) (1 + k) 0)) None ≡ cond b (Some 0) (option_map suc (cond (nat_lt k l) (Some k) None))
position_step true k l = cond-true (nat_lt 0 (suc l)) (Some 0) None (lt-ltb 0 (suc l) (omega arith))
position_step false k l =
    let one : 1 + k ≡ suc k = omega arith in
    cond_both (nat_lt k l) (Some k) None (λ o. cond (nat_lt (1 + k) (suc l)) (Some (1 + k)) None ≡ option_map suc o)
    (λ less. let is = ltb-true k l less in cond-true (nat_lt (1 + k) (suc l)) (Some (1 + k)) None (lt-ltb (1 + k) (suc l) (omega arith)) ∙ ap Some one)
    (λ more. let is = ltb-false k l more in cond-false (nat_lt (1 + k) (suc l)) (Some (1 + k)) None (le-ltb (1 + k) (suc l) (omega arith)))

position_cons : {X : Type 0} (p : X → Bool) (x : X) (xs : List X) → position p (x ∷ xs) ≡ cond (p x) (Some 0) (option_map suc (position p xs))
position_cons p x xs = position_step (p x) (position_or_len p xs) (length xs)

-- what is first passes
pub record Passes {X : Type 0} (p : X → Bool) (xs : List X) (k : ℕ) : Type 0 where
  pub x : X
  pub at : slice_get xs k ≡ Some x
  pub passes : p x ≡ true

passes_later : {X : Type 0} (p : X → Bool) (x : X) (xs : List X) (o : Option ℕ) (k : ℕ) → ((j : ℕ) → o ≡ Some j → Passes p xs j) → option_map suc o ≡ Some k → Passes p (x ∷ xs) k
passes_later p x xs None k later e = absurd (cc)
passes_later p x xs (Some j) k later e =
    let rest = later j refl in
    let next : suc j ≡ k = cc in
    subst (Passes p (x ∷ xs)) next (record { x = rest.x; at = rest.at; passes = rest.passes })

passes_here : {X : Type 0} (p : X → Bool) (x : X) (xs : List X) (k : ℕ) → p x ≡ true → Some 0 ≡ Some k → Passes p (x ∷ xs) k
passes_here p x xs k is e = let first : 0 ≡ k = cc in subst (Passes p (x ∷ xs)) first (record { x = x; at = refl; passes = is })

pub first_passes : {X : Type 0} (p : X → Bool) (xs : List X) (k : ℕ) → position p xs ≡ Some k → Passes p xs k
first_passes p [] k e = absurd (cc)
first_passes p (x ∷ xs) k e =
    cond_both (p x) (Some 0) (option_map suc (position p xs)) (λ o. o ≡ Some k → Passes p (x ∷ xs) k)
    (λ is. passes_here p x xs k is)
    (λ not_yet. passes_later p x xs (position p xs) k (first_passes p xs))
    (sym (position_cons p x xs) ∙ e)

-- one more
next_suc : (b : Bool) (o : Option ℕ) (n : ℕ) → option_map suc (option_or o (cond b (Some n) None)) ≡ option_or (option_map suc o) (cond b (Some (suc n)) None)
next_suc b (Some k) n = refl
next_suc true None n = refl
next_suc false None n = refl

pub position_next : {X : Type 0} (p : X → Bool) (xs : List X) (y : X) → position p (xs ++ y ∷ []) ≡ option_or (position p xs) (cond (p y) (Some (length xs)) None)
position_next p [] y = position_cons p y []
position_next p (x ∷ xs) y =
    position_cons p x (xs ++ y ∷ [])
    ∙ cond_both (p x) (Some 0) (option_map suc (position p xs)) (λ o. cond (p x) (Some 0) (option_map suc (position p (xs ++ y ∷ []))) ≡ option_or o (cond (p y) (Some (suc (length xs))) None))
    (λ is. cond-true (p x) (Some 0) _ is)
    (λ not_yet. cond-false (p x) (Some 0) _ not_yet ∙ ap (option_map suc) (position_next p xs y) ∙ next_suc (p y) (position p xs) (length xs))
    ∙ ap (λ o. option_or o (cond (p y) (Some (suc (length xs))) None)) (sym (position_cons p x xs))

-- WHAT IS KNOWN

pub known_first : (v : View) (image : pe.View) (known : Known) → known.bodies ≡ [] → known.firsts.entries ≡ [] → IsKnown v image [] known
known_first v image known none empty = record {
  bodies = subst (AllZip (IsBody v image) []) (sym none) tt;
  firsts = λ at. ap (lookup (is_at (nat_cmp at))) empty;
}

-- a method that is known has its address
has_address : (v : View) (image : pe.View) (rows : List ℕ) (known : Known) (at k : ℕ) → IsKnown v image rows known → get nat_cmp known.firsts at ≡ Some k → Passes (λ method. cell v methods method 0 == at) rows k
has_address v image rows known at k is e = first_passes (λ method. cell v methods method 0 == at) rows k (sym (is.firsts at) ∙ e)

-- each place of a first has a body
pub known_within : (v : View) (image : pe.View) (rows : List ℕ) (known : Known) → IsKnown v image rows known → AreWithin known
known_within v image rows known is at k e =
    let has = has_address v image rows known at k is e in
    let within = slice_get_within rows k has.x has.at in
    let same = zip_length (IsBody v image) rows known.bodies is.bodies in
    omega arith

-- the first method with an address, and its body
pub record Shares (v : View) (image : pe.View) (rows : List ℕ) (at : ℕ) (whole : Whole) : Type 0 where
  pub k : ℕ
  pub method : ℕ
  pub is_at : slice_get rows k ≡ Some method
  pub address : cell v methods method 0 ≡ at
  pub body : IsBody v image method whole

shares_by : (v : View) (image : pe.View) (rows : List ℕ) (known : Known) (at : ℕ) (whole : Whole) (o : Option ℕ) → IsKnown v image rows known → get nat_cmp known.firsts at ≡ o
    → option_and_then (slice_get known.bodies) o ≡ Some whole → Shares v image rows at whole
shares_by v image rows known at whole None is e f = absurd (cc)
shares_by v image rows known at whole (Some k) is e f =
    let has = has_address v image rows known at k is e in
    record {
      k = k;
      method = has.x;
      is_at = has.at;
      address = eqb-true (cell v methods has.x 0) at has.passes;
      body = zip_both (IsBody v image) rows known.bodies k has.x whole is.bodies has.at f;
    }

pub shares : (v : View) (image : pe.View) (rows : List ℕ) (known : Known) (at : ℕ) (whole : Whole) → IsKnown v image rows known
    → option_and_then (slice_get known.bodies) (get nat_cmp known.firsts at) ≡ Some whole → Shares v image rows at whole
shares v image rows known at whole is f = shares_by v image rows known at whole (get nat_cmp known.firsts at) is refl f

-- a body that isn't known is that of no method before
new_by : (known : Known) (at : ℕ) (o : Option ℕ) → AreWithin known → get nat_cmp known.firsts at ≡ o → option_and_then (slice_get known.bodies) o ≡ None → o ≡ None
new_by known at None within e f = refl
new_by known at (Some k) within e f =
    let less = within at k e in
    elim (slice_get_cases known.bodies k).1 [ inl there ↦ absurd (let is = sym f ∙ there.2 in cc) | inr past ↦ absurd (let much = past.0 in omega arith) ]

pub is_new : (known : Known) (at : ℕ) → AreWithin known → option_and_then (slice_get known.bodies) (get nat_cmp known.firsts at) ≡ None → get nat_cmp known.firsts at ≡ None
is_new known at within f = new_by known at (get nat_cmp known.firsts at) within refl f

-- ONE MORE METHOD

known_or : (o q : Option ℕ) (k : ℕ) → o ≡ Some k → option_or o q ≡ o
known_or (Some j) q k e = refl
known_or None q k e = absurd (cc)

none_or : (o q : Option ℕ) → o ≡ None → option_or o q ≡ q
none_or (Some j) q e = absurd (cc)
none_or None q e = refl

or_none : (o : Option ℕ) → option_or o None ≡ o
or_none (Some j) = refl
or_none None = refl

-- a method with the address of one before
shared_firsts : (v : View) (rows : List ℕ) (method k at : ℕ) → position (λ other. cell v methods other 0 == cell v methods method 0) rows ≡ Some k
    → position (λ other. cell v methods other 0 == at) (rows ++ method ∷ []) ≡ position (λ other. cell v methods other 0 == at) rows
shared_firsts v rows method k at e =
    position_next (λ other. cell v methods other 0 == at) rows method
    ∙ cond_both (cell v methods method 0 == at) (Some (length rows)) None (λ o. option_or (position (λ other. cell v methods other 0 == at) rows) o ≡ position (λ other. cell v methods other 0 == at) rows)
    (λ same. known_or _ (Some (length rows)) k (subst (λ a. position (λ other. cell v methods other 0 == a) rows ≡ Some k) (eqb-true (cell v methods method 0) at same) e))
    (λ apart. or_none _)

-- the number of the first method that has an address
first_of : (v : View) (image : pe.View) (rows : List ℕ) (known : Known) (at : ℕ) (whole : Whole) (o : Option ℕ) → position (λ method. cell v methods method 0 == at) rows ≡ o
    → option_and_then (slice_get known.bodies) o ≡ Some whole → (k : ℕ) × (position (λ method. cell v methods method 0 == at) rows ≡ Some k)
first_of v image rows known at whole None e f = absurd (cc)
first_of v image rows known at whole (Some k) e f = (k, e)

pub known_shared : (v : View) (image : pe.View) (rows : List ℕ) (method : ℕ) (known after : Known) (whole : Whole) → IsKnown v image rows known
    → option_and_then (slice_get known.bodies) (get nat_cmp known.firsts (cell v methods method 0)) ≡ Some whole → after.bodies ≡ known.bodies ++ whole ∷ [] → after.firsts ≡ known.firsts
    → IsKnown v image (rows ++ method ∷ []) after
known_shared v image rows method known after whole is found e same =
    let shared = shares v image rows known (cell v methods method 0) whole is found in
    let first = first_of v image rows known (cell v methods method 0) whole (position (λ other. cell v methods other 0 == cell v methods method 0) rows) refl
    (ap (option_and_then (slice_get known.bodies)) (sym (is.firsts (cell v methods method 0))) ∙ found) in
    record {
      bodies = subst (AllZip (IsBody v image) (rows ++ method ∷ [])) (sym e) (zip_next (IsBody v image) rows known.bodies method whole is.bodies (same_body v image method shared.method whole shared.address shared.body));
      firsts = λ at. ap (λ m. get nat_cmp m at) same ∙ is.firsts at ∙ sym (shared_firsts v rows method first.0 at first.1);
    }

-- a method whose address is new
new_firsts : (v : View) (rows : List ℕ) (method at : ℕ) (firsts after : BTreeMap ℕ ℕ) → ((at : ℕ) → get nat_cmp firsts at ≡ position (λ other. cell v methods other 0 == at) rows)
    → get nat_cmp firsts (cell v methods method 0) ≡ None → Updates nat_cmp firsts after (cell v methods method 0) (Some (length rows))
    → get nat_cmp after at ≡ position (λ other. cell v methods other 0 == at) (rows ++ method ∷ [])
new_firsts v rows method at firsts after is none updates =
    cond_both (cell v methods method 0 == at) (Some (length rows)) None (λ o. get nat_cmp after at ≡ option_or (position (λ other. cell v methods other 0 == at) rows) o)
    (λ same.
    let this : cell v methods method 0 ≡ at = eqb-true (cell v methods method 0) at same in
    subst (λ a. get nat_cmp after a ≡ option_or (position (λ other. cell v methods other 0 == a) rows) (Some (length rows))) this
    (updates.1 ∙ sym (none_or _ (Some (length rows)) (sym (is (cell v methods method 0)) ∙ none))))
    (λ apart. updates.2 at (is_at_apart (cell v methods method 0) at apart) ∙ is at ∙ sym (or_none _))
    ∙ sym (position_next (λ other. cell v methods other 0 == at) rows method)

pub known_new : (v : View) (image : pe.View) (rows : List ℕ) (method : ℕ) (known after : Known) (whole : Whole) → IsKnown v image rows known → IsBody v image method whole
    → get nat_cmp known.firsts (cell v methods method 0) ≡ None → after.bodies ≡ known.bodies ++ whole ∷ [] → Updates nat_cmp known.firsts after.firsts (cell v methods method 0) (Some (length known.bodies))
    → IsKnown v image (rows ++ method ∷ []) after
known_new v image rows method known after whole is body none e updates =
    let count : length known.bodies ≡ length rows = sym (zip_length (IsBody v image) rows known.bodies is.bodies) in
    record {
      bodies = subst (AllZip (IsBody v image) (rows ++ method ∷ [])) (sym e) (zip_next (IsBody v image) rows known.bodies method whole is.bodies body);
      firsts = λ at. new_firsts v rows method at known.firsts after.firsts is.firsts none (subst (λ n. Updates nat_cmp known.firsts after.firsts (cell v methods method 0) (Some n)) count updates);
    }
