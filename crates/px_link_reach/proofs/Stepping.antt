-- One method after another is looked at.
use Rattle.std.proofs.Common.{◌≡◌, ℕ, zero, suc, ◌+◌, ◌<◌, ◌≤◌, true, List, [], ◌∷◌, ◌++◌, length, take, Some, Result, Err, refl, sym, ap, ◌∙◌, subst, append_assoc, inl, inr, arith}
use Rattle.std.specs.Prelude.{IfErr, IsOk, slice_get}
use Rattle.std.specs.List.{AllZip, flat_map}
use Rattle.std.proofs.lemmas.Bool.{cases_lt}
use Rattle.std.proofs.lemmas.List.{append-nil, length-append, length-take, take-append-le, take_all}
use Rattle.std.proofs.lemmas.List.Concat.{flat_map-append}
use Rattle.std.proofs.lemmas.Option.{slice_get_within}
use Rattle.px_code.specs.Reading.{PlacedFault}
use Rattle.px_meta.specs.Rows.{is_in}
use Rattle.px_pe.specs.Image as pe
use Rattle.px_tables.specs.Metadata.{View}
use Rattle.px_link_reach.specs.Bodies.{whole_at}
use Rattle.px_link_reach.specs.Finding.{AreKept, AreUnderWay, IsKnown, IsRefused, Refuses, Visits}
use Rattle.px_link_reach.specs.Met.{AreMet, Blames, IsBody, IsFirstRefused, IsReached, add_new, calls_at, each_once, virtual_targets_at}
use Rattle.px_link_reach.specs.declared.body.Whole.{Whole}
use Rattle.px_link_reach.specs.declared.known.Known.{Known}
use Rattle.px_link_reach.specs.declared.methods.ReachFault.{ReachFault}
use Rattle.px_link_reach.specs.declared.methods.ReachFault.TheVariants as faults
use Rattle.px_link_reach.specs.declared.methods.Reached.{Reached}
use Rattle.px_link_reach.proofs.Zips.{zip_at}
use Rattle.px_link_reach.proofs.Sets.{added-append, added_behind, in_at, in_left, in_once}

-- PLACES

at_front : {X : Type 0} (xs ys : List X) (k : ℕ) (x : X) → k < length xs → slice_get (xs ++ ys) k ≡ Some x → slice_get xs k ≡ Some x
at_front [] ys k x less e = absurd (omega arith)
at_front (z ∷ xs) ys zero x less e = e
at_front (z ∷ xs) ys (suc k) x less e = at_front xs ys k x (omega arith) e

in_front : {X : Type 0} (n : ℕ) (xs : List X) (k : ℕ) (x : X) → k < n → slice_get xs k ≡ Some x → slice_get (take n xs) k ≡ Some x
in_front zero xs k x less e = absurd (omega arith)
in_front (suc n) [] k x less e = absurd (cc)
in_front (suc n) (z ∷ xs) zero x less e = e
in_front (suc n) (z ∷ xs) (suc k) x less e = in_front n xs k x (omega arith) e

pub take_next : {X : Type 0} (xs ys : List X) (n : ℕ) (x : X) → slice_get xs n ≡ Some x → take (suc n) (xs ++ ys) ≡ take n xs ++ x ∷ []
take_next [] ys n x e = absurd (cc)
take_next (z ∷ xs) ys zero x e = let same : z ≡ x = cc in ap (λ y. y ∷ []) same
take_next (z ∷ xs) ys (suc n) x e = ap (λ l. z ∷ l) (take_next xs ys n x e)

-- what more methods lead to
leads_on : {X : Type 0} (f : X → List ℕ) (xs ys : List X) (n : ℕ) (x : X) → slice_get xs n ≡ Some x → flat_map f (take (n + 1) (xs ++ ys)) ≡ flat_map f (take n xs) ++ f x
leads_on f xs ys n x e =
    let one : n + 1 ≡ suc n = omega arith in
    ap (λ m. flat_map f (take m (xs ++ ys))) one ∙ ap (flat_map f) (take_next xs ys n x e) ∙ flat_map-append f (take n xs) (x ∷ []) ∙ ap (λ l. flat_map f (take n xs) ++ l) (append-nil (f x))

once_more : (front xs more : List ℕ) → add_new (each_once (front ++ xs)) more ≡ each_once (front ++ (xs ++ more))
once_more front xs more = sym (added-append [] (front ++ xs) more) ∙ ap each_once (append_assoc front xs more)

-- METHODS THAT ARE MET

pub met_first : (v : View) (image : pe.View) (lists : List (List ℕ)) (starts rows : List ℕ) → rows ≡ add_new [] starts → AreMet v image lists starts 0 rows
met_first v image lists starts rows e = record {
  same = e ∙ ap each_once (sym (append-nil starts));
  earlier = λ k row at. in_left starts _ row (in_once starts row (subst (λ l. is_in l row ≡ true) e (in_at rows k row at)));
}

met_earlier : (v : View) (image : pe.View) (lists : List (List ℕ)) (starts rows more : List ℕ) (n method : ℕ) → AreMet v image lists starts n rows → slice_get rows n ≡ Some method
    → rows ++ more ≡ each_once (starts ++ flat_map (calls_at v image lists) (take (n + 1) (rows ++ more)))
    → (k row : ℕ) → slice_get (rows ++ more) k ≡ Some row → is_in (starts ++ flat_map (calls_at v image lists) (take k (take (n + 1) (rows ++ more)))) row ≡ true
met_earlier v image lists starts rows more n method met at same k row here =
    let within : n < length rows = slice_get_within rows n method at in
    let front = take n rows in
    let count : length front ≡ n = let l = length-take n rows in omega arith in
    let one : n + 1 ≡ suc n = omega arith in
    let next : take (n + 1) (rows ++ more) ≡ front ++ method ∷ [] = ap (λ m. take m (rows ++ more)) one ∙ take_next rows more n method at in
    elim (cases_lt n k) [
      | inl later ↦
          let all : take k (take (n + 1) (rows ++ more)) ≡ take (n + 1) (rows ++ more) = take_all k (take (n + 1) (rows ++ more)) (let l = length-take (n + 1) (rows ++ more) in omega arith) in
          subst (λ l. is_in (starts ++ flat_map (calls_at v image lists) l) row ≡ true) (sym all)
          (in_once _ row (subst (λ l. is_in l row ≡ true) same (in_at (rows ++ more) k row here)))
      | inr before ↦
          let shorter : take k (take (n + 1) (rows ++ more)) ≡ take k front = ap (take k) next ∙ take-append-le k front (method ∷ []) (omega arith) in
          subst (λ l. is_in (starts ++ flat_map (calls_at v image lists) l) row ≡ true) (sym shorter)
          (met.earlier k row (at_front rows more k row (omega arith) here))
    ]

met_behind : (v : View) (image : pe.View) (lists : List (List ℕ)) (starts rows more : List ℕ) (n method : ℕ) → AreMet v image lists starts n rows → slice_get rows n ≡ Some method
    → rows ++ more ≡ add_new rows (calls_at v image lists method) → AreMet v image lists starts (n + 1) (rows ++ more)
met_behind v image lists starts rows more n method met at e =
    let find = calls_at v image lists in
    let same : rows ++ more ≡ each_once (starts ++ flat_map find (take (n + 1) (rows ++ more)))
    = e ∙ ap (λ l. add_new l (find method)) met.same ∙ once_more starts (flat_map find (take n rows)) (find method)
    ∙ ap (λ l. each_once (starts ++ l)) (sym (leads_on find rows more n method at)) in
    record { same = same; earlier = met_earlier v image lists starts rows more n method met at same }

-- THE LOOP

pub under_way_first : (v : View) (image : pe.View) (lists : List (List ℕ)) (starts rows targets : List ℕ) (known : Known) → rows ≡ add_new [] starts → targets ≡ [] → IsKnown v image [] known → AreKept v lists rows targets
    → AreUnderWay v image lists starts 0 rows targets known
under_way_first v image lists starts rows targets known e f is kept = record {
  within = omega arith;
  met = met_first v image lists starts rows e;
  known_is = is;
  targets_are = f;
  kept = kept;
}

under_way_behind : (v : View) (image : pe.View) (lists : List (List ℕ)) (starts rows more targets after_targets : List ℕ) (known after_known : Known) (n : ℕ) → AreUnderWay v image lists starts n rows targets known
    → Visits v image lists rows targets n (rows ++ more) after_targets → AreKept v lists (rows ++ more) after_targets → IsKnown v image (take (n + 1) (rows ++ more)) after_known
    → AreUnderWay v image lists starts (n + 1) (rows ++ more) after_targets after_known
under_way_behind v image lists starts rows more targets after_targets known after_known n under visits kept is =
    let within : n < length rows = slice_get_within rows n visits.method visits.at in
    let find = virtual_targets_at v image in
    record {
      within = let l = length-append rows more in omega arith;
      met = met_behind v image lists starts rows more n visits.method under.met visits.at visits.met;
      known_is = is;
      targets_are = visits.targets_met ∙ ap (λ l. add_new l (find visits.method)) under.targets_are ∙ once_more [] (flat_map find (take n rows)) (find visits.method)
          ∙ ap each_once (sym (leads_on find rows more n visits.method visits.at));
      kept = kept;
    }

pub under_way_next : (v : View) (image : pe.View) (lists : List (List ℕ)) (starts rows after targets after_targets : List ℕ) (known after_known : Known) (n : ℕ) → AreUnderWay v image lists starts n rows targets known
    → Visits v image lists rows targets n after after_targets → AreKept v lists after after_targets → IsKnown v image (take (n + 1) after) after_known
    → AreUnderWay v image lists starts (n + 1) after after_targets after_known
under_way_next v image lists starts rows after targets after_targets known after_known n under visits kept knows =
    let behind = added_behind rows (calls_at v image lists visits.method) in
    let is : after ≡ rows ++ behind.0 = visits.met ∙ behind.1 in
    subst (λ l. AreUnderWay v image lists starts (n + 1) l after_targets after_known) (sym is)
    (under_way_behind v image lists starts rows behind.0 targets after_targets known after_known n under
    (subst (λ l. Visits v image lists rows targets n l after_targets) is visits)
    (subst (λ l. AreKept v lists l after_targets) is kept)
    (subst (λ l. IsKnown v image (take (n + 1) l) after_known) is knows))

-- all are looked at
pub reached : (v : View) (image : pe.View) (lists : List (List ℕ)) (starts rows targets : List ℕ) (known : Known) (n : ℕ) (result : Reached) → AreUnderWay v image lists starts n rows targets known → length rows ≤ n
    → result.rows ≡ rows → result.bodies ≡ known.bodies → result.virtual_targets ≡ targets → IsReached v image lists starts result
reached v image lists starts rows targets known n result under end e f g =
    let count : n ≡ length rows = let within = under.within in omega arith in
    let all : take n rows ≡ rows = take_all n rows end in
    record {
      met = subst (λ l. AreMet v image lists starts (length l) l) (sym e) (subst (λ m. AreMet v image lists starts m rows) count under.met);
      bodies = subst (λ l. AllZip (IsBody v image) l result.bodies) (sym e) (subst (AllZip (IsBody v image) rows) (sym f) (subst (λ l. AllZip (IsBody v image) l known.bodies) all under.known_is.bodies));
      virtual_targets = g ∙ under.targets_are ∙ ap (λ l. each_once (flat_map (virtual_targets_at v image) l)) (all ∙ sym e);
    }

-- FAULTS

read_ok : (v : View) (image : pe.View) (method : ℕ) (whole : Whole) → IsBody v image method whole → IsOk (whole_at v image method)
read_ok v image method whole is = subst IsOk (sym is.read) refl

first_refused : (v : View) (image : pe.View) (lists : List (List ℕ)) (starts rows targets : List ℕ) (known : Known) (n number : ℕ) (fault : PlacedFault) → AreUnderWay v image lists starts n rows targets known
    → Refuses v image rows n number fault → IsFirstRefused v image lists starts number fault
first_refused v image lists starts rows targets known n number fault under refuses =
    subst (λ m. IsFirstRefused v image lists starts m fault) (sym refuses.number_is)
    (record {
      rows = rows;
      met = under.met;
      method = refuses.method;
      at = refuses.at;
      refused = refuses.refused;
      first = λ k other less at. let is = zip_at (IsBody v image) (take n rows) known.bodies k other under.known_is.bodies (in_front n rows k other less at) in read_ok v image other is.0 is.1;
    })

pub blamed : (v : View) (image : pe.View) (lists : List (List ℕ)) (starts rows targets : List ℕ) (known : Known) (n : ℕ) (fault : ReachFault) → AreUnderWay v image lists starts n rows targets known
    → IsRefused v image rows n fault → Blames v image lists starts fault
blamed v image lists starts rows targets known n faults.Memory under is = tt
blamed v image lists starts rows targets known n (faults.Bad kind at number) under is = first_refused v image lists starts rows targets known n number (kind, at) under is

-- a fault that is handed on
pub handed_on : {T E : Type 0} (P : E → Type 0) (r : Result T E) (e f : E) → r ≡ Err e → e ≡ f → P f → IfErr r P
handed_on P r e f is same says = subst (λ x. IfErr x P) (sym is) (subst P (sym same) says)
