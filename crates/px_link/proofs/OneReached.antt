-- What calls and overriding reach is one list, and so are its bodies and what `callvirt` names in them.
use Rattle.std.proofs.Common.{◌≡◌, ℕ, zero, suc, ◌+◌, ◌-◌, ◌<◌, ◌≤◌, true, List, [], ◌∷◌, ◌++◌, length, get_or, take, drop, Option, Some, None, Result, Ok, Err, refl, sym, ap, ◌∙◌, subst, ⊎_elim, append_assoc, take-add, arith}
use Rattle.std.specs.Prelude.{◌≢◌, slice_get}
use Rattle.std.specs.List.{AllPairs, AllZip, flat_map}
use Rattle.std.proofs.lemmas.Bool.{cases_lt}
use Rattle.std.proofs.lemmas.List.{take_all}
use Rattle.std.proofs.lemmas.List.Concat.{flat_map-append}
use Rattle.std.proofs.lemmas.Option.{slice_get-get_or, slice_get_within}
use Rattle.px_code.specs.Reading.{PlacedFault}
use Rattle.px_link_methods.proofs.RowPlaces.{beside}
use Rattle.px_meta.specs.Rows.{is_in}
use Rattle.px_pe.specs.Image as pe
use Rattle.px_tables.specs.Metadata.{View}
use Rattle.px_link_reach.specs.Bodies.{whole_at}
use Rattle.px_link_reach.specs.Met.{AreMet, IsBody, IsFirstRefused, IsReached, calls_at, each_once, virtual_targets_at}
use Rattle.px_link_reach.specs.declared.body.Whole.{Whole}
use Rattle.px_link_reach.specs.declared.methods.Reached.{Reached}
use Rattle.px_link_reach.proofs.Reaching.{once_apart, place_of}
use Rattle.px_link_reach.proofs.Sets.{added-append, added_behind, added_in}
use Rattle.px_link.proofs.OneLists.{place_alone, same_beside, stays_in_front}

-- FRONTS

listed : Option ℕ → List ℕ
listed None = []
listed (Some row) = row ∷ []

-- one more of a list
one_more_taken : (rows : List ℕ) (k : ℕ) → take (suc k) rows ≡ take k rows ++ listed (slice_get rows k)
unfolding listed
one_more_taken [] zero = refl
one_more_taken [] (suc k) = refl
one_more_taken (row ∷ rows) zero = refl
one_more_taken (row ∷ rows) (suc k) = ap (λ l. row ∷ l) (one_more_taken rows k)

-- the front of a front
front_of : (k n : ℕ) (rows : List ℕ) → k ≤ n → (more : List ℕ) × (take n rows ≡ take k rows ++ more)
front_of k n rows fewer =
    let level : n ≡ k + (n - k) = omega arith in
    (take (n - k) (drop k rows), ap (λ m. take m rows) level ∙ take-add k (n - k) rows)

front_twice : (k n : ℕ) (rows : List ℕ) → k ≤ n → take k (take n rows) ≡ take k rows
front_twice zero n [] fewer = refl
front_twice zero zero (row ∷ rows) fewer = refl
front_twice zero (suc n) (row ∷ rows) fewer = refl
front_twice (suc k) zero rows fewer = absurd (omega arith)
front_twice (suc k) (suc n) [] fewer = refl
front_twice (suc k) (suc n) (row ∷ rows) fewer = ap (λ l. row ∷ l) (front_twice k n rows (omega arith))

same_either_way : (one other : Option ℕ) → ((row : ℕ) → one ≡ Some row → other ≡ Some row) → ((row : ℕ) → other ≡ Some row → one ≡ Some row) → one ≡ other
same_either_way None None on back = refl
same_either_way None (Some row) on back = back row refl
same_either_way (Some row) other on back = sym (on row refl)

-- WHAT IS MET

module _ (v : View) (image : pe.View) (lists : List (List ℕ)) (starts : List ℕ) where
  -- what some methods lead to, with those to start with
  abbrev found : List ℕ → List ℕ
  found rows = starts ++ flat_map (calls_at v image lists) rows

  -- what is met begins with what the first methods lead to
  begins : (k n : ℕ) (rows : List ℕ) → k ≤ n → AreMet v image lists starts n rows → (more : List ℕ) × (rows ≡ each_once (found (take k rows)) ++ more)
  begins k n rows fewer met =
      let front = take k rows in
      let later = front_of k n rows fewer in
      let calls = flat_map (calls_at v image lists) later.0 in
      let parts : found (take n rows) ≡ found front ++ calls =
      ap found later.1 ∙ ap (λ l. starts ++ l) (flat_map-append (calls_at v image lists) front later.0) ∙ sym (append_assoc starts (flat_map (calls_at v image lists) front) calls) in
      let behind = added_behind (each_once (found front)) calls in
      (behind.0, met.same ∙ ap each_once parts ∙ added-append [] (found front) calls ∙ behind.1)

  apart_of : (n : ℕ) (rows : List ℕ) → AreMet v image lists starts n rows → AllPairs ◌≢◌ rows
  apart_of n rows met = subst (AllPairs ◌≢◌) (sym met.same) (once_apart (found (take n rows)))

  -- a method stands where the first methods lead to it
  led_to : (k n row : ℕ) (rows : List ℕ) → k ≤ n → AreMet v image lists starts n rows → slice_get rows k ≡ Some row → slice_get (each_once (found (take k rows))) k ≡ Some row
  led_to k n row rows fewer met at =
      let once = each_once (found (take k rows)) in
      let earlier : is_in (found (take k rows)) row ≡ true = subst (λ l. is_in (found l) row ≡ true) (front_twice k n rows fewer) (met.earlier k row at) in
      let place = place_of once row (added_in [] (found (take k rows)) row earlier) in
      let whole = begins k n rows fewer met in
      let there : slice_get rows place.0 ≡ Some row = subst (λ l. slice_get l place.0 ≡ Some row) (sym whole.1) (stays_in_front once whole.0 place.0 row place.1) in
      subst (λ j. slice_get once j ≡ Some row) (place_alone rows place.0 k row (apart_of n rows met) there at) place.1

  -- so where the first methods are the same, the next is
  next_too : (k n m row : ℕ) (rows others : List ℕ) → k ≤ n → k ≤ m → AreMet v image lists starts n rows → AreMet v image lists starts m others → take k rows ≡ take k others
      → slice_get rows k ≡ Some row → slice_get others k ≡ Some row
  next_too k n m row rows others fewer few met other_met same at =
      let led = led_to k n row rows fewer met at in
      let whole = begins k m others few other_met in
      let once = each_once (found (take k others)) in
      let there : slice_get once k ≡ Some row = subst (λ l. slice_get (each_once (found l)) k ≡ Some row) same led in
      subst (λ l. slice_get l k ≡ Some row) (sym whole.1) (stays_in_front once whole.0 k row there)

  pub same_fronts : (k n m : ℕ) (rows others : List ℕ) → k ≤ n → k ≤ m → AreMet v image lists starts n rows → AreMet v image lists starts m others → take k rows ≡ take k others
  same_fronts zero n m [] [] fewer few met other_met = refl
  same_fronts zero n m [] (other ∷ others) fewer few met other_met = refl
  same_fronts zero n m (row ∷ rows) [] fewer few met other_met = refl
  same_fronts zero n m (row ∷ rows) (other ∷ others) fewer few met other_met = refl
  same_fronts (suc k) n m rows others fewer few met other_met =
      let same = same_fronts k n m rows others (omega arith) (omega arith) met other_met in
      let next : slice_get rows k ≡ slice_get others k = same_either_way (slice_get rows k) (slice_get others k)
      (λ row at. next_too k n m row rows others (omega arith) (omega arith) met other_met same at)
      (λ row at. next_too k m n row others rows (omega arith) (omega arith) other_met met (sym same) at) in
      one_more_taken rows k ∙ ap (λ l. l ++ listed (slice_get rows k)) same ∙ ap (λ o. take k others ++ listed o) next ∙ sym (one_more_taken others k)

  -- the method of a number is the same wherever so many were looked at
  pub same_at : (k n m row : ℕ) (rows others : List ℕ) → k ≤ n → k ≤ m → AreMet v image lists starts n rows → AreMet v image lists starts m others → slice_get rows k ≡ Some row → slice_get others k ≡ Some row
  same_at k n m row rows others fewer few met other_met at = next_too k n m row rows others fewer few met other_met (same_fronts k n m rows others fewer few met other_met) at

  -- where all methods were looked at, no more are met
  not_fewer : (rows others : List ℕ) → AreMet v image lists starts (length rows) rows → AreMet v image lists starts (length others) others → length rows < length others → ⊥
  not_fewer rows others met other_met fewer =
      let n = length rows in
      let at = slice_get-get_or others n 0 fewer in
      let there = same_at n (length others) n (get_or others n 0) others rows (omega arith) (omega arith) other_met met at in
      let within = slice_get_within rows n (get_or others n 0) there in
      omega arith

  pub one_met : (rows others : List ℕ) → AreMet v image lists starts (length rows) rows → AreMet v image lists starts (length others) others → rows ≡ others
  one_met rows others met other_met =
      let n = length rows in
      let first : n < length others → ⊥ = not_fewer rows others met other_met in
      let second : length others < n → ⊥ = not_fewer others rows other_met met in
      let level : length others ≡ n = omega arith in
      sym (take_all n rows (omega arith)) ∙ same_fronts n n (length others) rows others (omega arith) (omega arith) met other_met ∙ take_all n others (omega arith)

  -- BODIES

  one_body : (row : ℕ) (one other : Whole) → IsBody v image row one → IsBody v image row other → one ≡ other
  one_body row one other is also = let same : ◌≡◌ {A = Result Whole PlacedFault} (Ok one) (Ok other) = sym is.read ∙ also.read in cc

  same_reached : (one other : Reached) → one.rows ≡ other.rows → one.bodies ≡ other.bodies → one.virtual_targets ≡ other.virtual_targets → one ≡ other
  same_reached one other rows bodies targets = λ i. record { rows = rows i; bodies = bodies i; virtual_targets = targets i }

  pub one_reached : (one other : Reached) → IsReached v image lists starts one → IsReached v image lists starts other → one ≡ other
  one_reached one other is also =
      let rows : one.rows ≡ other.rows = one_met one.rows other.rows is.met also.met in
      same_reached one other rows
      (same_beside (IsBody v image) one.rows one.bodies other.bodies one_body is.bodies (subst (λ l. AllZip (IsBody v image) l other.bodies) (sym rows) also.bodies))
      (is.virtual_targets ∙ ap (λ l. each_once (flat_map (virtual_targets_at v image) l)) rows ∙ sym also.virtual_targets)

  -- REFUSED BODIES

  read_or_refused : (row : ℕ) (whole : Whole) (fault : PlacedFault) → whole_at v image row ≡ Ok whole → whole_at v image row ≡ Err fault → ⊥
  read_or_refused row whole fault read refused = let both : ◌≡◌ {A = Result Whole PlacedFault} (Ok whole) (Err fault) = sym read ∙ refused in absurd (cc)

  -- where all bodies are read, none is refused
  pub never_refused : (reached : Reached) (number : ℕ) (fault : PlacedFault) → IsReached v image lists starts reached → IsFirstRefused v image lists starts number fault → ⊥
  never_refused reached number fault is refused = ⊎_elim within beyond (cases_lt count number)
    where
      count : ℕ
      count = length reached.rows

      beyond : number ≤ count → ⊥
      beyond few =
          let there = same_at number number count refused.method refused.rows reached.rows (omega arith) few refused.met is.met refused.at in
          let body = beside (IsBody v image) reached.rows reached.bodies is.bodies number refused.method there in
          read_or_refused refused.method body.0 fault body.1.1.read refused.refused

      within : count < number → ⊥
      within more =
          let longer : count < length refused.rows = let few = slice_get_within refused.rows number refused.method refused.at in omega arith in
          let next = get_or refused.rows count 0 in
          let there = same_at count number count next refused.rows reached.rows (omega arith) (omega arith) refused.met is.met (slice_get-get_or refused.rows count 0 longer) in
          let few = slice_get_within reached.rows count next there in
          omega arith
