-- The method of a number is looked at.
use Rattle.std.proofs.Common.{◌≡◌, ℕ, suc, ◌+◌, ◌<◌, ◌^◌, List, [], ◌∷◌, ◌++◌, get_or, length, take, Some, None, true, refl, sym, ap, ◌∙◌, subst, arith}
use Rattle.std.specs.Prelude.{slice_get}
use Rattle.std.specs.BTreeMap.{Updates, get}
use Rattle.std.specs.List.{flat_map}
use Rattle.std.specs.Option.{option_and_then}
use Rattle.std.specs.Ordering.{nat_cmp}
use Rattle.std.proofs.lemmas.List.{append-nil, length-take}
use Rattle.std.proofs.lemmas.Option.{slice_get-get_or}
use Rattle.px_code.specs.Reading.{Fails}
use Rattle.px_code.specs.declared.body.BodyFault.{BodyFault}
use Rattle.px_code.specs.declared.body.BodyFault.TheVariants as bodies
use Rattle.px_meta.specs.Rows.{cell, is_in, methods}
use Rattle.px_pe.specs.Image as pe
use Rattle.px_tables.specs.Metadata.{View}
use Rattle.px_link_reach.specs.Bodies.{whole_at}
use Rattle.px_link_reach.specs.Finding.{AreCalled, AreIn, AreUnderWay, IsKnown, IsRefused, Visits, refused_by}
use Rattle.px_link_reach.specs.Met.{IsBody, add_new, calls_at, calls_of, in_body, virtual_target_of, virtual_targets_at}
use Rattle.px_link_reach.specs.declared.body.Whole.{Whole}
use Rattle.px_link_reach.specs.declared.known.Known.{Known}
use Rattle.px_link_reach.proofs.Firsts.{is_new, known_new, known_shared, known_within, same_whole, shares}
use Rattle.px_link_reach.proofs.Reaching.{leads}
use Rattle.px_link_reach.proofs.Sets.{added_behind, added_in, added_none, all_added, each_from, each_in, in_right}
use Rattle.px_link_reach.proofs.Stepping.{take_next}
use Rattle.px_link_reach.proofs.Zips.{zip_length}

-- what the methods that are looked at call is met
pub called_met : (v : View) (image : pe.View) (lists : List (List ℕ)) (starts rows targets : List ℕ) (known : Known) (n : ℕ) → AreUnderWay v image lists starts n rows targets known → AreCalled v image lists (take n rows) rows targets
called_met v image lists starts rows targets known n under =
    let called = flat_map (calls_at v image lists) (take n rows) in
    let named = flat_map (virtual_targets_at v image) (take n rows) in
    record {
      calls = subst (λ l. AreIn l called) (sym under.met.same) (each_from (λ row. is_in (add_new [] (starts ++ called)) row ≡ true) called (λ row is. added_in [] (starts ++ called) row (in_right starts called row is)));
      virtual_targets = subst (λ l. AreIn l named) (sym under.targets_are) (all_added [] named);
    }

-- what one of some methods leads to is there where all that they lead to is
one_of : (f : ℕ → List ℕ) (rows callers : List ℕ) (k method : ℕ) → AreIn rows (flat_map f callers) → slice_get callers k ≡ Some method → AreIn rows (f method)
one_of f rows callers k method all at =
    each_from (λ row. is_in rows row ≡ true) (f method) (λ row is. each_in (λ r. is_in rows r ≡ true) (flat_map f callers) row all (leads f callers k method row at is))

pub next_taken : (rows more after : List ℕ) (n method : ℕ) → after ≡ rows ++ more → slice_get rows n ≡ Some method → take (n + 1) after ≡ take n rows ++ method ∷ []
next_taken rows more after n method e at =
    let one : n + 1 ≡ suc n = omega arith in
    ap (take (n + 1)) e ∙ ap (λ m. take m (rows ++ more)) one ∙ take_next rows more n method at

-- a body that is known: all that it calls is met
pub visit_shared : (v : View) (image : pe.View) (lists : List (List ℕ)) (rows targets : List ℕ) (n method : ℕ) (known : Known) (whole : Whole) → slice_get rows n ≡ Some method → IsKnown v image (take n rows) known
    → AreCalled v image lists (take n rows) rows targets → option_and_then (slice_get known.bodies) (get nat_cmp known.firsts (cell v methods method 0)) ≡ Some whole → Visits v image lists rows targets n rows targets
visit_shared v image lists rows targets n method known whole at is called found =
    let shared = shares v image (take n rows) known (cell v methods method 0) whole is found in
    let same = same_whole v image method shared.method shared.address in
    record {
      method = method;
      at = at;
      met = sym (added_none rows (calls_at v image lists method) (subst (λ r. AreIn rows (in_body (calls_of v lists) r)) same (one_of (calls_at v image lists) rows (take n rows) shared.k shared.method called.calls shared.is_at)));
      targets_met = sym (added_none targets (virtual_targets_at v image method) (subst (λ r. AreIn targets (in_body (virtual_target_of v) r)) same (one_of (virtual_targets_at v image) targets (take n rows) shared.k shared.method called.virtual_targets shared.is_at)));
    }

pub knows_shared : (v : View) (image : pe.View) (rows : List ℕ) (n method : ℕ) (known after : Known) (whole : Whole) → slice_get rows n ≡ Some method → IsKnown v image (take n rows) known
    → option_and_then (slice_get known.bodies) (get nat_cmp known.firsts (cell v methods method 0)) ≡ Some whole → after.bodies ≡ known.bodies ++ whole ∷ [] → after.firsts ≡ known.firsts
    → IsKnown v image (take (n + 1) rows) after
knows_shared v image rows n method known after whole at is found e same =
    subst (λ l. IsKnown v image l after) (sym (next_taken rows [] rows n method (sym (append-nil rows)) at))
    (known_shared v image (take n rows) method known after whole is found e same)

-- a body that is read
pub visit_first : (v : View) (image : pe.View) (lists : List (List ℕ)) (rows targets after after_targets : List ℕ) (n method : ℕ) (whole : Whole) → slice_get rows n ≡ Some method → IsBody v image method whole
    → after ≡ add_new rows (flat_map (calls_of v lists) whole.body.code) → after_targets ≡ add_new targets (flat_map (virtual_target_of v) whole.body.code) → Visits v image lists rows targets n after after_targets
visit_first v image lists rows targets after after_targets n method whole at is e f = record {
  method = method;
  at = at;
  met = e ∙ ap (λ r. add_new rows (in_body (calls_of v lists) r)) (sym is.read);
  targets_met = f ∙ ap (λ r. add_new targets (in_body (virtual_target_of v) r)) (sym is.read);
}

pub knows_first : (v : View) (image : pe.View) (rows after_rows more : List ℕ) (n method : ℕ) (known after : Known) (whole : Whole) → slice_get rows n ≡ Some method → after_rows ≡ add_new rows more → IsKnown v image (take n rows) known
    → IsBody v image method whole → option_and_then (slice_get known.bodies) (get nat_cmp known.firsts (cell v methods method 0)) ≡ None → after.bodies ≡ known.bodies ++ whole ∷ []
    → Updates nat_cmp known.firsts after.firsts (cell v methods method 0) (Some (length known.bodies)) → IsKnown v image (take (n + 1) after_rows) after
knows_first v image rows after_rows more n method known after whole at grown is body absent e updates =
    let behind = added_behind rows more in
    subst (λ l. IsKnown v image l after) (sym (next_taken rows behind.0 after_rows n method (grown ∙ behind.1) at))
    (known_new v image (take n rows) method known after whole is body (is_new known (cell v methods method 0) (known_within v image (take n rows) known is) absent) e updates)

-- the method of a number
pub method_at : (rows seen : List ℕ) (n default : ℕ) → seen ≡ rows → n < length rows → slice_get rows n ≡ Some (get_or seen n default)
method_at rows seen n default same within = slice_get-get_or rows n default within ∙ ap (λ list. Some (get_or list n default)) (sym same)

-- fewer bodies than methods are known
pub few_bodies : (v : View) (image : pe.View) (rows : List ℕ) (n : ℕ) (known : Known) → IsKnown v image (take n rows) known → length rows < 2 ^ 32 → n < length rows → length known.bodies < 2 ^ 32
few_bodies v image rows n known is few within = omega (arith, zip_length (IsBody v image) (take n rows) known.bodies is.bodies, length-take n rows, few, within)

-- a body that isn't read
pub refused_at : (v : View) (image : pe.View) (rows : List ℕ) (n method : ℕ) (fault : BodyFault) → slice_get rows n ≡ Some method → Fails fault (whole_at v image method) → IsRefused v image rows n (refused_by fault n)
refused_at v image rows n method bodies.Memory at fails = tt
refused_at v image rows n method (bodies.Bad kind place) at fails = record { number_is = refl; method = method; at = at; refused = fails }
