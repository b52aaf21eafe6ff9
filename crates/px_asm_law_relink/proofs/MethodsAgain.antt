-- Methods and their bodies, read again, and all that calls reach.
use Rattle.std.proofs.Common.{◌≡◌, ℕ, zero, suc, true, List, [], ◌∷◌, ◌++◌, length, map, take, Option, Some, None, Result, Ok, Err, refl, sym, ap, ◌∙◌, subst, arith}
use Rattle.std.specs.Prelude.{slice_get}
use Rattle.std.specs.List.{AllByRecursion, AllZip, flat_map, zip}
use Rattle.std.specs.Option.{option_map}
use Rattle.std.proofs.lemmas.List.{length-map, map-append, take-map, take_all}
use Rattle.std.proofs.lemmas.Option.{same_Some, slice_get-map}
use Rattle.px_code.specs.Reading.{PlacedFault}
use Rattle.px_link.proofs.LinkedProgram.{same_count}
use Rattle.px_link_methods.proofs.RowPlaces.{each_in, in_at, zip_at}
use Rattle.px_link.specs.Link.{starts_of}
use Rattle.px_meta.specs.Rows.{is_in}
use Rattle.px_link_methods.specs.Codes.{place_of}
use Rattle.px_link_methods.specs.Methods.{AreMethods, IsMethod, met_by, met_by_all}
use Rattle.px_program.specs.declared.program.Method.{Method}
use Rattle.px_link_reach.proofs.Reaching.{overriders_met, rows_apart}
use Rattle.px_link_reach.proofs.Sets.{added_in, all_added}
use Rattle.px_link_reach.specs.Bodies.{no_body, whole_at}
use Rattle.px_link_reach.specs.Finding.{AreIn}
use Rattle.px_link_reach.specs.Met.{IsBody, IsReached, calls_at, each_once, virtual_targets_at}
use Rattle.px_link_reach.specs.declared.body.Whole.{Whole}
use Rattle.px_link_reach.specs.declared.methods.Reached.{Reached}
use Rattle.px_asm_law_relink.proofs.OverridingLists.{mapped_there}
use Rattle.px_asm_law_relink.specs.Again.{Again, key_for, keys_for, method_for, methods_for, numbers_for}
use Rattle.px_asm_law_relink.proofs.MethodCodes.{flat_map_for}
use Rattle.px_asm_law_relink.proofs.MethodStands.{IsMethodAgain, method_again}
use Rattle.px_asm_law_relink.proofs.OverridingAgain.{lists_for}
use Rattle.px_asm_law_relink.proofs.ReachedMaps.{once_for, place_at, zip-maps, zip_each, zip_map}
use Rattle.px_asm_law_relink.proofs.Standing.{IsReachedRow}

abbrev body_read : Result Whole PlacedFault → Whole
body_read (Ok whole) = whole
body_read (Err fault) = no_body

abbrev body_at : Again → ℕ → Whole
body_at a row = body_read (whole_at a.v a.image (method_for a row))

-- the bodies of the methods in the other assembly, by their numbers
pub bodies_for : Again → List Whole
bodies_for a = map (body_at a) a.reads.reached.rows

abbrev pub reached_for : Again → Reached
reached_for a = record { rows = methods_for a a.reads.reached.rows; bodies = bodies_for a; virtual_targets = methods_for a a.reads.reached.virtual_targets }

-- THE BODIES

body_is : (a : Again) (row : ℕ) → (again : IsMethodAgain a row) → again.body.whole ≡ body_at a row
body_is a row again = ap body_read (sym again.body.body.read)

each_reached : (P : ℕ → Type 0) (a : Again) → ((row : ℕ) → IsReachedRow a row → P row) → AllByRecursion P a.reads.reached.rows
each_reached P a is = each_in P a.reads.reached.rows is

are_bodies : (a : Again) → AllZip (IsBody a.v a.image) (methods_for a a.reads.reached.rows) (bodies_for a)
unfolding bodies_for
are_bodies a =
    zip_each (IsBody a.v a.image) (method_for a) (body_at a) a.reads.reached.rows
    (each_reached (λ row. IsBody a.v a.image (method_for a row) (body_at a row)) a
    (λ row reached. let again = method_again a row reached in subst (IsBody a.v a.image (method_for a row)) (body_is a row again) again.body.body))

-- the pairs of methods and bodies
pairs_for : (a : Again) → zip (methods_for a a.reads.reached.rows) (bodies_for a) ≡ map (λ row. (method_for a row, body_at a row)) a.reads.reached.rows
unfolding bodies_for
pairs_for a = zip-maps (method_for a) (body_at a) a.reads.reached.rows

abbrev Made : Again → ℕ × Whole → Method → Type 0
Made a pair method = IsMethod a.v (numbers_for a) pair.0 pair.1 method

made_at : (a : Again) (k row : ℕ) (method : Method) → slice_get a.reads.reached.rows k ≡ Some row → slice_get a.p.methods k ≡ Some method → Made a (method_for a row, body_at a row) method
made_at a k row method at method_at =
    let again = method_again a row (in_at a.reads.reached.rows k row at) in
    let place : place_of a.reads.reached.rows row ≡ k = place_at a.reads.reached.rows k row (rows_apart a.reads.is_reached) at in
    let same : again.has.method ≡ method = same_Some again.has.method method (sym again.has.at ∙ ap (slice_get a.p.methods) place ∙ method_at) in
    subst (λ m. Made a (method_for a row, body_at a row) m) same (subst (λ w. Made a (method_for a row, w) again.has.method) (body_is a row again) again.is)

pub methods_again : (a : Again) → AreMethods a.v (numbers_for a) (bodies_for a) a.p.methods
methods_again a =
    subst (λ l. AllZip (Made a) l a.p.methods) (sym (pairs_for a))
    (zip_map (Made a) (λ row. (method_for a row, body_at a row)) a.reads.reached.rows a.p.methods
    (zip_at (λ row method. Made a (method_for a row, body_at a row) method) a.reads.reached.rows a.p.methods
    (same_count a.first a.from (record { keys = a.reads.keys; rows = a.reads.reached.rows }) a.reads.reached.bodies a.p a.reads.is_reached.bodies a.reads.methods)
    (λ k row method at method_at. made_at a k row method at method_at)))

-- WHAT IS MET

same_whole : (a : Again) (row : ℕ) (one other : Whole) → IsBody a.first a.from row one → IsBody a.first a.from row other → one ≡ other
same_whole a row one other is also = let same : ◌≡◌ {A = Result Whole PlacedFault} (Ok one) (Ok other) = sym is.read ∙ also.read in cc

met_at : (a : Again) (row : ℕ) (whole : Whole) → IsReachedRow a row → IsBody a.first a.from row whole → met_by a.v (method_for a row, body_at a row) ≡ keys_for a (met_by a.first (row, whole))
met_at a row whole reached body =
    let again = method_again a row reached in
    ap (λ w. met_by a.v (method_for a row, w)) (sym (body_is a row again)) ∙ again.met
    ∙ ap (λ w. keys_for a (met_by a.first (row, w))) (same_whole a row again.has.whole whole again.has.body body)

met_in : (a : Again) (rows : List ℕ) (bodies : List Whole) → AreIn a.reads.reached.rows rows → AllZip (IsBody a.first a.from) rows bodies
    → flat_map (met_by a.v) (map (λ row. (method_for a row, body_at a row)) rows) ≡ keys_for a (flat_map (met_by a.first) (zip rows bodies))
met_in a [] [] reached are = refl
met_in a [] (body ∷ bodies) reached are = absurd are
met_in a (row ∷ rows) [] reached are = absurd are
met_in a (row ∷ rows) (body ∷ bodies) reached are =
    ap (λ l. l ++ flat_map (met_by a.v) (map (λ row. (method_for a row, body_at a row)) rows)) (met_at a row body reached.0 are.0)
    ∙ ap (λ l. keys_for a (met_by a.first (row, body)) ++ l) (met_in a rows bodies reached.1 are.1)
    ∙ sym (map-append (key_for a) (met_by a.first (row, body)) (flat_map (met_by a.first) (zip rows bodies)))

pub met_again : (a : Again) → met_by_all a.v (methods_for a a.reads.reached.rows) (bodies_for a) ≡ keys_for a (met_by_all a.first a.reads.reached.rows a.reads.reached.bodies)
met_again a =
    ap (flat_map (met_by a.v)) (pairs_for a)
    ∙ met_in a a.reads.reached.rows a.reads.reached.bodies (each_reached (λ row. is_in a.reads.reached.rows row ≡ true) a (λ row reached. reached)) a.reads.is_reached.bodies

-- WHAT IS REACHED

abbrev starts : Again → List ℕ
starts a = starts_of a.first a.reads.method a.reads.sig

abbrev calls : Again → ℕ → List ℕ
calls a = calls_at a.first a.from a.reads.lists

abbrev calls_for : Again → ℕ → List ℕ
calls_for a = calls_at a.v a.image (lists_for a)

-- what some of the methods call
called_by : (a : Again) (rows : List ℕ) → AreIn a.reads.reached.rows rows → methods_for a (starts a) ++ flat_map (calls_for a) (methods_for a rows) ≡ methods_for a (starts a ++ flat_map (calls a) rows)
called_by a rows reached =
    ap (λ l. methods_for a (starts a) ++ l) (flat_map_for a (calls a) (calls_for a) rows (each_called rows reached)) ∙ sym (map-append (method_for a) (starts a) (flat_map (calls a) rows))
  where
    each_called : (rows : List ℕ) → AreIn a.reads.reached.rows rows → AllByRecursion (λ row. calls_for a (method_for a row) ≡ methods_for a (calls a row)) rows
    each_called [] reached = tt
    each_called (row ∷ rows) reached = ((method_again a row reached.0).calls, each_called rows reached.1)

all_rows : (a : Again) → AreIn a.reads.reached.rows a.reads.reached.rows
all_rows a = each_reached (λ row. is_in a.reads.reached.rows row ≡ true) a (λ row reached. reached)

all_found : (a : Again) → a.reads.reached.rows ≡ each_once (starts a ++ flat_map (calls a) a.reads.reached.rows)
all_found a =
    a.reads.is_reached.met.same ∙ ap (λ l. each_once (starts a ++ flat_map (calls a) l)) (take_all (length a.reads.reached.rows) a.reads.reached.rows (omega arith))

same_rows : (a : Again) → methods_for a a.reads.reached.rows ≡ each_once (methods_for a (starts a) ++ flat_map (calls_for a) (methods_for a a.reads.reached.rows))
same_rows a =
    let found = starts a ++ flat_map (calls a) a.reads.reached.rows in
    let all : AreIn a.reads.reached.rows found = subst (λ l. AreIn l found) (sym (all_found a)) (all_added [] found) in
    ap (methods_for a) (all_found a) ∙ sym (once_for a found all) ∙ ap each_once (sym (called_by a a.reads.reached.rows (all_rows a)))

taken_in : (a : Again) (k : ℕ) (rows : List ℕ) → AreIn a.reads.reached.rows rows → AreIn a.reads.reached.rows (take k rows)
taken_in a zero rows all = tt
taken_in a (suc k) [] all = tt
taken_in a (suc k) (row ∷ rows) all = (all.0, taken_in a k rows all.1)

record IsFrom (a : Again) (k row : ℕ) : Type 0 where
  pub first : ℕ
  pub at : slice_get a.reads.reached.rows k ≡ Some first
  pub is : method_for a first ≡ row

from_by : (a : Again) (k row : ℕ) (o : Option ℕ) → slice_get a.reads.reached.rows k ≡ o → option_map (method_for a) o ≡ Some row → IsFrom a k row
from_by a k row None at e = absurd (cc)
from_by a k row (Some first) at e = record { first = first; at = at; is = same_Some (method_for a first) row e }

from_at : (a : Again) (k row : ℕ) → slice_get (methods_for a a.reads.reached.rows) k ≡ Some row → IsFrom a k row
from_at a k row at = from_by a k row (slice_get a.reads.reached.rows k) refl (sym (slice_get-map (method_for a) a.reads.reached.rows k) ∙ at)

earlier_again : (a : Again) (k row : ℕ) → slice_get (methods_for a a.reads.reached.rows) k ≡ Some row
    → is_in (methods_for a (starts a) ++ flat_map (calls_for a) (take k (take (length (methods_for a a.reads.reached.rows)) (methods_for a a.reads.reached.rows)))) row ≡ true
earlier_again a k row at =
    let rows = a.reads.reached.rows in
    let from = from_at a k row at in
    let front = take k (take (length rows) rows) in
    let reached : AreIn rows front = taken_in a k (take (length rows) rows) (taken_in a (length rows) rows (all_rows a)) in
    let taken : take k (take (length (methods_for a rows)) (methods_for a rows)) ≡ methods_for a front =
    ap (λ n. take k (take n (methods_for a rows))) (length-map rows (method_for a)) ∙ ap (take k) (take-map (method_for a) (length rows) rows) ∙ take-map (method_for a) k (take (length rows) rows) in
    subst (λ l. is_in (methods_for a (starts a) ++ flat_map (calls_for a) l) row ≡ true) (sym taken)
    (subst (λ l. is_in l row ≡ true) (sym (called_by a front reached))
    (subst (λ r. is_in (methods_for a (starts a ++ flat_map (calls a) front)) r ≡ true) from.is
    (mapped_there (method_for a) (starts a ++ flat_map (calls a) front) from.first (a.reads.is_reached.met.earlier k from.first from.at))))

targets_reached : (a : Again) → AreIn a.reads.reached.rows (flat_map (virtual_targets_at a.first a.from) a.reads.reached.rows)
targets_reached a =
    let found = flat_map (virtual_targets_at a.first a.from) a.reads.reached.rows in
    each_in (λ row. is_in a.reads.reached.rows row ≡ true) found
    (λ target there. (overriders_met a.reads.is_reached target (subst (λ l. is_in l target ≡ true) (sym a.reads.is_reached.virtual_targets) (added_in [] found target there))).0)

same_targets : (a : Again) → methods_for a a.reads.reached.virtual_targets ≡ each_once (flat_map (virtual_targets_at a.v a.image) (methods_for a a.reads.reached.rows))
same_targets a =
    let find = virtual_targets_at a.first a.from in
    let rows = a.reads.reached.rows in
    ap (methods_for a) a.reads.is_reached.virtual_targets ∙ sym (once_for a (flat_map find rows) (targets_reached a))
    ∙ ap each_once (sym (flat_map_for a find (virtual_targets_at a.v a.image) rows
    (each_reached (λ row. virtual_targets_at a.v a.image (method_for a row) ≡ methods_for a (find row)) a (λ row reached. (method_again a row reached).virtual))))

pub reached_again : (a : Again) → IsReached a.v a.image (lists_for a) (methods_for a (starts_of a.first a.reads.method a.reads.sig)) (reached_for a)
reached_again a = record {
  met = record {
    same = same_rows a ∙ ap (λ l. each_once (methods_for a (starts a) ++ flat_map (calls_for a) l)) (sym (take_all (length (methods_for a a.reads.reached.rows)) (methods_for a a.reads.reached.rows) (omega arith)));
    earlier = earlier_again a;
  };
  bodies = are_bodies a;
  virtual_targets = same_targets a;
}
