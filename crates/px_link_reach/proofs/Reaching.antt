-- What is known of the methods that a program has.
use Rattle.std.proofs.Common.{◌≡◌, ℕ, zero, suc, true, false, Bool, List, [], ◌∷◌, ◌++◌, length, Some, Result, Ok, Err, refl, sym, ap, ◌∙◌, subst, inl, inr, eqb-true, arith}
use Rattle.std.specs.Prelude.{◌≢◌, ◌==◌, if◌then◌else◌, slice_get}
use Rattle.std.specs.List.{AllPairs, flat_map}
use Rattle.std.proofs.lemmas.Bool.{or_cases}
use Rattle.std.proofs.lemmas.List.{take_all}
use Rattle.px_code.specs.Reading.{PlacedFault}
use Rattle.px_code.specs.declared.body.RawInstr.{RawInstr}
use Rattle.px_meta.specs.Rows.{is_in}
use Rattle.px_pe.specs.Image as pe
use Rattle.px_tables.specs.Metadata.{View}
use Rattle.px_link_reach.specs.Bodies.{whole_at}
use Rattle.px_link_reach.specs.Finding.{AreIn}
use Rattle.px_link_reach.specs.Met.{IsBody, IsReached, calls_at, calls_of, each_once, in_body, target_of, virtual_target_of, virtual_targets_at, with_overriders}
use Rattle.px_link_reach.specs.declared.body.Whole.{Whole}
use Rattle.px_link_reach.specs.declared.methods.Reached.{Reached}
use Rattle.px_link_reach.proofs.Zips.{zip_both, zip_length}
use Rattle.px_link_reach.proofs.Sets.{added_apart, added_behind, added_in, each_from, each_in, in_either, in_left, in_once, in_right}

-- PLACES

-- a row that is there has a place
pub place_of : (rows : List ℕ) (row : ℕ) → is_in rows row ≡ true → (k : ℕ) × (slice_get rows k ≡ Some row)
place_of [] row is = absurd (cc)
place_of (other ∷ rows) row is = elim (or_cases (other == row) (is_in rows row) is) [
  | inl same ↦ (0, ap Some (eqb-true other row same))
  | inr later ↦ let rest = place_of rows row later in (suc rest.0, rest.1)
]

-- what one of some leads to, all lead to
pub leads : {X : Type 0} (f : X → List ℕ) (xs : List X) (k : ℕ) (x : X) (row : ℕ) → slice_get xs k ≡ Some x → is_in (f x) row ≡ true → is_in (flat_map f xs) row ≡ true
leads f [] k x row at is = absurd (cc)
leads f (z ∷ xs) zero x row at is = let same : x ≡ z = cc in in_left (f z) (flat_map f xs) row (subst (λ y. is_in (f y) row ≡ true) same is)
leads f (z ∷ xs) (suc k) x row at is = in_right (f z) (flat_map f xs) row (leads f xs k x row at is)

pub record IsLedTo {X : Type 0} (f : X → List ℕ) (xs : List X) (row : ℕ) : Type 0 where
  pub k : ℕ
  pub x : X
  pub at : slice_get xs k ≡ Some x
  pub there : is_in (f x) row ≡ true

-- what all lead to, one of them leads to
pub led_by : {X : Type 0} (f : X → List ℕ) (xs : List X) (row : ℕ) → is_in (flat_map f xs) row ≡ true → IsLedTo f xs row
led_by f [] row is = absurd (cc)
led_by f (x ∷ xs) row is = elim (in_either (f x) (flat_map f xs) row is) [
  | inl here ↦ record { k = 0; x = x; at = refl; there = here }
  | inr later ↦ let rest = led_by f xs row later in record { k = suc rest.k; x = rest.x; at = rest.at; there = rest.there }
]

-- BODIES

-- there are as many bodies as methods
pub as_many : {v : View} {image : pe.View} {lists : List (List ℕ)} {starts : List ℕ} {reached : Reached} → IsReached v image lists starts reached → length reached.rows ≡ length reached.bodies
as_many {v} {image} {lists} {starts} {reached} is = zip_length (IsBody v image) reached.rows reached.bodies is.bodies

-- the body of a method stands at its number
pub body_read : {v : View} {image : pe.View} {lists : List (List ℕ)} {starts : List ℕ} {reached : Reached} → IsReached v image lists starts reached
    → (k row : ℕ) (whole : Whole) → slice_get reached.rows k ≡ Some row → slice_get reached.bodies k ≡ Some whole → IsBody v image row whole
body_read {v} {image} {lists} {starts} {reached} is k row whole at body_at = zip_both (IsBody v image) reached.rows reached.bodies k row whole is.bodies at body_at

-- WHAT IS MET

all_found : {v : View} {image : pe.View} {lists : List (List ℕ)} {starts : List ℕ} {reached : Reached} → IsReached v image lists starts reached
    → reached.rows ≡ each_once (starts ++ flat_map (calls_at v image lists) reached.rows)
all_found {v} {image} {lists} {starts} {reached} is =
    is.met.same ∙ ap (λ l. each_once (starts ++ flat_map (calls_at v image lists) l)) (take_all (length reached.rows) reached.rows (omega arith))

met_in : {v : View} {image : pe.View} {lists : List (List ℕ)} {starts : List ℕ} {reached : Reached} → IsReached v image lists starts reached
    → (row : ℕ) → is_in (starts ++ flat_map (calls_at v image lists) reached.rows) row ≡ true → is_in reached.rows row ≡ true
met_in {v} {image} {lists} {starts} {reached} is row there = subst (λ l. is_in l row ≡ true) (sym (all_found is)) (added_in [] _ row there)

-- what a method that is met calls is met
called_met : {v : View} {image : pe.View} {lists : List (List ℕ)} {starts : List ℕ} {reached : Reached} → IsReached v image lists starts reached
    → (k row called : ℕ) → slice_get reached.rows k ≡ Some row → is_in (calls_at v image lists row) called ≡ true → is_in reached.rows called ≡ true
called_met {v} {image} {lists} {starts} {reached} is k row called at there =
    met_in is called (in_right starts (flat_map (calls_at v image lists) reached.rows) called (leads (calls_at v image lists) reached.rows k row called at there))

-- what an instruction of a body calls, the method calls
in_its_body : (find : RawInstr → List ℕ) (read : Result Whole PlacedFault) (whole : Whole) (j : ℕ) (raw : RawInstr) (row : ℕ) → read ≡ Ok whole → slice_get whole.body.code j ≡ Some raw → is_in (find raw) row ≡ true → is_in (in_body find read) row ≡ true
in_its_body find read whole j raw row e at is = subst (λ r. is_in (in_body find r) row ≡ true) (sym e) (leads find whole.body.code j raw row at is)

-- all that an instruction of the body of a method calls is met
pub calls_met : {v : View} {image : pe.View} {lists : List (List ℕ)} {starts : List ℕ} {reached : Reached} → IsReached v image lists starts reached
    → (k row : ℕ) (whole : Whole) (j : ℕ) (raw : RawInstr) → slice_get reached.rows k ≡ Some row → whole_at v image row ≡ Ok whole → slice_get whole.body.code j ≡ Some raw → AreIn reached.rows (calls_of v lists raw)
calls_met {v} {image} {lists} {starts} {reached} is k row whole j raw at read instr =
    each_from (λ called. is_in reached.rows called ≡ true) (calls_of v lists raw)
    (λ called there. called_met is k row called at (in_its_body (calls_of v lists) (whole_at v image row) whole j raw called read instr there))

-- the method that a `callvirt` names is among the virtual targets
pub target_met : {v : View} {image : pe.View} {lists : List (List ℕ)} {starts : List ℕ} {reached : Reached} → IsReached v image lists starts reached
    → (k row : ℕ) (whole : Whole) (j : ℕ) (raw : RawInstr) → slice_get reached.rows k ≡ Some row → whole_at v image row ≡ Ok whole → slice_get whole.body.code j ≡ Some raw
    → AreIn reached.virtual_targets (virtual_target_of v raw)
target_met {v} {image} {lists} {starts} {reached} is k row whole j raw at read instr =
    each_from (λ target. is_in reached.virtual_targets target ≡ true) (virtual_target_of v raw)
    (λ target there. subst (λ l. is_in l target ≡ true) (sym is.virtual_targets)
    (added_in [] _ target (leads (virtual_targets_at v image) reached.rows k row target at (in_its_body (virtual_target_of v) (whole_at v image row) whole j raw target read instr there))))

-- the methods to start with are met
pub starts_met : {v : View} {image : pe.View} {lists : List (List ℕ)} {starts : List ℕ} {reached : Reached} → IsReached v image lists starts reached → AreIn reached.rows starts
starts_met {v} {image} {lists} {starts} {reached} is =
    each_from (λ row. is_in reached.rows row ≡ true) starts (λ row there. met_in is row (in_left starts (flat_map (calls_at v image lists) reached.rows) row there))

-- the first of them has number 0
pub first_start : {v : View} {image : pe.View} {lists : List (List ℕ)} {reached : Reached} → (first : ℕ) (more : List ℕ) → IsReached v image lists (first ∷ more) reached → slice_get reached.rows 0 ≡ Some first
first_start {v} {image} {lists} {reached} first more is =
    let behind = added_behind (first ∷ []) (more ++ flat_map (calls_at v image lists) reached.rows) in
    let begins : reached.rows ≡ first ∷ behind.0 = all_found is ∙ behind.1 in
    ap (λ l. slice_get l 0) begins

-- NO REPEATS

pub once_apart : (rows : List ℕ) → AllPairs ◌≢◌ (each_once rows)
once_apart rows = added_apart [] rows (λ i j d before less. absurd (omega arith))

-- no method has two numbers
pub rows_apart : {v : View} {image : pe.View} {lists : List (List ℕ)} {starts : List ℕ} {reached : Reached} → IsReached v image lists starts reached → AllPairs ◌≢◌ reached.rows
rows_apart {v} {image} {lists} {starts} {reached} is = subst (AllPairs ◌≢◌) (sym (all_found is)) (once_apart (starts ++ flat_map (calls_at v image lists) reached.rows))

pub targets_apart : {v : View} {image : pe.View} {lists : List (List ℕ)} {starts : List ℕ} {reached : Reached} → IsReached v image lists starts reached → AllPairs ◌≢◌ reached.virtual_targets
targets_apart {v} {image} {lists} {starts} {reached} is = subst (AllPairs ◌≢◌) (sym is.virtual_targets) (once_apart (flat_map (virtual_targets_at v image) reached.rows))

-- VIRTUAL TARGETS

-- a method that a `callvirt` names is called, and so is what overrides it
named_by : (v : View) (lists : List (List ℕ)) (raw : RawInstr) (virtual : Bool) (target : ℕ) → is_in (if virtual then target_of v raw else []) target ≡ true
    → AreIn (if virtual then flat_map (with_overriders lists) (target_of v raw) else target_of v raw) (with_overriders lists target)
named_by v lists raw true target is =
    let place = place_of (target_of v raw) target is in
    each_from (λ row. is_in (flat_map (with_overriders lists) (target_of v raw)) row ≡ true) (with_overriders lists target)
    (λ row there. leads (with_overriders lists) (target_of v raw) place.0 target row place.1 there)
named_by v lists raw false target is = absurd (cc)

named_in : (v : View) (image : pe.View) (lists : List (List ℕ)) (read : Result Whole PlacedFault) (target : ℕ) → is_in (in_body (virtual_target_of v) read) target ≡ true → AreIn (in_body (calls_of v lists) read) (with_overriders lists target)
named_in v image lists (Ok whole) target is =
    let led = led_by (virtual_target_of v) whole.body.code target is in
    let all = named_by v lists led.x (led.x.opcode == 0x6F) target led.there in
    each_from (λ row. is_in (flat_map (calls_of v lists) whole.body.code) row ≡ true) (with_overriders lists target)
    (λ row there. leads (calls_of v lists) whole.body.code led.k led.x row led.at (each_in (λ r. is_in (calls_of v lists led.x) r ≡ true) (with_overriders lists target) row all there))
named_in v image lists (Err fault) target is = absurd (cc)

-- each virtual target is met, and so are those that override it
pub overriders_met : {v : View} {image : pe.View} {lists : List (List ℕ)} {starts : List ℕ} {reached : Reached} → IsReached v image lists starts reached
    → (target : ℕ) → is_in reached.virtual_targets target ≡ true → AreIn reached.rows (with_overriders lists target)
overriders_met {v} {image} {lists} {starts} {reached} is target there =
    let led = led_by (virtual_targets_at v image) reached.rows target (in_once _ target (subst (λ l. is_in l target ≡ true) is.virtual_targets there)) in
    let all = named_in v image lists (whole_at v image led.x) target led.there in
    each_from (λ row. is_in reached.rows row ≡ true) (with_overriders lists target)
    (λ row called. called_met is led.k led.x row led.at (each_in (λ r. is_in (calls_at v image lists led.x) r ≡ true) (with_overriders lists target) row all called))
