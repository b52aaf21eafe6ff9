-- What the rows of a program's methods say of its bodies.
use Rattle.std.proofs.Common.{◌≡◌, ◌≢◌, ℕ, suc, Bool, true, false, List, [], ◌∷◌, Some, Ok, Result, length, refl, sym, ap, ◌∙◌, arith}
use Rattle.std.specs.Prelude.{◌==◌, ◌<◌, if◌then◌else◌, slice_get, slice_index_or}
use Rattle.std.specs.List.{AllByRecursion, AllPairs, AllZip, IsDistinct, flat_map}
use Rattle.std.proofs.lemmas.Bool.{ne_eqb}
use Rattle.std.proofs.lemmas.Option.{same_Some}
use Rattle.px_code.specs.Reading.{PlacedFault}
use Rattle.px_code.specs.declared.body.RawInstr.{RawInstr}
use Rattle.px_meta.specs.Rows.{IsRow, cell, is_in, methods}
use Rattle.px_pe.specs.Image as pe
use Rattle.px_program.proofs.Types.{each-append, each-weaken}
use Rattle.px_link_types.proofs.Closed.{each-back}
use Rattle.px_tables.specs.Metadata.{View}
use Rattle.px_link_methods.specs.Methods.{AreByAddress}
use Rattle.px_link_methods.proofs.RowPlaces.{beside}
use Rattle.px_link_reach.specs.Bodies.{whole_at}
use Rattle.px_link_reach.specs.Met.{IsBody, IsOwned, IsReached, target_of, with_overriders}
use Rattle.px_link_reach.proofs.Reaching.{calls_met, rows_apart, targets_apart}
use Rattle.px_link_reach.specs.Overriders.{overriders_in}
use Rattle.px_link_reach.specs.declared.body.Whole.{Whole}
use Rattle.px_link_reach.specs.declared.methods.Reached.{Reached}
use Rattle.px_link.specs.Overrides.{in_order}
use Rattle.px_link.proofs.InOrder.{each_in_order}

-- LISTS

zip_length : {X Y : Type 0} (R : X → Y → Type 0) (xs : List X) (ys : List Y) → AllZip R xs ys → length ys ≡ length xs
zip_length R [] [] all = refl
zip_length R [] (y ∷ ys) all = absurd all
zip_length R (x ∷ xs) [] all = absurd all
zip_length R (x ∷ xs) (y ∷ ys) all = ap suc (zip_length R xs ys all.1)

each_unlike : (row : ℕ) (rows : List ℕ) → ((j d : ℕ) → j < length rows → row ≢ slice_index_or rows j d) → AllByRecursion (λ other. (row == other) ≡ false) rows
each_unlike row [] apart = tt
each_unlike row (other ∷ rows) apart = (ne_eqb row other (apart 0 0 (omega arith)), each_unlike row rows (λ j d less. apart (suc j) d (omega arith)))

distinct_by : (rows : List ℕ) → AllPairs ◌≢◌ rows → IsDistinct (λ row other. row == other) rows
unfolding IsDistinct
distinct_by [] apart = tt
distinct_by (row ∷ rows) apart =
    (each_unlike row rows (λ j d less. apart 0 (suc j) d (omega arith) (omega arith)), distinct_by rows (λ i j d less within. apart (suc i) (suc j) d (omega arith) (omega arith)))

-- WHAT BODIES NAME

named_by : (P : ℕ → Type 0) (lists : List (List ℕ)) (rows : List ℕ) → AllByRecursion P (flat_map (with_overriders lists) rows) → AllByRecursion P rows
named_by P lists [] each = tt
named_by P lists (row ∷ rows) each = (each.0, named_by P lists rows (each-back P (overriders_in lists row) (flat_map (with_overriders lists) rows) each.1))

target_by : (P : ℕ → Type 0) (lists : List (List ℕ)) (rows : List ℕ) (virtual : Bool) → AllByRecursion P (if virtual then flat_map (with_overriders lists) rows else rows) → AllByRecursion P rows
target_by P lists rows true each = named_by P lists rows each
target_by P lists rows false each = each

targets_of : (v : View) (P : ℕ → Type 0) (code : List RawInstr) → ((j : ℕ) (raw : RawInstr) → slice_get code j ≡ Some raw → AllByRecursion P (target_of v raw)) → AllByRecursion P (flat_map (target_of v) code)
targets_of v P [] each = tt
targets_of v P (raw ∷ code) each = each-append P (target_of v raw) (flat_map (target_of v) code) (each 0 raw refl) (targets_of v P code (λ j other at. each (suc j) other at))

each_body : (v : View) (image : pe.View) (Q : Whole → Type 0) (rows : List ℕ) (bodies : List Whole) → AllZip (IsBody v image) rows bodies
    → ((k row : ℕ) (whole : Whole) → slice_get rows k ≡ Some row → IsBody v image row whole → Q whole) → AllByRecursion Q bodies
each_body v image Q [] [] are each = tt
each_body v image Q [] (whole ∷ bodies) are each = absurd are
each_body v image Q (row ∷ rows) [] are each = absurd are
each_body v image Q (row ∷ rows) (whole ∷ bodies) are each = (each 0 row whole refl are.0, each_body v image Q rows bodies are.1 (λ k other body at is. each (suc k) other body at is))

-- AS THEY ARE READ

same_whole : (one other : Whole) (read : Result Whole PlacedFault) → read ≡ Ok one → read ≡ Ok other → one ≡ other
same_whole one other read is same = cc

pub as_many : (v : View) (image : pe.View) (lists : List (List ℕ)) (starts : List ℕ) (reached : Reached) → IsReached v image lists starts reached → length reached.bodies ≡ length reached.rows
as_many v image lists starts reached is = zip_length (IsBody v image) reached.rows reached.bodies is.bodies

pub distinct : (v : View) (image : pe.View) (lists : List (List ℕ)) (starts : List ℕ) (reached : Reached) → IsReached v image lists starts reached → IsDistinct (λ row other. row == other) reached.rows
distinct v image lists starts reached is = distinct_by reached.rows (rows_apart is)

pub targets_in : (v : View) (image : pe.View) (lists : List (List ℕ)) (starts : List ℕ) (reached : Reached) → IsReached v image lists starts reached
    → AllByRecursion (λ (whole : Whole). AllByRecursion (λ row. is_in reached.rows row ≡ true) (flat_map (target_of v) whole.body.code)) reached.bodies
targets_in v image lists starts reached is =
    let In : ℕ → Type 0 = λ row. is_in reached.rows row ≡ true in
    each_body v image (λ whole. AllByRecursion In (flat_map (target_of v) whole.body.code)) reached.rows reached.bodies is.bodies
    (λ k row whole at body. targets_of v In whole.body.code (λ j raw instr. target_by In lists (target_of v raw) (raw.opcode == 0x6F) (calls_met is k row whole j raw at body.read instr)))

-- nothing of a method but its address is read
whole_by_address : (v : View) (image : pe.View) (one other : ℕ) → cell v methods one 0 ≡ cell v methods other 0 → whole_at v image one ≡ whole_at v image other
whole_by_address v image one other same = cc

-- methods with one address have one body, since it is read there
pub by_address : (v : View) (image : pe.View) (lists : List (List ℕ)) (starts : List ℕ) (reached : Reached) → IsReached v image lists starts reached → AreByAddress v reached.rows reached.bodies
by_address v image lists starts reached is = λ k j one other body another one_at other_at body_at another_at same.
    let first = beside (IsBody v image) reached.rows reached.bodies is.bodies k one one_at in
    let second = beside (IsBody v image) reached.rows reached.bodies is.bodies j other other_at in
    let left = same_Some body first.0 (sym body_at ∙ first.1.0) in
    let right = same_Some another second.0 (sym another_at ∙ second.1.0) in
    left ∙ same_whole first.0 second.0 (whole_at v image one) first.1.1.read (whole_by_address v image one other same ∙ second.1.1.read) ∙ sym right

-- no method is named twice by the `callvirt` of a program
pub targets_distinct : (v : View) (image : pe.View) (lists : List (List ℕ)) (starts : List ℕ) (reached : Reached) → IsReached v image lists starts reached → IsDistinct (λ row other. row == other) reached.virtual_targets
targets_distinct v image lists starts reached is = distinct_by reached.virtual_targets (targets_apart is)

pub rows_in_order : (v : View) (rows targets : List ℕ) → AllByRecursion (IsOwned v) rows → AllByRecursion (IsRow v methods) (in_order rows targets)
rows_in_order v rows targets owned = each_in_order (IsRow v methods) rows targets (each-weaken (IsOwned v) (IsRow v methods) (λ row is. is.row) rows owned)
