-- Some type has each method that a program has.
use Rattle.std.proofs.Common.{◌≡◌, ℕ, ◌+◌, ◌-◌, true, List, [], ◌∷◌, ◌++◌, length, take, Option, Some, None, Result, Ok, Err, refl, subst, ⊎_elim}
use Rattle.std.specs.Prelude.{◌==◌, ◌%◌, ◌^◌}
use Rattle.std.specs.List.{AllByRecursion, flat_map}
use Rattle.std.proofs.lemmas.Bool.{cond_both}
use Rattle.px_code.specs.Reading.{PlacedFault}
use Rattle.px_code.specs.declared.body.RawInstr.{RawInstr}
use Rattle.px_link.proofs.Entries.{starts_owned}
use Rattle.px_link_methods.proofs.RowPlaces.{at_index, each_in, one_of_each}
use Rattle.px_link.specs.Link.{Reads, maker_of, starts_of}
use Rattle.px_meta.specs.Rows.{is_in}
use Rattle.px_link_tokens.specs.declared.operand.Operand.{Operand}
use Rattle.px_link_tokens.specs.declared.operand.Operand.TheVariants as operand
use Rattle.px_pe.specs.Image as pe
use Rattle.px_program.specs.declared.program.Program.{Program}
use Rattle.px_program.proofs.Types.{each-append}
use Rattle.px_link_reach.proofs.Owned.{overriders_owned, owned_operand}
use Rattle.px_link_reach.proofs.Reaching.{led_by}
use Rattle.px_link_reach.proofs.Sets.{in_either, in_once}
use Rattle.px_link_reach.specs.Bodies.{whole_at}
use Rattle.px_link_reach.specs.Met.{IsOwned, calls_at, calls_of, in_body, method_in, operand_at, target_of, with_overriders}
use Rattle.px_link_reach.specs.Overriders.{AreLists, overriders_in}
use Rattle.px_link_reach.specs.declared.body.Whole.{Whole}
use Rattle.px_tables.specs.Metadata.{View}

-- what overrides a method
overriding_owned : (v : View) (lists : List (List ℕ)) (method : ℕ) → AreLists v lists → AllByRecursion (IsOwned v) (overriders_in lists method)
overriding_owned v lists method are =
    let rows = overriders_in lists method in
    each_in (IsOwned v) rows
    (λ row there. one_of_each (IsOwned v) rows row (overriders_owned v ((method - 1) + 1) rows (are.each (method - 1) rows (at_index lists (method - 1) row there))) there)

with_owned : (v : View) (lists : List (List ℕ)) (rows : List ℕ) → AreLists v lists → AllByRecursion (IsOwned v) rows → AllByRecursion (IsOwned v) (flat_map (with_overriders lists) rows)
with_owned v lists [] are owned = tt
with_owned v lists (row ∷ rows) are owned =
    (owned.0, each-append (IsOwned v) (overriders_in lists row) (flat_map (with_overriders lists) rows) (overriding_owned v lists row are) (with_owned v lists rows are owned.1))

-- what an instruction calls
named_owned : (v : View) (opcode at : ℕ) (named : Option Operand) → ((row : ℕ) → named ≡ Some (operand.Method row) → IsOwned v row) → AllByRecursion (IsOwned v) (method_in named)
named_owned v opcode at None owned = tt
named_owned v opcode at (Some (operand.Text units)) owned = tt
named_owned v opcode at (Some (operand.Type key)) owned = tt
named_owned v opcode at (Some (operand.Field row)) owned = tt
named_owned v opcode at (Some (operand.Method row)) owned = (owned row refl, tt)
named_owned v opcode at (Some (operand.Constructor class params)) owned = tt
named_owned v opcode at (Some (operand.Check check)) owned = tt

pub targets_owned : (v : View) (raw : RawInstr) → AllByRecursion (IsOwned v) (target_of v raw)
targets_owned v raw = named_owned v raw.opcode (raw.operand % 2 ^ 32) (operand_at v raw) (λ row e. owned_operand v raw.opcode (raw.operand % 2 ^ 32) row e)

calls_owned : (v : View) (lists : List (List ℕ)) (raw : RawInstr) → AreLists v lists → AllByRecursion (IsOwned v) (calls_of v lists raw)
calls_owned v lists raw are =
    cond_both (raw.opcode == 0x6F) (flat_map (with_overriders lists) (target_of v raw)) (target_of v raw) (AllByRecursion (IsOwned v))
    (λ virtual. with_owned v lists (target_of v raw) are (targets_owned v raw)) (λ other. targets_owned v raw)

codes_owned : (v : View) (lists : List (List ℕ)) (code : List RawInstr) → AreLists v lists → AllByRecursion (IsOwned v) (flat_map (calls_of v lists) code)
codes_owned v lists [] are = tt
codes_owned v lists (raw ∷ code) are = each-append (IsOwned v) (calls_of v lists raw) (flat_map (calls_of v lists) code) (calls_owned v lists raw are) (codes_owned v lists code are)

body_owned : (v : View) (lists : List (List ℕ)) (read : Result Whole PlacedFault) → AreLists v lists → AllByRecursion (IsOwned v) (in_body (calls_of v lists) read)
body_owned v lists (Ok whole) are = codes_owned v lists whole.body.code are
body_owned v lists (Err fault) are = tt

-- each method of a program
pub reached_owned : {v : View} {image : pe.View} {name : List ℕ} {p : Program} → (r : Reads v image name p) → (row : ℕ) → is_in r.reached.rows row ≡ true → IsOwned v row
reached_owned {v} {image} {name} {p} r row there =
    let starts = starts_of v r.method r.sig in
    let rows = take (length r.reached.rows) r.reached.rows in
    let calls = flat_map (calls_at v image r.lists) rows in
    let led = starts_owned v name (record { method = r.method; maker = maker_of v r.method r.sig }) (record { sig = r.sig; is = r.entry; maker = refl }) in
    ⊎_elim
    (λ begun. one_of_each (IsOwned v) starts row led begun)
    (λ called.
    let by = led_by (calls_at v image r.lists) rows row called in
    one_of_each (IsOwned v) (calls_at v image r.lists by.x) row (body_owned v r.lists (whole_at v image by.x) r.overriding) by.there)
    (in_either starts calls row (in_once (starts ++ calls) row (subst (λ xs. is_in xs row ≡ true) r.is_reached.met.same there)))
