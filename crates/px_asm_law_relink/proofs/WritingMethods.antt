-- The methods of a linked program, in the order of their rows, and what they override.
use Rattle.std.proofs.Common.{◌≡◌, ℕ, zero, suc, ◌+◌, ◌≤◌, ◌<◌, true, List, [], ◌∷◌, length, get_or, Option, Some, None, refl, sym, ap, ◌∙◌, subst, ⊎_elim, arith, eqb-true}
use Rattle.std.specs.Prelude.{◌==◌, IfSome, IsSome, nat_eq, slice_get}
use Rattle.std.specs.List.{AllByRecursion, AllZip, IsDistinct, list_any, range_with_len, zip}
use Rattle.std.specs.Option.{is_some, unwrap_or}
use Rattle.std.proofs.lemmas.Bool.{ne_eqb, or_cases}
use Rattle.std.proofs.lemmas.Cmp.{nat_eq_equiv}
use Rattle.std.proofs.lemmas.List.FromFn.{get_or-range_with_len, length-range_with_len}
use Rattle.std.proofs.lemmas.Map.Keys.{IsDistinct-from_apart}
use Rattle.std.proofs.lemmas.Map.Made.{length-le_from_is_member}
use Rattle.std.proofs.lemmas.Map.Steps.{length-le_from_distinct_below}
use Rattle.std.proofs.lemmas.Option.{same_Some, slice_get_within}
use Rattle.std.proofs.lemmas.Slice.Zip.{AllZip-long}
use Rattle.px_link.proofs.LinkedProgram.{numbering_of, same_count}
use Rattle.px_link_methods.proofs.RowPlaces.{at_zip, beside, one_of_each, place_below}
use Rattle.px_link.proofs.Slots.{inside}
use Rattle.px_link.specs.Layout.{AreInRowOrder, Behind, IsSlot, Nearest, Nothing, OverridesAmong, number_among}
use Rattle.px_link_methods.specs.Methods.{IsMethod}
use Rattle.px_program.proofs.Types.{each-weaken}
use Rattle.px_program.specs.declared.program.Method.{Method}
use Rattle.px_program.specs.declared.program.Program.{Program}
use Rattle.px_program.specs.declared.program.Slot.{Slot}
use Rattle.px_link_reach.specs.Met.{IsBody}
use Rattle.px_link_reach.specs.declared.body.Whole.{Whole}
use Rattle.px_tables.specs.Metadata.{View}
use Rattle.px_link_types.proofs.Formed.{at_place}
use Rattle.px_asm_law_relink.proofs.WritingTypes.{rising_once}
use Rattle.px_asm_law_relink.specs.Linked.{IsLinked}

-- LISTS

pub each_at_place : {X : Type 0} (P : X → Type 0) (xs : List X) → ((k : ℕ) (x : X) → slice_get xs k ≡ Some x → P x) → AllByRecursion P xs
each_at_place P [] each = tt
each_at_place P (x ∷ xs) each = (each 0 x refl, each_at_place P xs (λ k y at. each (suc k) y at))

each_right : {X Y : Type 0} (R : X → Y → Type 0) (Q : Y → Type 0) → ((x : X) (y : Y) → R x y → Q y) → (xs : List X) (ys : List Y) → AllZip R xs ys → AllByRecursion Q ys
each_right R Q goes [] [] are = tt
each_right R Q goes [] (y ∷ ys) are = absurd are
each_right R Q goes (x ∷ xs) [] are = absurd are
each_right R Q goes (x ∷ xs) (y ∷ ys) are = (goes x y are.0, each_right R Q goes xs ys are.1)

-- what is so of what stands at a place
at_place_so : {X : Type 0} (P : X → Type 0) (xs : List X) (k : ℕ) (x : X) → slice_get xs k ≡ Some x → (y : X) × ((slice_get xs k ≡ Some y) × P y) → P x
at_place_so P xs k x at found = subst P (same_Some found.0 x (sym found.1.0 ∙ at)) found.1.1

-- NUMBERS IN THE ORDER OF ROWS

pub some_value : {X : Type 0} (o : Option X) → IsSome o → (x : X) × (o ≡ Some x)
some_value None is = absurd (cc)
some_value (Some x) is = (x, refl)

range_below : (from n q : ℕ) → list_any (nat_eq q) (range_with_len from n) ≡ true → q < from + n
range_below from zero q there = absurd (cc)
range_below from (suc n) q there =
    ⊎_elim
    (λ same. let is : q ≡ from = eqb-true q from same in omega arith)
    (λ later. let less = range_below (from + 1) n q later in omega arith)
    (or_cases (nat_eq q from) (list_any (nat_eq q) (range_with_len (from + 1) n)) there)

range_once : (n : ℕ) → IsDistinct nat_eq (range_with_len 0 n)
range_once n =
    IsDistinct-from_apart nat_eq (range_with_len 0 n)
    (λ i j d less within.
    let size = length-range_with_len 0 n in
    let first = get_or-range_with_len 0 n i d (omega arith) in
    let other = get_or-range_with_len 0 n j d (omega arith) in
    ne_eqb (get_or (range_with_len 0 n) i d) (get_or (range_with_len 0 n) j d) (λ same. omega arith))

module _ (rows numbers : List ℕ) (are : AreInRowOrder (slice_get rows) numbers) where
  pub each_below : AllByRecursion (λ n. n < length rows) numbers
  each_below =
      each-weaken (λ n. IsSome (slice_get rows n)) (λ n. n < length rows)
      (λ n some. let row = some_value (slice_get rows n) some in slice_get_within rows n row.0 row.1) numbers are.each

  pub numbers_once : IsDistinct (λ n other. n == other) numbers
  numbers_once = rising_once (λ n. unwrap_or (slice_get rows n) 0) numbers are.rising

  pub as_many : length numbers ≡ length rows
  as_many =
      let few : length numbers ≤ length rows =
      length-le_from_distinct_below numbers (length rows) numbers_once (λ q there. one_of_each (λ n. n < length rows) numbers q each_below (sym (inside numbers q) ∙ there)) in
      let all : length (range_with_len 0 (length rows)) ≤ length numbers =
      length-le_from_is_member nat_eq_equiv (range_with_len 0 (length rows)) numbers (range_once (length rows))
      (λ q there.
      let row = at_place rows q (let less = range_below 0 (length rows) q there in omega arith) in
      inside numbers q ∙ are.all q (ap is_some row.1)) in
      let size = length-range_with_len 0 (length rows) in
      omega arith

-- METHODS

-- a method of the program, with its row and its body
pub record HasRow {p : Program} (l : IsLinked p) (number : ℕ) (method : Method) : Type 0 where
  pub row : ℕ
  pub at : slice_get l.assembly.reads.reached.rows number ≡ Some row
  pub whole : Whole
  pub whole_at : slice_get l.assembly.reads.reached.bodies number ≡ Some whole
  pub body : IsBody l.assembly.v l.assembly.image row whole
  pub is : IsMethod l.assembly.v (numbering_of l.assembly.reads) row whole method

pub count_is : {p : Program} (l : IsLinked p) → length p.methods ≡ length l.assembly.reads.reached.rows
count_is {p} l = let r = l.assembly.reads in same_count l.assembly.v l.assembly.image (numbering_of r) r.reached.bodies p r.is_reached.bodies r.methods

pub has_row : {p : Program} (l : IsLinked p) (number : ℕ) (method : Method) → slice_get p.methods number ≡ Some method → HasRow l number method
has_row {p} l number method at =
    let r = l.assembly.reads in
    let rows = r.reached.rows in
    let within = slice_get_within p.methods number method at in
    let row = at_place rows number (omega (arith, count_is l)) in
    let body = beside (IsBody l.assembly.v l.assembly.image) rows r.reached.bodies r.is_reached.bodies number row.0 row.1 in
    let Is : ℕ × Whole → Method → Type 0 = λ pair m. IsMethod l.assembly.v (numbering_of r) pair.0 pair.1 m in
    let found = beside Is (zip rows r.reached.bodies) p.methods r.methods number (row.0, body.0) (at_zip rows r.reached.bodies number row.0 body.0 row.1 body.1.0) in
    record {
      row = row.0;
      at = row.1;
      whole = body.0;
      whole_at = body.1.0;
      body = body.1.1;
      is = at_place_so (λ m. IsMethod l.assembly.v (numbering_of r) row.0 body.0 m) p.methods number method at found;
    }

-- SLOTS

among_below : (v : View) (rows : List ℕ) (method : ℕ) (nearest : Option ℕ) → OverridesAmong v rows method nearest → IfSome (number_among rows nearest) (λ over. over < length rows)
among_below v rows method _ (Nothing _ none) = tt
among_below v rows method _ (Nearest _ other over there) = place_below rows other there
among_below v rows method nearest (Behind _ between _ over outside rest) = among_below v rows between nearest rest

pub slots_below : {p : Program} (l : IsLinked p) → AllByRecursion (λ (slot : Slot). IfSome slot.overridden (λ over. over < length p.methods)) p.layout.slots
slots_below {p} l =
    let r = l.assembly.reads in
    let rows = r.reached.rows in
    each_right (IsSlot l.assembly.v rows) (λ (slot : Slot). IfSome slot.overridden (λ over. over < length p.methods))
    (λ method slot is.
    subst (λ o. IfSome o (λ over. over < length p.methods)) (sym is.overridden_is)
    (subst (λ n. IfSome (number_among rows is.nearest) (λ over. over < n)) (sym (count_is l)) (among_below l.assembly.v rows method is.nearest is.among)))
    rows p.layout.slots r.layout.slots

pub slots_are : {p : Program} (l : IsLinked p) → length p.layout.slots ≡ length p.methods
slots_are {p} l = let r = l.assembly.reads in AllZip-long (IsSlot l.assembly.v r.reached.rows) r.reached.rows p.layout.slots r.layout.slots ∙ sym (count_is l)
