-- The methods of a program, and the rows that stand for theirs.
use Rattle.std.proofs.Common.{◌≡◌, ℕ, ◌-◌, ◌<◌, true, length, get_or, Option, Some, None, refl, ap, ◌∙◌, arith}
use Rattle.std.specs.Prelude.{IsSome, slice_get}
use Rattle.std.specs.List.{zip}
use Rattle.std.specs.Option.{is_some, unwrap_or}
use Rattle.std.proofs.lemmas.Option.{slice_get-get_or}
use Rattle.px_meta.specs.Members.{owner_of}
use Rattle.px_meta.specs.Rows.{IsRow, is_in, methods}
use Rattle.px_link_methods.specs.Codes.{place_of}
use Rattle.px_link_methods.specs.Methods.{IsMethod}
use Rattle.px_program.specs.declared.program.Method.{Method}
use Rattle.px_program.specs.declared.program.Slot.{Slot}
use Rattle.px_program.proofs.Types.{each_at}
use Rattle.px_link.specs.Layout.{IsSlot}
use Rattle.px_link.proofs.LinkedProgram.{owner_numbered}
use Rattle.px_link_methods.proofs.RowPlaces.{at_place_of, at_zip, beside, in_at, one_of_each, place_at_once, place_below, places_apart, places_rise}
use Rattle.px_link.proofs.Reached.{distinct}
use Rattle.px_link_reach.specs.Met.{IsBody, IsOwned}
use Rattle.px_link_reach.specs.declared.body.Whole.{Whole}
use Rattle.px_asm_law_relink.specs.Again.{Again, first_numbers, method_for, type_for}
use Rattle.px_asm_described.specs.Describes.{IsMethodRow, IsSlotRow, type_row}
use Rattle.px_asm_law_relink.proofs.StandingOwned.{rows_owned}
use Rattle.px_asm_law_relink.proofs.TypesAgain.{IsMet}

-- the method of a row was reached
abbrev pub IsReachedRow : Again → ℕ → Type 0
IsReachedRow a row = is_in a.reads.reached.rows row ≡ true

-- a method by its row in the first assembly, as the program has it and as the other assembly describes it
pub record HasMethodFor (a : Again) (row : ℕ) : Type 0 where
  pub owned : IsOwned a.first row
  pub method : Method
  pub at : slice_get a.p.methods (place_of a.reads.reached.rows row) ≡ Some method
  pub whole : Whole
  pub whole_at : slice_get a.reads.reached.bodies (place_of a.reads.reached.rows row) ≡ Some whole
  pub body : IsBody a.first a.from row whole
  pub is_method : IsMethod a.first (first_numbers a) row whole method
  pub slot : Slot
  pub slot_at : slice_get a.p.layout.slots (place_of a.reads.reached.rows row) ≡ Some slot
  pub is_slot : IsSlot a.first a.reads.reached.rows row slot
  pub there : IsRow a.v methods (method_for a row)
  pub is : IsMethodRow a.p a.v a.image (method_for a row) method
  pub slot_row : IsSlotRow a.v (method_for a row) slot
  pub owner_met : IsMet a (owner_of a.first methods row)
  pub owner : owner_of a.v methods (method_for a row) ≡ type_for a (owner_of a.first methods row)

-- the number of a row that was reached is among those of the layout
number_there : (a : Again) (row : ℕ) → IsReachedRow a row → is_in a.p.layout.methods (place_of a.reads.reached.rows row) ≡ true
number_there a row reached = a.reads.layout.methods.all (place_of a.reads.reached.rows row) (ap is_some (at_place_of a.reads.reached.rows row reached))

pub method_stands : (a : Again) (row : ℕ) → IsReachedRow a row → HasMethodFor a row
method_stands a row reached =
    let rows = a.reads.reached.rows in
    let number = place_of rows row in
    let at = at_place_of rows row reached in
    let body = beside (IsBody a.first a.from) rows a.reads.reached.bodies a.reads.is_reached.bodies number row at in
    let method = beside (λ (pair : ℕ × Whole) (method : Method). IsMethod a.first (first_numbers a) pair.0 pair.1 method) (zip rows a.reads.reached.bodies) a.p.methods a.reads.methods number (row, body.0) (at_zip rows a.reads.reached.bodies number row body.0 at body.1.0) in
    let slot = beside (IsSlot a.first rows) rows a.p.layout.slots a.reads.layout.slots number row at in
    let there = number_there a row reached in
    let placed = at_place_of a.p.layout.methods number there in
    let is = a.describes.methods (place_of a.p.layout.methods number) number method.0 placed method.1.0 in
    record {
      owned = one_of_each (IsOwned a.first) rows row (rows_owned a.first a.from a.name a.p a.reads) reached;
      method = method.0;
      at = method.1.0;
      whole = body.0;
      whole_at = body.1.0;
      body = body.1.1;
      is_method = method.1.1;
      slot = slot.0;
      slot_at = slot.1.0;
      is_slot = slot.1.1;
      there = record { some = omega arith; few = omega (arith, a.describes.methods_count, place_below a.p.layout.methods number there) };
      is = is;
      slot_row = a.describes.slots (place_of a.p.layout.methods number) number slot.0 placed slot.1.0;
      owner_met = owner_numbered a.first a.from a.name a.p a.reads row reached;
      owner = is.owner ∙ ap (type_row a.p) method.1.1.owner;
    }

pub methods_apart : (a : Again) (row other : ℕ) → IsReachedRow a row → IsReachedRow a other → method_for a row ≡ method_for a other → row ≡ other
methods_apart a row other reached other_reached same =
    let rows = a.reads.reached.rows in
    let level : place_of a.p.layout.methods (place_of rows row) ≡ place_of a.p.layout.methods (place_of rows other) = omega arith in
    places_apart rows row other reached other_reached
    (places_apart a.p.layout.methods (place_of rows row) (place_of rows other) (number_there a row reached) (number_there a other other_reached) level)

-- the row of a number
row_in : Again → ℕ → ℕ
row_in a n = unwrap_or (slice_get a.reads.reached.rows n) 0

row_is : (a : Again) (row : ℕ) → IsReachedRow a row → row_in a (place_of a.reads.reached.rows row) ≡ row
unfolding row_in
row_is a row reached = ap (λ o. unwrap_or o 0) (at_place_of a.reads.reached.rows row reached)

-- the rows keep their order
pub methods_rise : (a : Again) (row other : ℕ) → IsReachedRow a row → IsReachedRow a other → row < other → method_for a row < method_for a other
unfolding row_in
methods_rise a row other reached other_reached before =
    let rows = a.reads.reached.rows in
    let less : row_in a (place_of rows row) < row_in a (place_of rows other) = omega (arith, row_is a row reached, row_is a other other_reached) in
    let rises = places_rise (row_in a) a.p.layout.methods (place_of rows row) (place_of rows other) a.reads.layout.methods.rising (number_there a row reached) (number_there a other other_reached) less in
    omega arith

-- each row of the other assembly stands for one
pub record StandsFor (a : Again) (row : ℕ) : Type 0 where
  pub other : ℕ
  pub reached : IsReachedRow a other
  pub is : row ≡ method_for a other

some_value : (o : Option ℕ) → IsSome o → (x : ℕ) × (o ≡ Some x)
some_value None is = absurd (cc)
some_value (Some x) is = (x, refl)

pub all_stand : (a : Again) (row : ℕ) → IsRow a.v methods row → StandsFor a row
all_stand a row is =
    let rows = a.reads.reached.rows in
    let numbers = a.p.layout.methods in
    let within : row - 1 < length numbers = omega (arith, is.some, is.few, a.describes.methods_count) in
    let number = get_or numbers (row - 1) 0 in
    let at = slice_get-get_or numbers (row - 1) 0 within in
    let other = some_value (slice_get rows number) (each_at (λ n. IsSome (slice_get rows n)) numbers a.reads.layout.methods.each (row - 1) number at) in
    let place : place_of rows other.0 ≡ number = place_at_once rows number other.0 (distinct a.first a.from a.reads.lists _ a.reads.reached a.reads.is_reached) other.1 in
    let row_place : place_of numbers number ≡ row - 1 = place_at_once numbers (row - 1) number a.writable.methods_once at in
    record {
      other = other.0;
      reached = in_at rows number other.0 other.1;
      is = omega (arith, ap (place_of numbers) place, is.some);
    }
