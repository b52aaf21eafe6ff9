-- Rows of fields, arrays and instance tests (Partition III, 4).
use Rattle.std.specs.Prelude.{ℕ, suc, ◌==◌, Bool, true, false, if◌then◌else◌, List, [], ◌∷◌, length, replicate, Option, Some, None, slice_get, slice_set}
use Rattle.px_words.specs.declared.Op.TheVariants as op
use Rattle.px_cells.specs.Algebra.{Algebra, Made}
use Rattle.px_cells.specs.Elements as elements
use Rattle.px_cells.specs.declared.elements.Widths.{Widths}
use Rattle.px_cells.specs.declared.slot.Slot.{Slot}
use Rattle.px_cells.specs.declared.slot.Slot.TheVariants as slots
use Rattle.px_program.specs.Formed.{element_in}
use Rattle.px_program.specs.declared.instr.Field.{Field}
use Rattle.px_program.specs.declared.program.Place.{Place}
use Rattle.px_program.specs.declared.record.End.TheVariants as ends
use Rattle.px_program.specs.declared.record.SiteKind.TheVariants as sites
use Rattle.px_verify_kinds.specs.Kinds.{fits}
use Rattle.px_machine.specs.Numbers.{is_wide, kind_at}
use Rattle.px_machine.specs.declared.entry.Entry.{Entry}
use Rattle.px_machine.specs.declared.entry.Entry.TheVariants as entry
use Rattle.px_machine.specs.declared.entry.NumberKind.{NumberKind}
use Rattle.px_machine.specs.declared.entry.NumberKind.TheVariants.{N}
use Rattle.px_machine.specs.State.{Here, Object, Step, Ends, Stuck}
use Rattle.px_machine.specs.Parts.{overflow, null_reference, index_out_of_range, invalid_cast, array_mismatch, entry_by, loaded, class_of, slot_of, place_of, static_place, elements_in, list_at, set_in, store_at, with_slots}
use Rattle.px_machine.specs.Scalars.{same, constant, on_one, on_two, denied}
use Rattle.px_machine.specs.Steps.{goes_on, pushes, comes_to, zero_at, makes, throws, passes, on_entry, on_number, on_option, stored}

module _ {P W : Type 0} (a : Algebra P W) where
  -- REFERENCES

  -- a reference that may not be null
  abbrev pub on_cell : Here W → Entry W → P → (ℕ → Step P W) → Step P W
  on_cell here (entry.Cell cell) pool next = next cell
  on_cell here entry.Null pool next = throws a here null_reference pool
  on_cell here (entry.Number kind x) pool next = Stuck pool

  abbrev pub on_object : Here W → List (Entry W) → P → (ℕ → Object W → List (Entry W) → Step P W) → Step P W
  on_object here stack pool next = on_entry a stack pool (λ x rest. on_cell here x pool (λ cell. on_option a (slice_get here.shared.heap cell) pool (λ object. next cell object rest)))

  -- FIELDS

  abbrev pub load_field : Here W → Field → List (Entry W) → P → Step P W
  load_field here field stack pool = on_object here stack pool (λ cell object rest.
      on_option a (loaded (place_of here.program.types field) (slice_get object.slots (slot_of here.program.types field))) pool (λ x. goes_on a here (x ∷ rest) pool))

  abbrev pub store_field : Here W → Field → List (Entry W) → P → Step P W
  store_field here field stack pool = on_entry a stack pool (λ value below. on_object here below pool (λ cell object rest.
      on_option a (place_of here.program.types field) pool (λ place. stored a place value pool (λ slot after.
      goes_on a (record here { shared = record here.shared { heap = store_at here.shared.heap cell (slot_of here.program.types field) slot } }) rest after))))

  abbrev pub field_row : Here W → Bool → Field → List (Entry W) → P → Step P W
  field_row here store field stack pool = if store then store_field here field stack pool else load_field here field stack pool

  abbrev pub load_static : Here W → Field → List (Entry W) → P → Step P W
  load_static here field stack pool =
      on_option a (loaded (static_place here.program.types field) (slice_get (list_at (slice_get here.shared.statics field.owner)) field.index)) pool (λ x. goes_on a here (x ∷ stack) pool)

  abbrev pub store_static : Here W → Field → List (Entry W) → P → Step P W
  store_static here field stack pool = on_entry a stack pool (λ value rest. on_option a (static_place here.program.types field) pool (λ place. stored a place value pool (λ slot after.
      goes_on a (record here { shared = record here.shared { statics = set_in here.shared.statics field.owner field.index slot } }) rest after)))

  abbrev pub static_row : Here W → Bool → Field → List (Entry W) → P → Step P W
  static_row here store field stack pool = if store then store_static here field stack pool else load_static here field stack pool

  -- INSTANCE TESTS

  abbrev pub cast_by : Here W → Bool → Bool → ℕ → List (Entry W) → P → Step P W
  cast_by here throwing true cell rest pool = goes_on a here (entry.Cell cell ∷ rest) pool
  cast_by here throwing false cell rest pool = if throwing then throws a here invalid_cast pool else goes_on a here (entry.Null ∷ rest) pool

  abbrev pub cast_entry : Here W → Bool → ℕ → Entry W → List (Entry W) → P → Step P W
  cast_entry here throwing class entry.Null rest pool = goes_on a here (entry.Null ∷ rest) pool
  cast_entry here throwing class (entry.Cell cell) rest pool = on_option a (class_of here.shared.heap cell) pool (λ own. cast_by here throwing (fits here.program.types own class) cell rest pool)
  cast_entry here throwing class (entry.Number kind x) rest pool = Stuck pool

  -- null passes
  abbrev pub cast_row : Here W → Bool → ℕ → List (Entry W) → P → Step P W
  cast_row here throwing class stack pool = on_entry a stack pool (λ x rest. cast_entry here throwing class x rest pool)

  -- ARRAYS

  -- side 0 to the bound is the length, the next one a negative number, and the last one a number past the bound
  abbrev pub length_side : ℕ → Bool → W → P → Made P W
  length_side bound wide n pool =
      let short = if wide then on_one a (op.Low true) (same a n pool) else same a n pool in
      let negative = on_two a (op.LtS wide) n (constant a wide 0 short.pool) in
      let end = constant a wide bound negative.pool in
      let large = on_two a (op.LtS wide) end.scalar (same a n end.pool) in
      let past = constant a false (suc (suc bound)) large.pool in
      let either = a.applied past.pool (op.Ite false) (large.scalar ∷ past.scalar ∷ short.scalar ∷ []) in
      let below = constant a false (suc bound) either.pool in
      a.applied below.pool (op.Ite false) (negative.scalar ∷ below.scalar ∷ either.scalar ∷ [])

  abbrev pub new_array : Here W → ℕ → Place → ℕ → ℕ → List (Entry W) → P → Step P W
  new_array here class element bound side rest pool =
      if side == suc bound then throws a here overflow pool
      else if side == suc (suc bound) then Ends ends.HeapBound pool
      else makes a here class (replicate side (zero_at a here.shared.zeros element)) pool (λ now cell. goes_on a now (entry.Cell cell ∷ rest) pool)

  abbrev pub new_array_row : Here W → ℕ → List (Entry W) → P → Step P W
  new_array_row here class stack pool = on_option a (elements_in (slice_get here.program.types class)) pool (λ element. on_number a stack pool (λ kind n rest.
      comes_to a here sites.Length (suc (suc (suc here.bounds.length))) 1 (length_side here.bounds.length (is_wide kind) n pool) (λ side after. new_array here class element here.bounds.length side rest after)))

  abbrev pub length_row : Here W → List (Entry W) → P → Step P W
  length_row here stack pool = on_object here stack pool (λ cell object rest. pushes a here N rest (constant a true (length object.slots) pool))

  -- an index that is checked, as a word of 32 bits
  abbrev pub on_index : Here W → ℕ → NumberKind → W → P → (Made P W → Step P W) → Step P W
  on_index here count kind index pool next =
      passes a here sites.Bounds index_out_of_range (denied a (on_two a (op.LtU (is_wide kind)) index (constant a (is_wide kind) count pool)))
      (λ after. next (if is_wide kind then on_one a (op.Low true) (same a index after) else same a index after))

  abbrev pub element_widths : NumberKind → Widths
  element_widths kind = record { index = false; element = is_wide kind }

  -- a number at an index is read from all elements; a reference by an event that says which
  abbrev pub load_by : Here W → Option NumberKind → List (Slot W) → Made P W → List (Entry W) → Step P W
  load_by here (Some kind) numbers index rest = pushes a here kind rest (elements.selected a (element_widths kind) index.scalar numbers index.pool)
  load_by here None references index rest = comes_to a here sites.Index (length references) 1 index (λ side pool. on_option a (slice_get references side) pool (λ slot.
      on_option a (entry_by None slot) pool (λ x. goes_on a here (x ∷ rest) pool)))

  abbrev pub load_element : Here W → List (Entry W) → P → Step P W
  load_element here stack pool = on_number a stack pool (λ kind index below. on_object here below pool (λ cell object rest.
      on_option a (elements_in (slice_get here.program.types object.class)) pool (λ element.
      on_index here (length object.slots) kind index pool (λ low. load_by here (kind_at element) object.slots low rest))))

  abbrev pub fits_element : Here W → Place → Slot W → Bool
  fits_element here element slots.Null = true
  fits_element here element (slots.Number x) = false
  fits_element here element (slots.Cell cell) = by_class (class_of here.shared.heap cell) (element_in (Some (record { name = []; base = None; element = Some element; fields = []; statics = []; overrides = [] })))
    where
      by_class : Option ℕ → Option ℕ → Bool
      by_class (Some own) (Some wanted) = fits here.program.types own wanted
      by_class _ _ = false

  abbrev pub set_slots : Here W → ℕ → List (Slot W) → Here W
  set_slots here cell new = record here { shared = record here.shared { heap = with_slots here.shared.heap cell new (slice_get here.shared.heap cell) } }

  abbrev pub store_by : Here W → ℕ → Place → Option NumberKind → List (Slot W) → Made P W → Slot W → List (Entry W) → Step P W
  store_by here cell element (Some kind) numbers index (slots.Number value) rest =
      let written = elements.stored a (element_widths kind) index.scalar value numbers index.pool in goes_on a (set_slots here cell written.slots) rest written.pool
  store_by here cell element None references index slot rest = comes_to a here sites.Index (length references) 1 index (λ side pool.
      if fits_element here element slot then goes_on a (set_slots here cell (slice_set references side slot)) rest pool else throws a here array_mismatch pool)
  store_by here cell element _ references index slot rest = Stuck index.pool

  abbrev pub store_element : Here W → List (Entry W) → P → Step P W
  store_element here stack pool = on_entry a stack pool (λ value under. on_number a under pool (λ kind index below. on_object here below pool (λ cell object rest.
      on_option a (elements_in (slice_get here.program.types object.class)) pool (λ element.
      on_index here (length object.slots) kind index pool (λ low. stored a element value low.pool (λ slot after. store_by here cell element (kind_at element) object.slots (same a low.scalar after) slot rest))))))

  abbrev pub element_row : Here W → Bool → List (Entry W) → P → Step P W
  element_row here store stack pool = if store then store_element here stack pool else load_element here stack pool
