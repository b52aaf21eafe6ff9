-- Which slots may stand at a place: numbers at the width of its words, and references.
use Rattle.std.specs.Prelude.{ℕ, Bool, true, false, Option, Some, None}
use Rattle.px_words.specs.Operator.{bits_of}
use Rattle.px_program.specs.declared.program.Place.{Place}
use Rattle.px_program.specs.declared.program.Place.TheVariants as places
use Rattle.px_cells.specs.declared.slot.Slot.{Slot}
use Rattle.px_cells.specs.declared.slot.Slot.TheVariants.{Number, Null, Cell}

-- whether a number at the place is a word of 64 bits, and else it is one of 32 (Partition I, 12.1); at the place of a reference there is no number
abbrev pub wide_at : Place → Option Bool
wide_at places.I8 = Some true
wide_at places.U8 = Some true
wide_at places.N = Some true
wide_at places.UN = Some true
wide_at places.Bool = Some false
wide_at places.Char = Some false
wide_at places.I1 = Some false
wide_at places.U1 = Some false
wide_at places.I2 = Some false
wide_at places.U2 = Some false
wide_at places.I4 = Some false
wide_at places.U4 = Some false
wide_at (places.Ref class) = None

-- a number that stands at the width, or a reference where there is no width
abbrev pub IsSlotOf : {W : Type 0} → (ℕ → W → Type 0) → Option Bool → Slot W → Type 0
IsSlotOf StandsAt (Some wide) (Number x) = StandsAt (bits_of wide) x
IsSlotOf StandsAt (Some wide) Null = ⊥
IsSlotOf StandsAt (Some wide) (Cell number) = ⊥
IsSlotOf StandsAt None (Number x) = ⊥
IsSlotOf StandsAt None Null = Unit {0}
IsSlotOf StandsAt None (Cell number) = Unit {0}

-- the slot may stand at the place
abbrev pub IsSlotAt : {W : Type 0} → (ℕ → W → Type 0) → Place → Slot W → Type 0
IsSlotAt StandsAt place slot = IsSlotOf StandsAt (wide_at place) slot
