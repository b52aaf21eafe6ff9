-- An assembly has a program in one layout.
use Rattle.std.proofs.Common.{◌≡◌, ℕ, ◌<◌, List, Option, Some, refl, sym, ap, ◌∙◌, subst, arith}
use Rattle.std.specs.Prelude.{IsSome, slice_get}
use Rattle.std.specs.Option.{unwrap_or}
use Rattle.std.proofs.lemmas.Bool.{true≢false}
use Rattle.px_link_methods.proofs.RowPlaces.{one_of_each}
use Rattle.px_link_methods.specs.Codes.{Numbering}
use Rattle.px_meta.proofs.Overridden.{one_overridden}
use Rattle.px_meta.specs.Rows.{is_in}
use Rattle.px_program.specs.declared.program.Layout.{Layout}
use Rattle.px_program.specs.declared.program.Slot.{Slot}
use Rattle.px_tables.specs.Metadata.{View}
use Rattle.px_link.specs.Layout.{AreInRowOrder, Behind, IsLayout, IsSlot, Nearest, Nothing, OverridesAmong, number_among, type_row}
use Rattle.px_link.proofs.OneLists.{same_beside, same_in_order}

pub one_row_order : (row : ℕ → Option ℕ) (numbers others : List ℕ) → AreInRowOrder row numbers → AreInRowOrder row others → numbers ≡ others
one_row_order row numbers others are also =
    same_in_order (λ n later. unwrap_or (row n) 0 < unwrap_or (row later) 0) numbers others (λ n later before behind. omega arith) are.rising also.rising
    (λ n there. also.all n (one_of_each (λ m. IsSome (row m)) numbers n are.each there))
    (λ n there. are.all n (one_of_each (λ m. IsSome (row m)) others n also.each there))

pub one_among : (v : View) (rows : List ℕ) (method : ℕ) (one other : Option ℕ) → OverridesAmong v rows method one → OverridesAmong v rows method other → one ≡ other
one_among v rows method one other (Nothing _ none) (Nothing _ none') = refl
one_among v rows method one other (Nothing _ none) (Nearest _ found over there) = absurd (none found over)
one_among v rows method one other (Nothing _ none) (Behind _ between _ over absent among) = absurd (none between over)
one_among v rows method one other (Nearest _ found over there) (Nothing _ none) = absurd (none found over)
one_among v rows method one other (Nearest _ found over there) (Nearest _ found' over' there') = ap (λ r. Some r) (one_overridden v method found found' over over')
one_among v rows method one other (Nearest _ found over there) (Behind _ between _ over' absent among) =
    absurd (true≢false (sym there ∙ ap (is_in rows) (one_overridden v method found between over over') ∙ absent))
one_among v rows method one other (Behind _ between _ over absent among) (Nothing _ none) = absurd (none between over)
one_among v rows method one other (Behind _ between _ over absent among) (Nearest _ found over' there) =
    absurd (true≢false (sym there ∙ ap (is_in rows) (one_overridden v method found between over' over) ∙ absent))
one_among v rows method one other (Behind _ between _ over absent among) (Behind _ between' _ over' absent' among') =
    one_among v rows between one other among (subst (λ m. OverridesAmong v rows m other) (one_overridden v method between' between over' over) among')

same_slot : (one other : Slot) → one.is_virtual ≡ other.is_virtual → one.overridden ≡ other.overridden → one ≡ other
same_slot one other is_virtual overridden = λ i. record { is_virtual = is_virtual i; overridden = overridden i }

pub one_slot : (v : View) (rows : List ℕ) (method : ℕ) (one other : Slot) → IsSlot v rows method one → IsSlot v rows method other → one ≡ other
one_slot v rows method one other is also =
    same_slot one other (is.virtual_is ∙ sym also.virtual_is)
    (is.overridden_is ∙ ap (number_among rows) (one_among v rows method is.nearest also.nearest is.among also.among) ∙ sym also.overridden_is)

same_layout : (one other : Layout) → one.types ≡ other.types → one.methods ≡ other.methods → one.slots ≡ other.slots → one ≡ other
same_layout one other types methods slots = λ i. record { types = types i; methods = methods i; slots = slots i }

pub one_layout : (v : View) (n : Numbering) (one other : Layout) → IsLayout v n one → IsLayout v n other → one ≡ other
one_layout v n one other is also =
    same_layout one other
    (one_row_order (type_row n.keys) one.types other.types is.types also.types)
    (one_row_order (slice_get n.rows) one.methods other.methods is.methods also.methods)
    (same_beside (IsSlot v n.rows) n.rows one.slots other.slots (one_slot v n.rows) is.slots also.slots)
