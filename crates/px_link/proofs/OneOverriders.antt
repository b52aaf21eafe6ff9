-- The lists of those that override methods are one, since names put them in order.
use Rattle.std.proofs.Common.{◌≡◌, ℕ, ◌+◌, List, sym, ◌∙◌}
use Rattle.px_link_methods.proofs.RowPlaces.{one_of_each}
use Rattle.px_link_reach.specs.Overriders.{AreLists, AreOverriders, IsBefore, OverridesThrough}
use Rattle.px_tables.specs.Metadata.{View}
use Rattle.px_link.proofs.OneLists.{same_by_items, same_in_order}
use Rattle.px_link.proofs.OneName.{never_both_ways}

pub one_overriders : (v : View) (method : ℕ) (some others : List ℕ) → AreOverriders v method some → AreOverriders v method others → some ≡ others
one_overriders v method some others are others_are =
    same_in_order (IsBefore v) some others (never_both_ways v) are.order others_are.order
    (λ row there. others_are.all row (one_of_each (λ other. OverridesThrough v other method) some row are.each there))
    (λ row there. are.all row (one_of_each (λ other. OverridesThrough v other method) others row others_are.each there))

pub one_lists : (v : View) (lists others : List (List ℕ)) → AreLists v lists → AreLists v others → lists ≡ others
one_lists v lists others are others_are =
    same_by_items lists others (are.count ∙ sym others_are.count) (λ n list other at other_at. one_overriders v (n + 1) list other (are.each n list at) (others_are.each n other other_at))
