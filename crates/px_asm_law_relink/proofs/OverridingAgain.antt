-- What overrides what, read again.
use Rattle.std.proofs.Common.{◌≡◌, ℕ, zero, suc, ◌+◌, ◌-◌, ◌<◌, true, List, [], ◌∷◌, length, get_or, map, Option, Some, None, refl, sym, ap, ◌∙◌, subst, arith}
use Rattle.std.specs.Prelude.{◌==◌, IsSome, filter, slice_get}
use Rattle.std.specs.List.{AllByRecursion, AllZip, IsDistinct}
use Rattle.std.specs.Option.{is_some, option_map, unwrap_or}
use Rattle.std.proofs.lemmas.List.{get_or-map, length-map}
use Rattle.std.proofs.lemmas.List.Kept.{AllPairs-filter}
use Rattle.std.proofs.lemmas.Option.{get_or_from_slice_get, same_Some, slice_get-map, slice_get_within}
use Rattle.std.proofs.lemmas.Slice.Zip.{AllZip-long}
use Rattle.px_link.specs.Layout.{AreInRowOrder, IsLayout, IsSlot, Nearest, Nothing, OverridesAmong, number_among, row_of, row_of_key, type_row}
use Rattle.px_link.specs.Link.{starts_of}
use Rattle.px_link.specs.Overrides.{AreOverrides, first_of, in_order, nearest, or_later, pair_of, pairs_of}
use Rattle.px_link.proofs.Finding.{item_at}
use Rattle.px_link.proofs.LinkedBases.{all_apart, number_at}
use Rattle.px_link_methods.proofs.RowPlaces.{at_place_of, each_in, found_in, in_at, in_filter, one_of_each, place_at_once, place_below, zip_at}
use Rattle.px_link.proofs.Reached.{distinct}
use Rattle.px_meta.specs.Chains.{GoesOn, IsChain, base_in}
use Rattle.px_meta.specs.Members.{owner_of}
use Rattle.px_meta.specs.Rows.{is_in, methods}
use Rattle.px_link_methods.specs.Codes.{place_of}
use Rattle.px_program.specs.declared.program.Slot.{Slot}
use Rattle.px_program.proofs.Types.{each-weaken}
use Rattle.px_link_reach.proofs.Reaching.{overriders_met}
use Rattle.px_link_reach.specs.Overriders.{AreLists, AreOverriders, Directly, IsBefore, OverridesThrough, overriders_in}
use Rattle.px_link_types.specs.Keys.{alone}
use Rattle.px_link_types.specs.Numbers.{has_key, number_of}
use Rattle.px_link_types.specs.declared.key.Key.{Key}
use Rattle.px_link_types.specs.declared.key.Leaf.{Leaf}
use Rattle.px_link_types.specs.declared.key.Leaf.TheVariants.{Number, Library, Defined}
use Rattle.px_asm_law_relink.specs.Again.{Again, first_numbers, key_for, keys_for, leaf_for, method_for, methods_for, numbers_for, type_for}
use Rattle.px_asm_law_relink.proofs.OverridingBoth.{comes_from, here_too, leads_on, nearest_among, said_again, there_too, through_may}
use Rattle.px_asm_law_relink.proofs.OverridingLists.{all_kept, each_mapped, found_mapped, joined_mapped, kept_mapped, kept_passes, mapped_there, pairs_mapped, rises_by_place, same_place, same_test}
use Rattle.px_asm_law_relink.proofs.OverridingOrder.{before_again}
use Rattle.px_asm_law_relink.proofs.ReachedMaps.{in_for}
use Rattle.px_asm_law_relink.proofs.Standing.{IsReachedRow, all_stand, method_stands, methods_apart}
use Rattle.px_asm_law_relink.proofs.TypesAgain.{IsMet, base_met, chain_again, types_apart}

-- LISTS

-- those that override a method and were reached, by the rows that stand for them
list_for : Again → ℕ → List ℕ
list_for a row = methods_for a (filter (is_in a.reads.reached.rows) (overriders_in a.reads.lists row))

-- the list of a method, by its number
list_of_number : Again → ℕ → List ℕ
list_of_number a number = list_for a (unwrap_or (slice_get a.reads.reached.rows number) 0)

-- the lists of those that override each method, by the rows of the other assembly
pub lists_for : Again → List (List ℕ)
lists_for a = map (list_of_number a) a.p.layout.methods

list_is : (a : Again) (row : ℕ) → IsReachedRow a row → overriders_in (lists_for a) (method_for a row) ≡ list_for a row
unfolding lists_for list_of_number
list_is a row reached =
    let rows = a.reads.reached.rows in
    let numbers = a.p.layout.methods in
    let number = place_of rows row in
    let there = a.reads.layout.methods.all number (ap is_some (at_place_of rows row reached)) in
    let level : (place_of numbers number + 1) - 1 ≡ place_of numbers number = omega arith in
    ap (λ k. get_or (lists_for a) k []) level
    ∙ get_or-map (list_of_number a) numbers (place_of numbers number) 0 [] (place_below numbers number there)
    ∙ ap (list_of_number a) (get_or_from_slice_get numbers (place_of numbers number) number 0 (at_place_of numbers number there))
    ∙ ap (λ o. list_for a (unwrap_or o 0)) (at_place_of rows row reached)

-- what overrides a method in the first assembly
first_list : (a : Again) (row : ℕ) → IsReachedRow a row → AreOverriders a.first row (overriders_in a.reads.lists row)
first_list a row reached = item_at AreOverriders a.first methods a.reads.lists row [] a.reads.overriding (method_stands a row reached).owned.row

list_again : (a : Again) (row : ℕ) → IsReachedRow a row → AreOverriders a.v (method_for a row) (list_for a row)
unfolding list_for
list_again a row reached =
    let among = is_in a.reads.reached.rows in
    let all = overriders_in a.reads.lists row in
    let list = first_list a row reached in
    record {
      each = each_mapped (λ other. OverridesThrough a.v other (method_for a row)) (method_for a) (filter among all)
          (λ other there. let kept = kept_passes among all other there in there_too a other row kept.0 reached (one_of_each (λ m. OverridesThrough a.first m row) all other list.each kept.1));
      all = λ other through.
          let stands = all_stand a other (through_may a.v other (method_for a row) through).row in
          let here = here_too a stands.other row stands.reached reached (subst (λ m. OverridesThrough a.v m (method_for a row)) stands.is through) in
          subst (λ m. is_in (list_for a row) m ≡ true) (sym stands.is) (mapped_there (method_for a) (filter among all) stands.other (in_filter among all stands.other stands.reached (list.all stands.other here)));
      order = pairs_mapped (IsBefore a.first) (IsBefore a.v) (method_for a) (filter among all)
          (λ m n there later_there before. before_again a m n (kept_passes among all m there).0 (kept_passes among all n later_there).0 before)
          (AllPairs-filter (IsBefore a.first) among all list.order);
    }

pub are_lists : (a : Again) → AreLists a.v (lists_for a)
unfolding lists_for
are_lists a = record {
  count = length-map a.p.layout.methods (list_of_number a) ∙ sym a.describes.methods_count;
  each = λ n item at.
      let few : n < length a.p.layout.methods = omega (arith, slice_get_within (lists_for a) n item at, length-map a.p.layout.methods (list_of_number a)) in
      let stands = all_stand a (n + 1) (record { some = omega arith; few = omega (arith, a.describes.methods_count) }) in
      let level : method_for a stands.other - 1 ≡ n = omega (arith, stands.is) in
      let same : list_for a stands.other ≡ item =
      sym (list_is a stands.other stands.reached) ∙ ap (λ k. get_or (lists_for a) k []) level ∙ get_or_from_slice_get (lists_for a) n item [] at in
      subst (λ m. AreOverriders a.v m item) (sym stands.is) (subst (AreOverriders a.v (method_for a stands.other)) same (list_again a stands.other stands.reached));
}

-- those that override a method that a `callvirt` names
pub overriders_again : (a : Again) (target : ℕ) → is_in a.reads.reached.virtual_targets target ≡ true → overriders_in (lists_for a) (method_for a target) ≡ methods_for a (overriders_in a.reads.lists target)
unfolding list_for
overriders_again a target named =
    let met = overriders_met a.reads.is_reached target named in
    list_is a target met.0 ∙ ap (methods_for a) (all_kept (is_in a.reads.reached.rows) (overriders_in a.reads.lists target) met.1)

-- OVERRIDES

-- the methods that a `callvirt` names, in the order of their numbers
abbrev pub targets_of : Again → List ℕ
targets_of a = in_order a.reads.reached.rows a.reads.reached.virtual_targets

-- they stand in the same order in the other assembly
pub targets_again : (a : Again) → in_order (methods_for a a.reads.reached.rows) (methods_for a a.reads.reached.virtual_targets) ≡ methods_for a (targets_of a)
targets_again a =
    let rows = a.reads.reached.rows in
    let targets = a.reads.reached.virtual_targets in
    let reached = each_in (IsReachedRow a) targets (λ target named. (overriders_met a.reads.is_reached target named).0) in
    kept_mapped (method_for a) (is_in targets) (is_in (methods_for a targets)) rows
    (each_in (λ row. is_in (methods_for a targets) (method_for a row) ≡ is_in targets row) rows (λ row there. in_for a targets row reached there))

or_later_mapped : (f : ℕ → ℕ) (first later : Option ℕ) → or_later (option_map f first) (option_map f later) ≡ option_map f (or_later first later)
or_later_mapped f None later = refl
or_later_mapped f (Some row) later = refl

nearest_by : (P : ℕ → Type 0) (first later : Option ℕ) (found : ℕ) → (first ≡ Some found → P found) → (later ≡ Some found → P found) → or_later first later ≡ Some found → P found
nearest_by P None later found here rest is = rest is
nearest_by P (Some row) later found here rest is = here is

module _ (a : Again) where
  chain_met : (row : ℕ) (behind : List ℕ) → IsMet a row → IsChain (base_in a.first) row behind → AllByRecursion (IsMet a) (row ∷ behind)
  chain_met row [] met chain = (met, tt)
  chain_met row (base ∷ behind) met (GoesOn _ _ _ on chain) = (met, chain_met base behind (base_met a row base met on) chain)

  first_again : (type : ℕ) (overriders : List ℕ) → IsMet a type → AllByRecursion (IsReachedRow a) overriders → first_of a.v (type_for a type) (methods_for a overriders) ≡ option_map (method_for a) (first_of a.first type overriders)
  first_again type overriders met reached =
      found_mapped (method_for a) (λ m. owner_of a.first methods m == type) (λ m. owner_of a.v methods m == type_for a type) overriders
      (each-weaken (IsReachedRow a) (λ m. (owner_of a.v methods (method_for a m) == type_for a type) ≡ (owner_of a.first methods m == type))
      (λ m there.
      let stands = method_stands a m there in
      ap (λ owner. owner == type_for a type) stands.owner ∙ same_test (IsMet a) (type_for a) (types_apart a) (owner_of a.first methods m) type stands.owner_met met)
      overriders reached)

  nearest_again : (types overriders : List ℕ) → AllByRecursion (IsMet a) types → AllByRecursion (IsReachedRow a) overriders
      → nearest a.v (map (type_for a) types) (methods_for a overriders) ≡ option_map (method_for a) (nearest a.first types overriders)
  nearest_again [] overriders met reached = refl
  nearest_again (type ∷ types) overriders met reached =
      let first = first_again type overriders met.0 reached in
      let later = nearest_again types overriders met.1 reached in
      ap (λ o. or_later o (nearest a.v (map (type_for a) types) (methods_for a overriders))) first
      ∙ ap (or_later (option_map (method_for a) (first_of a.first type overriders))) later
      ∙ or_later_mapped (method_for a) (first_of a.first type overriders) (nearest a.first types overriders)

  nearest_there : (types overriders : List ℕ) (found : ℕ) → nearest a.first types overriders ≡ Some found → is_in overriders found ≡ true
  nearest_there [] overriders found is = absurd (cc)
  nearest_there (type ∷ types) overriders found is =
      nearest_by (λ m. is_in overriders m ≡ true) (first_of a.first type overriders) (nearest a.first types overriders) found
      (λ here. found_in (λ m. owner_of a.first methods m == type) overriders found here) (λ later. nearest_there types overriders found later) is

  all_reached : AllByRecursion (IsReachedRow a) a.reads.reached.rows
  all_reached = each_in (IsReachedRow a) a.reads.reached.rows (λ row there. there)

  pub number_again : (row : ℕ) → IsReachedRow a row → place_of (methods_for a a.reads.reached.rows) (method_for a row) ≡ place_of a.reads.reached.rows row
  number_again row reached = same_place (IsReachedRow a) (method_for a) (methods_apart a) a.reads.reached.rows row all_reached reached

  pair_again : (target : ℕ) (found : Option ℕ) → IsReachedRow a target → ((row : ℕ) → found ≡ Some row → IsReachedRow a row)
      → pair_of (numbers_for a) (method_for a target) (option_map (method_for a) found) ≡ pair_of (first_numbers a) target found
  pair_again target None reached there = refl
  pair_again target (Some row) reached there = let one = number_again target reached in let other = number_again row (there row refl) in cc

  pairs_again : (types : List ℕ) → AllByRecursion (IsMet a) types
      → pairs_of a.v (numbers_for a) (lists_for a) (methods_for a (targets_of a)) (map (type_for a) types) ≡ pairs_of a.first (first_numbers a) a.reads.lists (targets_of a) types
  pairs_again types met =
      let targets = targets_of a in
      let lists = a.reads.lists in
      joined_mapped (method_for a)
      (λ target. pair_of (first_numbers a) target (nearest a.first types (overriders_in lists target)))
      (λ target. pair_of (numbers_for a) target (nearest a.v (map (type_for a) types) (overriders_in (lists_for a) target)))
      targets
      (each_in (λ target. pair_of (numbers_for a) (method_for a target) (nearest a.v (map (type_for a) types) (overriders_in (lists_for a) (method_for a target))) ≡ pair_of (first_numbers a) target (nearest a.first types (overriders_in lists target))) targets
      (λ target kept.
      let named = (kept_passes (is_in a.reads.reached.virtual_targets) a.reads.reached.rows target kept).0 in
      let all = overriders_met a.reads.is_reached target named in
      let overriders = overriders_in lists target in
      ap (λ l. pair_of (numbers_for a) (method_for a target) (nearest a.v (map (type_for a) types) l)) (overriders_again a target named)
      ∙ ap (pair_of (numbers_for a) (method_for a target)) (nearest_again types overriders met all.1)
      ∙ pair_again target (nearest a.first types overriders) all.0 (λ row found. one_of_each (IsReachedRow a) overriders row all.1 (nearest_there types overriders row found))))

-- the methods that take the place of others in a type
pub overrides_again : (a : Again) (depth : ℕ) (leaf : Leaf) (pairs : List (ℕ × ℕ)) → has_key a.reads.keys (record { depth = depth; leaf = leaf }) ≡ true
    → AreOverrides a.first (first_numbers a) a.reads.lists (targets_of a) depth leaf pairs
    → AreOverrides a.v (numbers_for a) (lists_for a) (methods_for a (targets_of a)) depth (leaf_for a leaf) pairs
overrides_again a zero (Number integer) pairs has are = are
overrides_again a zero (Library number) pairs has are = are
overrides_again a zero (Defined type) pairs has are = record {
  behind = map (type_for a) are.behind;
  chain = chain_again a type are.behind has are.chain;
  are = are.are ∙ sym (pairs_again a (type ∷ are.behind) (chain_met a type are.behind has are.chain));
}
overrides_again a (suc depth) leaf pairs has are = are

-- THE LAYOUT

same_some : (f : ℕ → ℕ) (o : Option ℕ) → is_some (option_map f o) ≡ is_some o
same_some f None = refl
same_some f (Some x) = refl

some_row : (o : Option ℕ) → IsSome o → (row : ℕ) × (o ≡ Some row)
some_row None is = absurd (cc)
some_row (Some row) is = (row, refl)

-- where rows are those that stand for others, by what rises with the places, numbers keep their order
order_again : (f : ℕ → ℕ) (more : ℕ) (row other : ℕ → Option ℕ) (numbers : List ℕ) → ((n : ℕ) → other n ≡ option_map f (row n)) → IsDistinct (λ n m. n == m) numbers
    → ((n r : ℕ) → row n ≡ Some r → f r ≡ place_of numbers n + more) → AreInRowOrder row numbers → AreInRowOrder other numbers
order_again f more row other numbers same once placed order = record {
  each = each-weaken (λ n. IsSome (row n)) (λ n. IsSome (other n)) (λ n some. ap is_some (same n) ∙ same_some f (row n) ∙ some) numbers order.each;
  all = λ n some. order.all n (sym (same_some f (row n)) ∙ sym (ap is_some (same n)) ∙ some);
  rising = rises_by_place (λ n. unwrap_or (other n) 0) more numbers once
      (each-weaken (λ n. IsSome (row n)) (λ n. unwrap_or (other n) 0 ≡ place_of numbers n + more)
      (λ n some. let is = some_row (row n) some in ap (λ o. unwrap_or o 0) (same n ∙ ap (option_map f) is.1) ∙ placed n is.0 is.1)
      numbers order.each);
}

module _ (a : Again) where
  leaf_row : (depth : ℕ) (leaf : Leaf) → row_of depth (leaf_for a leaf) ≡ option_map (type_for a) (row_of depth leaf)
  leaf_row zero (Number integer) = refl
  leaf_row zero (Library number) = refl
  leaf_row zero (Defined row) = refl
  leaf_row (suc depth) leaf = refl

  key_row : (key : Option Key) → row_of_key (option_map (key_for a) key) ≡ option_map (type_for a) (row_of_key key)
  key_row None = refl
  key_row (Some key) = leaf_row key.depth key.leaf

  key_at : (depth : ℕ) (leaf : Leaf) (row : ℕ) → row_of depth leaf ≡ Some row → (record { depth = depth; leaf = leaf }) ≡ alone (Defined row)
  key_at zero (Number integer) row is = absurd (cc)
  key_at zero (Library number) row is = absurd (cc)
  key_at zero (Defined other) row is = ap (λ r. alone (Defined r)) (same_Some other row is)
  key_at (suc depth) leaf row is = absurd (cc)

  type_at : (n row : ℕ) (key : Option Key) → slice_get a.reads.keys n ≡ key → row_of_key key ≡ Some row → number_of a.reads.keys (alone (Defined row)) ≡ n
  type_at n row None at is = absurd (cc)
  type_at n row (Some key) at is =
      number_at a.reads.keys n (alone (Defined row)) (all_apart a.reads.numbers) (at ∙ ap (λ k. Some k) (key_at key.depth key.leaf row is))

  types_again : AreInRowOrder (type_row (keys_for a a.reads.keys)) a.p.layout.types
  types_again =
      order_again (type_for a) 2 (type_row a.reads.keys) (type_row (keys_for a a.reads.keys)) a.p.layout.types
      (λ n. ap row_of_key (slice_get-map (key_for a) a.reads.keys n) ∙ key_row (slice_get a.reads.keys n))
      a.writable.types_once
      (λ n row is. ap (λ m. place_of a.p.layout.types m + 2) (type_at n row (slice_get a.reads.keys n) refl is))
      a.reads.layout.types

  rows_once : IsDistinct (λ row other. row == other) a.reads.reached.rows
  rows_once = distinct a.first a.from a.reads.lists (starts_of a.first a.reads.method a.reads.sig) a.reads.reached a.reads.is_reached

  numbers_again : AreInRowOrder (slice_get (methods_for a a.reads.reached.rows)) a.p.layout.methods
  numbers_again =
      order_again (method_for a) 1 (slice_get a.reads.reached.rows) (slice_get (methods_for a a.reads.reached.rows)) a.p.layout.methods
      (slice_get-map (method_for a) a.reads.reached.rows)
      a.writable.methods_once
      (λ n row is. ap (λ m. place_of a.p.layout.methods m + 1) (place_at_once a.reads.reached.rows n row rows_once is))
      a.reads.layout.methods

  among_again : (row : ℕ) (found : Option ℕ) → (reached : IsReachedRow a row) → OverridesAmong a.first a.reads.reached.rows row found
      → (method_stands a row reached).slot.overridden ≡ number_among a.reads.reached.rows found → OverridesAmong a.v (methods_for a a.reads.reached.rows) (method_for a row) (option_map (method_for a) found)
  among_again row None reached among is =
      Nothing (method_for a row)
      (λ other over.
      let from = comes_from a row other reached (Directly (method_for a row) other over) in
      let lead = (leads_on a row from.over None from.reached from.through among).is in
      absurd (cc))
  among_again row (Some over) reached among is =
      let nearest_is = nearest_among a.first a.reads.reached.rows row over (Some over) among refl in
      Nearest (method_for a row) (method_for a over) (said_again a row over reached nearest_is.there is (through_may a.first row over nearest_is.through))
      (mapped_there (method_for a) a.reads.reached.rows over nearest_is.there)

  number_of_nearest : (row : ℕ) (found : Option ℕ) → OverridesAmong a.first a.reads.reached.rows row found → number_among (methods_for a a.reads.reached.rows) (option_map (method_for a) found) ≡ number_among a.reads.reached.rows found
  number_of_nearest row None among = refl
  number_of_nearest row (Some over) among = ap (λ n. Some n) (number_again a over (nearest_among a.first a.reads.reached.rows row over (Some over) among refl).there)

  slot_again : (row : ℕ) → (reached : IsReachedRow a row) → IsSlot a.v (methods_for a a.reads.reached.rows) (method_for a row) (method_stands a row reached).slot
  slot_again row reached =
      let stands = method_stands a row reached in
      let is = stands.is_slot in
      record {
        virtual_is = sym stands.slot_row.virtual_is;
        nearest = option_map (method_for a) is.nearest;
        among = among_again row is.nearest reached is.among is.overridden_is;
        overridden_is = is.overridden_is ∙ sym (number_of_nearest row is.nearest is.among);
      }

  slot_at : (n method : ℕ) (slot : Slot) (row : Option ℕ) → slice_get a.reads.reached.rows n ≡ row → option_map (method_for a) row ≡ Some method → slice_get a.p.layout.slots n ≡ Some slot → IsSlot a.v (methods_for a a.reads.reached.rows) method slot
  slot_at n method slot None at is there = absurd (cc)
  slot_at n method slot (Some row) at is there =
      let rows = a.reads.reached.rows in
      let reached = in_at rows n row at in
      let stands = method_stands a row reached in
      let same : stands.slot ≡ slot = same_Some stands.slot slot (sym stands.slot_at ∙ ap (slice_get a.p.layout.slots) (place_at_once rows n row rows_once at) ∙ there) in
      subst (λ m. IsSlot a.v (methods_for a rows) m slot) (same_Some (method_for a row) method is) (subst (IsSlot a.v (methods_for a rows) (method_for a row)) same (slot_again row reached))

  slots_again : AllZip (IsSlot a.v (methods_for a a.reads.reached.rows)) (methods_for a a.reads.reached.rows) a.p.layout.slots
  slots_again =
      let rows = a.reads.reached.rows in
      zip_at (IsSlot a.v (methods_for a rows)) (methods_for a rows) a.p.layout.slots
      (AllZip-long (IsSlot a.first rows) rows a.p.layout.slots a.reads.layout.slots ∙ sym (length-map rows (method_for a)))
      (λ n method slot at there. slot_at n method slot (slice_get rows n) refl (sym (slice_get-map (method_for a) rows n) ∙ at) there)

pub layout_again : (a : Again) → IsLayout a.v (numbers_for a) a.p.layout
layout_again a = record { types = types_again a; methods = numbers_again a; slots = slots_again a }
