-- The methods that a `callvirt` names stand in the order of their numbers, and so do the pairs of each type.
use Rattle.std.proofs.Common.{◌≡◌, ℕ, zero, suc, ◌+◌, ◌<◌, Bool, true, false, List, [], ◌∷◌, ◌++◌, Option, Some, None, length, take, get_or, refl, sym, ap, ◌∙◌, subst, ⊎_elim, arith, eqb-true}
use Rattle.std.specs.Prelude.{◌==◌, filter, if◌then◌else◌, nat_eq, slice_get}
use Rattle.std.specs.List.{AllByRecursion, IsDistinct, flat_map, list_any}
use Rattle.std.proofs.lemmas.List.{append-nil}
use Rattle.std.proofs.lemmas.List.Elements.{filter_more}
use Rattle.std.proofs.lemmas.Bool.{cond_both, or_cases}
use Rattle.std.proofs.lemmas.Option.{slice_get_within}
use Rattle.px_meta.specs.Rows.{is_in}
use Rattle.px_program.proofs.Types.{each-append}
use Rattle.px_program.specs.Overriding.{AreByFirst}
use Rattle.px_program.specs.declared.program.TypeInfo.{TypeInfo}
use Rattle.px_tables.specs.Metadata.{View}
use Rattle.px_link_types.proofs.Formed.{at_place}
use Rattle.px_link_types.specs.declared.key.Key.{Key}
use Rattle.px_link_types.specs.declared.key.Leaf.{Leaf}
use Rattle.px_link_types.specs.declared.key.Leaf.TheVariants.{Number, Library, Defined}
use Rattle.px_link_methods.proofs.RowPlaces.{place_at_once}
use Rattle.px_link_methods.specs.Codes.{Numbering, place_of}
use Rattle.px_link_reach.proofs.Sets.{has_is as set_has}
use Rattle.px_link_reach.specs.Overriders.{overriders_in}
use Rattle.px_link.specs.Overrides.{AreLinkedTypes, AreOverrides, IsLinkedType, in_order, nearest, pair_of}

-- WHAT IS KEPT

filter_passes : (p : ℕ → Bool) (xs : List ℕ) (x : ℕ) → is_in (filter p xs) x ≡ true → p x ≡ true
filter_passes p [] x there = absurd (cc)
filter_passes p (y ∷ xs) x there =
    cond_both (p y) (y ∷ filter p xs) (filter p xs) (λ l. is_in l x ≡ true → p x ≡ true)
    (λ passes both. ⊎_elim (λ same. subst (λ z. p z ≡ true) (eqb-true y x same) passes) (λ later. filter_passes p xs x later) (or_cases (y == x) (is_in (filter p xs) x) both))
    (λ fails later. filter_passes p xs x later)
    there

-- each of them is named by a `callvirt`
pub named_in_order : (rows targets : List ℕ) (target : ℕ) → is_in (in_order rows targets) target ≡ true → is_in targets target ≡ true
named_in_order rows targets target there = filter_passes (is_in targets) rows target there

each_kept : (P : ℕ → Type 0) (p : ℕ → Bool) (xs : List ℕ) → AllByRecursion P xs → AllByRecursion P (filter p xs)
each_kept P p [] each = tt
each_kept P p (x ∷ xs) each = cond_both (p x) (x ∷ filter p xs) (filter p xs) (AllByRecursion P) (λ passes. (each.0, each_kept P p xs each.1)) (λ fails. each_kept P p xs each.1)

-- what holds of all rows holds of these
pub each_in_order : (P : ℕ → Type 0) (rows targets : List ℕ) → AllByRecursion P rows → AllByRecursion P (in_order rows targets)
each_in_order P rows targets each = each_kept P (is_in targets) rows each

kept_by : (rows keys kept : List ℕ) (i : ℕ) (has : Bool) → kept ≡ in_order (take i rows) keys → i < length rows → has ≡ list_any (nat_eq (get_or rows i 0)) keys
    → kept ++ (if has then get_or rows i 0 ∷ [] else []) ≡ in_order (take (i + 1) rows) keys
kept_by rows keys kept i has is less has_is =
    let row = get_or rows i 0 in
    ap (λ l. l ++ (if has then row ∷ [] else [])) is ∙ ap (λ (b : Bool). in_order (take i rows) keys ++ (if b then row ∷ [] else [])) (has_is ∙ set_has keys row)
    ∙ sym (filter_more (is_in keys) rows i 0 less)

-- one more row, which a set has or has not
pub kept_with : (rows keys kept : List ℕ) (i : ℕ) (has : Bool) → kept ≡ in_order (take i rows) keys → i < length rows → has ≡ list_any (nat_eq (get_or rows i 0)) keys → has ≡ true
    → kept ++ get_or rows i 0 ∷ [] ≡ in_order (take (i + 1) rows) keys
kept_with rows keys kept i has is less has_is there =
    sym (ap (λ (b : Bool). kept ++ (if b then get_or rows i 0 ∷ [] else [])) there) ∙ kept_by rows keys kept i has is less has_is

pub kept_without : (rows keys kept : List ℕ) (i : ℕ) (has : Bool) → kept ≡ in_order (take i rows) keys → i < length rows → has ≡ list_any (nat_eq (get_or rows i 0)) keys → has ≡ false
    → kept ≡ in_order (take (i + 1) rows) keys
kept_without rows keys kept i has is less has_is missing =
    sym (append-nil kept) ∙ sym (ap (λ (b : Bool). kept ++ (if b then get_or rows i 0 ∷ [] else [])) missing) ∙ kept_by rows keys kept i has is less has_is

-- THEY RISE

-- each has a greater number than those before it
abbrev pub AreRising : (ℕ → ℕ) → List ℕ → Type 0
AreRising number [] = Unit {0}
AreRising number (x ∷ xs) = AllByRecursion (λ later. number x < number later) xs × AreRising number xs

all_above : (number : ℕ → ℕ) (xs : List ℕ) (from low : ℕ) → low < from → ((k x : ℕ) → slice_get xs k ≡ Some x → number x ≡ from + k) → AllByRecursion (λ later. low < number later) xs
all_above number [] from low less are = tt
all_above number (x ∷ xs) from low less are = (omega (arith, are 0 x refl, less), all_above number xs (from + 1) low (omega (arith, less)) (λ k y at. omega (arith, are (suc k) y at)))

rising_by : (number : ℕ → ℕ) (xs : List ℕ) (from : ℕ) → ((k x : ℕ) → slice_get xs k ≡ Some x → number x ≡ from + k) → AreRising number xs
rising_by number [] from are = tt
rising_by number (x ∷ xs) from are =
    (all_above number xs (from + 1) (number x) (omega (arith, are 0 x refl)) (λ k y at. omega (arith, are (suc k) y at)), rising_by number xs (from + 1) (λ k y at. omega (arith, are (suc k) y at)))

rising_kept : (number : ℕ → ℕ) (p : ℕ → Bool) (xs : List ℕ) → AreRising number xs → AreRising number (filter p xs)
rising_kept number p [] rising = tt
rising_kept number p (x ∷ xs) rising =
    cond_both (p x) (x ∷ filter p xs) (filter p xs) (AreRising number) (λ passes. (each_kept (λ later. number x < number later) p xs rising.0, rising_kept number p xs rising.1)) (λ fails. rising_kept number p xs rising.1)

pub rising_in_order : (rows targets : List ℕ) → IsDistinct (λ row other. row == other) rows → AreRising (place_of rows) (in_order rows targets)
rising_in_order rows targets once = rising_kept (place_of rows) (is_in targets) rows (rising_by (place_of rows) rows 0 (λ k x at. omega (arith, place_at_once rows k x once at)))

-- PAIRS

below_first : (pair : ℕ × ℕ) (pairs : List (ℕ × ℕ)) → AllByRecursion (λ (later : ℕ × ℕ). pair.0 < later.0) pairs → AreByFirst pairs → AreByFirst (pair ∷ pairs)
below_first pair [] above are = tt
below_first pair (next ∷ rest) above are = (above.0, are)

one_above : (n : Numbering) (target low : ℕ) (found : Option ℕ) → low < place_of n.rows target → AllByRecursion (λ (later : ℕ × ℕ). low < later.0) (pair_of n target found)
one_above n target low None less = tt
one_above n target low (Some method) less = (less, tt)

pairs_above : (n : Numbering) (found : ℕ → Option ℕ) (targets : List ℕ) (low : ℕ) → AllByRecursion (λ target. low < place_of n.rows target) targets
    → AllByRecursion (λ (later : ℕ × ℕ). low < later.0) (flat_map (λ target. pair_of n target (found target)) targets)
pairs_above n found [] low above = tt
pairs_above n found (target ∷ targets) low above =
    each-append (λ (later : ℕ × ℕ). low < later.0) (pair_of n target (found target)) (flat_map (λ t. pair_of n t (found t)) targets) (one_above n target low (found target) above.0) (pairs_above n found targets low above.1)

with_first : (n : Numbering) (target : ℕ) (found : Option ℕ) (rest : List (ℕ × ℕ)) → AllByRecursion (λ (later : ℕ × ℕ). place_of n.rows target < later.0) rest → AreByFirst rest → AreByFirst (pair_of n target found ++ rest)
with_first n target None rest above are = are
with_first n target (Some method) rest above are = below_first (place_of n.rows target, place_of n.rows method) rest above are

pairs_by_first : (n : Numbering) (found : ℕ → Option ℕ) (targets : List ℕ) → AreRising (place_of n.rows) targets → AreByFirst (flat_map (λ target. pair_of n target (found target)) targets)
pairs_by_first n found [] rising = tt
pairs_by_first n found (target ∷ targets) rising =
    with_first n target (found target) (flat_map (λ t. pair_of n t (found t)) targets) (pairs_above n found targets (place_of n.rows target) rising.0) (pairs_by_first n found targets rising.1)

-- TYPES

overrides_by_first : (v : View) (n : Numbering) (lists : List (List ℕ)) (targets : List ℕ) (depth : ℕ) (leaf : Leaf) (pairs : List (ℕ × ℕ)) → AreRising (place_of n.rows) targets → AreOverrides v n lists targets depth leaf pairs → AreByFirst pairs
overrides_by_first v n lists targets zero (Number integer) pairs rising is = subst AreByFirst (sym is) tt
overrides_by_first v n lists targets zero (Library number) pairs rising is = subst AreByFirst (sym is) tt
overrides_by_first v n lists targets zero (Defined row) pairs rising is =
    subst AreByFirst (sym is.are) (pairs_by_first n (λ target. nearest v (row ∷ is.behind) (overriders_in lists target)) targets rising)
overrides_by_first v n lists targets (suc depth) leaf pairs rising is = subst AreByFirst (sym is) tt

linked_by_first : (v : View) (n : Numbering) (lists : List (List ℕ)) (targets : List ℕ) (key : Key) (info type : TypeInfo) → AreRising (place_of n.rows) targets → IsLinkedType v n lists targets key info type → AreByFirst type.overrides
linked_by_first v n lists targets key info type rising is = subst AreByFirst (sym (ap (λ (t : TypeInfo). t.overrides) is.is)) (overrides_by_first v n lists targets key.depth key.leaf is.pairs rising is.overrides)

each_by : (P : TypeInfo → Type 0) (types : List TypeInfo) → ((k : ℕ) (type : TypeInfo) → slice_get types k ≡ Some type → P type) → AllByRecursion P types
each_by P [] holds = tt
each_by P (type ∷ types) holds = (holds 0 type refl, each_by P types (λ k other at. holds (suc k) other at))

-- the pairs of each type stand in the order of their first numbers
pub types_by_first : (v : View) (n : Numbering) (lists : List (List ℕ)) (targets : List ℕ) (types : List TypeInfo) → AreLinkedTypes v n lists targets types → AreRising (place_of n.rows) targets
    → AllByRecursion (λ (info : TypeInfo). AreByFirst info.overrides) types
types_by_first v n lists targets types are rising =
    each_by (λ (info : TypeInfo). AreByFirst info.overrides) types
    (λ k info at.
    let within = slice_get_within types k info at in
    let bare = at_place are.bare k (omega (arith, are.count, within)) in
    let key = at_place n.keys k (omega (arith, are.count, are.infos.count, within)) in
    linked_by_first v n lists targets key.0 bare.0 info rising (are.each k key.0 bare.0 info key.1 bare.1 at))
