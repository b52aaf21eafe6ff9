-- The rows that say which methods override others.
use Rattle.std.proofs.Common.{◌≡◌, ℕ, zero, suc, ◌+◌, ◌*◌, ◌/◌, ◌%◌, ◌^◌, ◌<◌, Bool, true, List, length, take, Option, Some, None, refl, sym, ap, ◌∙◌, subst, arith}
use Rattle.std.specs.Prelude.{◌==◌, ◌&&◌, if◌then◌else◌, IfSome, nat_le, slice_get}
use Rattle.std.specs.List.{flat_map}
use Rattle.std.proofs.lemmas.Bool.{and_from, cond-true, le-leb}
use Rattle.std.proofs.lemmas.Option.{cond_some, slice_get_within}
use Rattle.px_asm_law_written.proofs.DescribedLists.{IsFrom, all_there, before, flat_at, flat_from}
use Rattle.px_link_methods.proofs.RowPlaces.{at_place_of, beside, place_at_once, place_below}
use Rattle.px_asm_law_written.proofs.DescribedMembers.{methods_written}
use Rattle.px_asm_law_written.proofs.DescribedView.{Put, cell_written, put_row, row_there, rows_at, view}
use Rattle.px_asm_law_written.specs.Holds.{IsImplRow, overriding_pairs, pair_of}
use Rattle.px_meta.specs.Rows.{IsRow, cell, count_of, is_in, method_impls, methods, row_by, some_row}
use Rattle.px_link_methods.specs.Codes.{place_of}
use Rattle.px_program.proofs.Types.{each_at}
use Rattle.px_program.specs.declared.program.Slot.{Slot}
use Rattle.px_asm_described.specs.Describes.{AreImpls, IsImpl, IsSaid, SaysSlot, method_row}
use Rattle.px_tables.specs.Metadata.{View}

-- NUMBERS OF METHODS

-- the layout has each method
pub laid : (a : Put) (number : ℕ) → number < length a.p.methods → is_in a.p.layout.methods number ≡ true
laid a number less = all_there a.p.layout.methods (length a.p.methods) number a.writable.methods_once a.writable.methods a.writable.methods_count less

pub method_row_there : (a : Put) (number : ℕ) → number < length a.p.methods → IsRow (view a) methods (method_row a.p number)
method_row_there a number less =
    let below = place_below a.p.layout.methods number (laid a number less) in
    let all = methods_written a in
    record { some = omega arith; few = omega arith }

-- CODED INDEXES

method_coded : (v : View) (row : ℕ) → row_by v methods 1 (2 * row) ≡ some_row v methods row
method_coded v row =
    let none : (2 * row) % 2 ^ 1 ≡ 0 = omega arith in let half : (2 * row) / 2 ^ 1 ≡ row = omega arith in
    ap (λ r. if r == 0 then some_row v methods ((2 * row) / 2 ^ 1) else None) none ∙ ap (some_row v methods) half

named : (v : View) (index row named : ℕ) → index ≡ 2 * row → row_by v methods 1 index ≡ Some named → named ≡ row
named v index row other e is =
    sym (cond_some (nat_le 1 row && nat_le row (count_of v methods)) row other (sym (ap (row_by v methods 1) e ∙ method_coded v row) ∙ is)).1

names : (v : View) (index row : ℕ) → index ≡ 2 * row → IsRow v methods row → row_by v methods 1 index ≡ Some row
names v index row e is =
    ap (row_by v methods 1) e ∙ method_coded v row
    ∙ cond-true (nat_le 1 row && nat_le row (count_of v methods)) (Some row) None (and_from (nat_le 1 row) (nat_le row (count_of v methods)) (le-leb 1 row is.some) (le-leb row (count_of v methods) is.few))

-- PAIRS

record IsPair (number : ℕ) (o : Option Slot) (k : ℕ) (pair : ℕ × ℕ) : Type 0 where
  slot : Slot
  at : o ≡ Some slot
  overrides : slot.overridden ≡ Some pair.1
  number_is : pair.0 ≡ number
  alone : k ≡ 0

slot_pair : (number : ℕ) (virtual : Bool) (over : Option ℕ) (k : ℕ) (pair : ℕ × ℕ) → slice_get (pair_of number (Some (record { is_virtual = virtual; overridden = over }))) k ≡ Some pair
    → IsPair number (Some (record { is_virtual = virtual; overridden = over })) k pair
slot_pair number virtual None k pair is = absurd (cc)
slot_pair number virtual (Some over) zero pair is =
    let same : ◌≡◌ {A = ℕ × ℕ} (number, over) pair = cc in
    record { slot = record { is_virtual = virtual; overridden = Some over }; at = refl; overrides = ap (λ (q : ℕ × ℕ). Some q.1) same; number_is = sym (ap (λ (q : ℕ × ℕ). q.0) same); alone = refl }
slot_pair number virtual (Some over) (suc k) pair is = absurd (cc)

pair_from : (number : ℕ) (o : Option Slot) (k : ℕ) (pair : ℕ × ℕ) → slice_get (pair_of number o) k ≡ Some pair → IsPair number o k pair
pair_from number None k pair is = absurd (cc)
pair_from number (Some slot) k pair is = slot_pair number slot.is_virtual slot.overridden k pair is

own_pair : (number : ℕ) (virtual : Bool) (over : Option ℕ) (other : ℕ) → over ≡ Some other → slice_get (pair_of number (Some (record { is_virtual = virtual; overridden = over }))) 0 ≡ Some (number, other)
own_pair number virtual None other e = absurd (cc)
own_pair number virtual (Some over) other e = let same : over ≡ other = cc in ap (λ (o : ℕ). Some (number, o)) same

-- ROWS

abbrev pairs_by : Put → ℕ → List (ℕ × ℕ)
pairs_by a number = pair_of number (slice_get a.p.layout.slots number)

-- the pair that a row says
record HasPair (a : Put) (row : ℕ) : Type 0 where
  pair : ℕ × ℕ
  n : ℕ
  row_is : row ≡ n + 1
  from : IsFrom (pairs_by a) a.p.layout.methods n pair
  is : IsPair from.x (slice_get a.p.layout.slots from.x) from.k pair
  body : cell (view a) method_impls row 1 ≡ 2 * method_row a.p pair.0
  declaration : cell (view a) method_impls row 2 ≡ 2 * method_row a.p pair.1

pair_at : (a : Put) (row : ℕ) → IsRow (view a) method_impls row → HasPair a row
pair_at a row there =
    let put = put_row a 0x19 row there in
    let found = before (IsImplRow a.p) (overriding_pairs a.p) (rows_at a 0x19) a.written.holds.impls put.n put.row put.there in
    let from = flat_from (pairs_by a) a.p.layout.methods put.n found.0 found.1.0 in
    record {
      pair = found.0;
      n = put.n;
      row_is = put.is;
      from = from;
      is = pair_from from.x (slice_get a.p.layout.slots from.x) from.k found.0 from.own;
      body = ap (λ r. cell (view a) method_impls r 1) put.is ∙ cell_written a 0x19 put.n 1 put.row put.there ∙ found.1.1.body;
      declaration = ap (λ r. cell (view a) method_impls r 2) put.is ∙ cell_written a 0x19 put.n 2 put.row put.there ∙ found.1.1.declaration;
    }

method_said : (a : Put) (row method other : ℕ) → IsImpl (view a) row method other → (has : HasPair a row) → method ≡ method_row a.p has.pair.0
method_said a row method other impl has = named (view a) (cell (view a) method_impls row 1) (method_row a.p has.pair.0) method has.body impl.body

said : (a : Put) (row method other : ℕ) → IsImpl (view a) row method other → IsSaid a.p method other
said a row method other impl =
    let has = pair_at a row impl.there in
    record {
      number = has.pair.0;
      over = has.pair.1;
      slot = has.is.slot;
      at = ap (slice_get a.p.layout.slots) has.is.number_is ∙ has.is.at;
      overrides = has.is.overrides;
      method_is = method_said a row method other impl has;
      other_is = named (view a) (cell (view a) method_impls row 2) (method_row a.p has.pair.1) other has.declaration impl.declaration;
    }

says : (a : Put) (number over : ℕ) (slot : Slot) → slice_get a.p.layout.slots number ≡ Some slot → slot.overridden ≡ Some over → SaysSlot a.p (view a) number over
says a number over slot at overrides =
    let less : number < length a.p.methods = let within = slice_get_within a.p.layout.slots number slot at in let size = a.writable.slots_count in omega arith in
    let over_less : over < length a.p.methods = subst (λ o. IfSome o (λ n. n < length a.p.methods)) overrides (each_at (λ (s : Slot). IfSome s.overridden (λ n. n < length a.p.methods)) a.p.layout.slots a.writable.slots number slot at) in
    let i = place_of a.p.layout.methods number in
    let n = length (flat_map (pairs_by a) (take i a.p.layout.methods)) + 0 in
    let own : slice_get (pairs_by a number) 0 ≡ Some (number, over) = ap (λ o. slice_get (pair_of number o) 0) at ∙ own_pair number slot.is_virtual slot.overridden over overrides in
    let stands = flat_at (pairs_by a) a.p.layout.methods i 0 n number (number, over) (at_place_of a.p.layout.methods number (laid a number less)) own refl in
    let found = beside (IsImplRow a.p) (overriding_pairs a.p) (rows_at a 0x19) a.written.holds.impls n (number, over) stands in
    record {
      row = n + 1;
      is = record {
        there = row_there a 0x19 n found.0 found.1.0;
        body = names (view a) (cell (view a) method_impls (n + 1) 1) (method_row a.p number) (cell_written a 0x19 n 1 found.0 found.1.0 ∙ found.1.1.body) (method_row_there a number less);
        declaration = names (view a) (cell (view a) method_impls (n + 1) 2) (method_row a.p over) (cell_written a 0x19 n 2 found.0 found.1.0 ∙ found.1.1.declaration) (method_row_there a over over_less);
      };
    }

same_place : (a : Put) (row later : ℕ) → (has : HasPair a row) → (other : HasPair a later) → method_row a.p has.pair.0 ≡ method_row a.p other.pair.0 → has.from.i ≡ other.from.i
same_place a row later has other same =
    let one = place_at_once a.p.layout.methods has.from.i has.from.x a.writable.methods_once has.from.at in
    let two = place_at_once a.p.layout.methods other.from.i other.from.x a.writable.methods_once other.from.at in
    let left = ap (place_of a.p.layout.methods) has.is.number_is in
    let right = ap (place_of a.p.layout.methods) other.is.number_is in
    omega arith

once : (a : Put) (row later method one other : ℕ) → IsImpl (view a) row method one → IsImpl (view a) later method other → row ≡ later
once a row later method one other impl again =
    let has = pair_at a row impl.there in
    let too = pair_at a later again.there in
    let level = same_place a row later has too (sym (method_said a row method one impl has) ∙ method_said a later method other again too) in
    let counts = ap (λ i. length (flat_map (pairs_by a) (take i a.p.layout.methods))) level in
    has.row_is ∙ ap (λ n. n + 1) (has.from.place ∙ (let last : has.from.k ≡ too.from.k = has.is.alone ∙ sym too.is.alone in let both = counts in let e : length (flat_map (pairs_by a) (take has.from.i a.p.layout.methods)) + has.from.k ≡ length (flat_map (pairs_by a) (take too.from.i a.p.layout.methods)) + too.from.k = omega arith in e) ∙ sym too.from.place) ∙ sym too.row_is

pub impls_described : (a : Put) → AreImpls a.p (view a)
impls_described a = record { said = said a; says = says a; once = once a }
