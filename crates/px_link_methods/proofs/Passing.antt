-- Types that were met before need no numbers: what was gone through once is passed over.
use Rattle.std.proofs.Common.{◌≡◌, ℕ, zero, suc, true, false, List, [], ◌∷◌, ◌++◌, Some, Result, Ok, Err, take, length, min, ◌+◌, refl, sym, ap, ◌∙◌, subst, ⊎_elim, eqb-true, eq-eqb}
use Rattle.std.specs.Prelude.{◌==◌, if◌then◌else◌, slice_get, OnOk}
use Rattle.std.specs.BTreeMap.{is_at}
use Rattle.std.specs.BTreeSet.{BTreeSet, Updates, contains}
use Rattle.std.specs.List.{flat_map, list_any, zip}
use Rattle.std.specs.Ordering.{is_eq, nat_cmp}
use Rattle.std.specs.declared.cmp.Ordering.{Ordering}
use Rattle.std.specs.declared.cmp.Ordering.TheVariants.{Equal, Greater, Less}
use Rattle.std.proofs.lemmas.Bool.{cases_Bool, cond-false, cond-true}
use Rattle.std.proofs.lemmas.Map.Lookups.{exact_unsigned}
use Rattle.px_meta.specs.Members.{IsMethod, owner_of}
use Rattle.px_meta.specs.Rows.{cell, methods}
use Rattle.px_meta.specs.declared.meta.MetaMethod.{MetaMethod}
use Rattle.px_link_reach.specs.Bodies.{no_body}
use Rattle.px_link_reach.specs.declared.body.Whole.{Whole}
use Rattle.px_tables.specs.Metadata.{View}
use Rattle.px_link_types.proofs.Closed.{grows}
use Rattle.px_link_types.proofs.Keyed.{is_numbered-front}
use Rattle.px_link_types.proofs.Visiting.{joined}
use Rattle.px_link_types.specs.Keys.{alone}
use Rattle.px_link_types.specs.Making.{AreNumberedIn}
use Rattle.px_link_types.specs.Numbers.{Ends, Numbers, Passes}
use Rattle.px_link_types.specs.declared.key.Key.{Key}
use Rattle.px_link_types.specs.declared.key.Leaf.TheVariants.{Defined}
use Rattle.px_link_methods.specs.Methods.{AreByAddress, keys_of_body, keys_of_sig, met_by, met_by_all, sig_at}
use Rattle.px_link_methods.specs.Parts.{ArePassed, IsMet, IsPassed, body_keys, sig_keys}
use Rattle.px_link_methods.specs.declared.met.Passed.{Passed}
use Rattle.px_link_methods.proofs.Added.{one_piece}
use Rattle.px_link_methods.proofs.Pieces.{IsPair, all_pairs, pair_at, unzipped}
use Rattle.px_link_methods.proofs.RowPlaces.{at_zip}

-- NUMBERS

-- where all that is met has numbers, none is given
pub passes_all : (v : View) (keys met : List Key) → AreNumberedIn keys met → Numbers v keys met keys
passes_all v keys [] numbered = Ends keys
passes_all v keys (key ∷ met) numbered = Passes keys key met keys numbered.0 (passes_all v keys met numbered.1)

front_numbered : (keys more some : List Key) → AreNumberedIn keys some → AreNumberedIn (keys ++ more) some
front_numbered keys more [] numbered = tt
front_numbered keys more (key ∷ some) numbered = (is_numbered-front keys more key numbered.0, front_numbered keys more some numbered.1)

-- what has numbers keeps them
stays : (v : View) (before met after some : List Key) → Numbers v before met after → AreNumberedIn before some → AreNumberedIn after some
stays v before met after some numbers numbered =
    let grown = grows numbers in
    subst (λ keys. AreNumberedIn keys some) (sym grown.all_is) (front_numbered before grown.more some numbered)

pub still_passed : (v : View) (before met after : List Key) (f : ℕ → List Key) (passed : BTreeSet ℕ) → Numbers v before met after → ArePassed before f passed → ArePassed after f passed
still_passed v before met after f passed numbers are = λ at there. stays v before met after (f at) numbers (are at there)

-- THINGS AT PLACES

pub equal_by : (o : Ordering) → is_eq o ≡ true → o ≡ Equal
equal_by Less is = absurd (cc)
equal_by Equal is = refl
equal_by Greater is = absurd (cc)

same_place : (at other : ℕ) → is_at (nat_cmp at) other ≡ true → at ≡ other
same_place at other is = exact_unsigned at other (equal_by (nat_cmp at other) is)

-- one more place
passed_more : (keys : List Key) (f : ℕ → List Key) (old new : BTreeSet ℕ) (at : ℕ) → Updates nat_cmp old new at true → ArePassed keys f old → AreNumberedIn keys (f at) → ArePassed keys f new
passed_more keys f old new at updates are here = λ other there.
    ⊎_elim
    (λ same. subst (λ a. AreNumberedIn keys (f a)) (same_place at other same) here)
    (λ differs. are other (sym (updates.2 other differs) ∙ there))
    (cases_Bool (is_at (nat_cmp at) other))

-- a thing that was gone through before
pub passed_before : (v : View) (f : ℕ → List Key) (at : ℕ) (keys : List Key) (passed : BTreeSet ℕ) → contains nat_cmp passed at ≡ true → ArePassed keys f passed → IsPassed v f at keys keys passed
passed_before v f at keys passed there are = record { numbers = passes_all v keys (f at) (are at there); passed = are }

-- a thing that is gone through
pub passed_now : (w v : View) (f : ℕ → List Key) (at : ℕ) (before items after : List Key) (old new : BTreeSet ℕ) → w ≡ v → items ≡ f at → Numbers w before items after → ArePassed before f old → Updates nat_cmp old new at true
    → IsPassed v f at before after new
passed_now w v f at before items after old new e is numbers are updates =
    let met : Numbers v before (f at) after = subst (λ u. Numbers u before (f at) after) e (subst (λ keys. Numbers w before keys after) is numbers) in
    let grown = grows met in
    record { numbers = met; passed = passed_more after f old new at updates (still_passed v before (f at) after f old met are) grown.met_numbered }

-- METHODS

met_by_parts : {E : Type 0} (v : View) (body : ℕ → Whole) (row : ℕ) (whole : Whole) (before spelled after : List Key) (sigs bodies : BTreeSet ℕ) (rva : ℕ) (r : Result (Unit {0}) E) → body rva ≡ whole
    → Numbers v before (alone (Defined (owner_of v methods row)) ∷ keys_of_sig v (sig_at v row)) spelled → ArePassed spelled (sig_keys v) sigs → OnOk r (IsPassed v (body_keys v body) rva spelled after bodies)
    → OnOk r (IsMet v body (row, whole) before after (record { sigs = sigs; bodies = bodies }))
met_by_parts v body row whole before spelled after sigs bodies rva (Ok done) is first passed rest =
    let behind : Numbers v spelled (keys_of_body v whole) after = subst (λ w. Numbers v spelled (keys_of_body v w) after) is rest.numbers in
    record {
      numbers = joined (keys_of_body v whole) after first behind;
      sigs = still_passed v spelled (keys_of_body v whole) after (sig_keys v) sigs behind passed;
      bodies = rest.passed;
    }
met_by_parts v body row whole before spelled after sigs bodies rva (Err fault) is first passed rest = tt

-- a method is met by its owner, its signature and its body, one after another
pub met_in_turn : {E : Type 0} (v : View) (body : ℕ → Whole) (row : ℕ) (whole : Whole) (m : MetaMethod) (before owned spelled after : List Key) (sigs old_bodies bodies : BTreeSet ℕ) (at : ℕ) (r : Result (Unit {0}) E) → IsMethod v row m
    → Numbers v before (alone (Defined m.owner) ∷ []) owned → at ≡ cell v methods row 4 → IsPassed v (sig_keys v) at owned spelled sigs → body (cell v methods row 0) ≡ whole → ArePassed before (body_keys v body) old_bodies
    → (body m.rva ≡ whole → ArePassed spelled (body_keys v body) old_bodies → OnOk r (IsPassed v (body_keys v body) m.rva spelled after bodies))
    → OnOk r (IsMet v body (row, whole) before after (record { sigs = sigs; bodies = bodies }))
met_in_turn v body row whole m before owned spelled after sigs old_bodies bodies at r is owner at_is sig whole_is are last =
    let here : body m.rva ≡ whole = ap body is.rva ∙ whole_is in
    let owner_too = subst (λ o. Numbers v before (alone (Defined o) ∷ []) owned) is.owner owner in
    let sig_too = subst (λ a. Numbers v owned (sig_keys v a) spelled) at_is sig.numbers in
    let later = still_passed v owned (sig_keys v at) spelled (body_keys v body) old_bodies sig.numbers (still_passed v before (alone (Defined m.owner) ∷ []) owned (body_keys v body) old_bodies owner are) in
    met_by_parts v body row whole before spelled after sigs bodies m.rva r here (joined (keys_of_sig v (sig_at v row)) spelled owner_too sig_too) sig.passed (last here later)

-- BODIES BY ADDRESS

-- the body of the first method with an address
abbrev pub first_body : View → List (ℕ × Whole) → ℕ → Whole
first_body v [] at = no_body
first_body v (pair ∷ pairs) at = if cell v methods pair.0 0 == at then pair.1 else first_body v pairs at

-- the first method with an address, by its place
record IsFound (v : View) (pairs : List (ℕ × Whole)) (at : ℕ) : Type 0 where
  place : ℕ
  pair : ℕ × Whole
  there : slice_get pairs place ≡ Some pair
  address : cell v methods pair.0 0 ≡ at
  body : first_body v pairs at ≡ pair.1

found_here : (v : View) (pair : ℕ × Whole) (pairs : List (ℕ × Whole)) (at : ℕ) → cell v methods pair.0 0 ≡ at → IsFound v (pair ∷ pairs) at
found_here v pair pairs at is =
    record { place = 0; pair = pair; there = refl; address = is; body = cond-true (cell v methods pair.0 0 == at) pair.1 (first_body v pairs at) (eq-eqb (cell v methods pair.0 0) at is) }

found_later : (v : View) (pair : ℕ × Whole) (pairs : List (ℕ × Whole)) (at : ℕ) → (cell v methods pair.0 0 == at) ≡ false → IsFound v pairs at → IsFound v (pair ∷ pairs) at
found_later v pair pairs at differs found =
    record { place = suc found.place; pair = found.pair; there = found.there; address = found.address; body = cond-false (cell v methods pair.0 0 == at) pair.1 (first_body v pairs at) differs ∙ found.body }

found_by : (v : View) (pairs : List (ℕ × Whole)) (k : ℕ) (pair : ℕ × Whole) → slice_get pairs k ≡ Some pair → IsFound v pairs (cell v methods pair.0 0)
found_by v [] k pair at = absurd (cc)
found_by v (other ∷ pairs) zero pair at = let same : other ≡ pair = cc in found_here v other pairs (cell v methods pair.0 0) (ap (λ (p : ℕ × Whole). cell v methods p.0 0) same)
found_by v (other ∷ pairs) (suc k) pair at =
    ⊎_elim
    (λ same. found_here v other pairs (cell v methods pair.0 0) (eqb-true (cell v methods other.0 0) (cell v methods pair.0 0) same))
    (λ differs. found_later v other pairs (cell v methods pair.0 0) differs (found_by v pairs k pair at))
    (cases_Bool (cell v methods other.0 0 == cell v methods pair.0 0))

-- where methods with one address have one body, that is the body of each
pub first_body_is : (v : View) (rows : List ℕ) (bodies : List Whole) (k row : ℕ) (whole : Whole) → AreByAddress v rows bodies → IsPair rows bodies k row whole → first_body v (zip rows bodies) (cell v methods row 0) ≡ whole
first_body_is v rows bodies k row whole shared pair =
    let at = pair_at rows bodies k row whole pair in
    let found = found_by v (zip rows bodies) k (row, whole) (at_zip rows bodies k row whole at.0 at.1) in
    let apart = unzipped rows bodies found.place found.pair found.there in
    found.body ∙ shared found.place k found.pair.0 row found.pair.1 whole apart.0 at.0 apart.1 at.1 found.address

-- UNDER WAY

-- the types that the first methods meet have numbers
pub record AreMet (v : View) (rows : List ℕ) (bodies : List Whole) (from : List Key) (n : ℕ) (keys : List Key) (passed : Passed) : Type 0 where
  pub numbers : Numbers v from (flat_map (met_by v) (take n (zip rows bodies))) keys
  pub sigs : ArePassed keys (sig_keys v) passed.sigs
  pub bodies_passed : ArePassed keys (body_keys v (first_body v (zip rows bodies))) passed.bodies

none_passed : (keys : List Key) (f : ℕ → List Key) (passed : BTreeSet ℕ) → passed.keys ≡ [] → ArePassed keys f passed
none_passed keys f passed none = λ at there. absurd (let holds = subst (λ l. list_any (is_at (nat_cmp at)) l ≡ true) none there in cc)

pub none_met : (v : View) (rows : List ℕ) (bodies : List Whole) (from : List Key) (passed : Passed) → passed.sigs.keys ≡ [] → passed.bodies.keys ≡ [] → AreMet v rows bodies from 0 from passed
none_met v rows bodies from passed sigs rest = record { numbers = Ends from; sigs = none_passed from (sig_keys v) passed.sigs sigs; bodies_passed = none_passed from (body_keys v (first_body v (zip rows bodies))) passed.bodies rest }

-- one more method is met
pub one_more_met : (v : View) (rows : List ℕ) (bodies : List Whole) (from : List Key) (n row : ℕ) (whole : Whole) (keys after : List Key) (before passed : Passed) → AreMet v rows bodies from n keys before → IsPair rows bodies n row whole
    → IsMet v (first_body v (zip rows bodies)) (row, whole) keys after passed → AreMet v rows bodies from (n + 1) after passed
one_more_met v rows bodies from n row whole keys after before passed are pair met = record {
  numbers = subst (λ l. Numbers v from l after) (sym (one_piece (met_by v) (zip rows bodies) n (row, whole) pair.within pair.is)) (joined (met_by v (row, whole)) after are.numbers met.numbers);
  sigs = met.sigs;
  bodies_passed = met.bodies;
}

pub all_met : (v : View) (rows : List ℕ) (bodies : List Whole) (from : List Key) (n : ℕ) (keys : List Key) (passed : Passed) → AreMet v rows bodies from n keys passed → n ≡ min (length rows) (length bodies)
    → Numbers v from (met_by_all v rows bodies) keys
all_met v rows bodies from n keys passed are all = subst (λ l. Numbers v from (flat_map (met_by v) l) keys) (all_pairs rows bodies n all) are.numbers
