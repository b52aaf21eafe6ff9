-- Numbering, one type after another.
use Rattle.std.proofs.Common.{◌≡◌, ℕ, zero, suc, ◌+◌, ◌-◌, ◌*◌, ◌^◌, ◌<◌, ◌≤◌, false, List, [], ◌∷◌, ◌++◌, length, take, reverse, refl, sym, ap, ◌∙◌, subst, append_assoc, arith}
use Rattle.std.specs.List.{AllByRecursion}
use Rattle.px_program.proofs.Types.{each-append}
use Rattle.px_tables.specs.Metadata.{View}
use Rattle.px_link_types.specs.declared.key.Key.{Key}
use Rattle.px_link_types.specs.Keys.{IsKey}
use Rattle.px_link_types.specs.Numbers.{Ends, Meets, Numbers, Passes, has_key, is_integer, is_numbered, library_keys, own_types}
use Rattle.px_link_types.specs.Parts.{Added, IsKept, Passed, Visits}
use Rattle.indexmap.specs.IndexSet.{insert_key}
use Rattle.px_link_types.specs.contracts.key.KeyPartialEq.TheImpl as derived
use Rattle.px_link_types.proofs.Derived.{inserted_new}
use Rattle.std.proofs.lemmas.Bool.{or_parts}
use Rattle.std.proofs.lemmas.List.{length-reverse, length-take, length_push, reverse-append, reverse-reverse, take_all}

-- numbering goes on from here to what it comes to from the start
abbrev pub LeadsOn : View → List Key → List Key → List Key → List Key → Type 0
LeadsOn v start met now rest = (all : List Key) → Numbers v now rest all → Numbers v start met all

-- numbering is under way: what is still to be visited stands in the list, the next one last
pub record AreUnderWay (v : View) (start met now pending : List Key) : Type 0 where
  pub on : LeadsOn v start met now (reverse pending)
  pub there : AllByRecursion (IsKey v) (reverse pending)
  pub few : length now < 2 ^ 32
  pub begins : take (length start) now ≡ start

-- one round leads on
leads_by : {v : View} {before : List Key} {key : Key} {rest after next : List Key} → (start met : List Key) → Visits v before key rest after next → LeadsOn v start met before (key ∷ rest) → LeadsOn v start met after next
leads_by start met (Passed keys key rest is) on = λ all numbers. on all (Passes keys key rest all is numbers)
leads_by start met (Added keys key rest is own) on = λ all numbers. on all (Meets keys key rest all is numbers)

there_by : {v : View} {before : List Key} {key : Key} {rest after next : List Key} → Visits v before key rest after next → AllByRecursion (IsKey v) rest → AllByRecursion (IsKey v) next
there_by (Passed keys key rest is) others = others
there_by {v} (Added keys key rest is own) others = each-append (IsKey v) (own_types v key) rest own others

-- a round that gives a number
pub added : (v : View) (before after : List Key) (key : Key) (pending own next : List Key) → is_numbered before key ≡ false → after ≡ insert_key derived.eq-value.it before key
    → own ≡ own_types v key → AllByRecursion (IsKey v) own → next ≡ pending ++ reverse own → Visits v before key (reverse pending) after (reverse next)
added v before after key pending own next none inserted is there pushed =
    let turned : reverse next ≡ own ++ reverse pending = ap reverse pushed ∙ reverse-append pending (reverse own) ∙ ap (λ l. l ++ reverse pending) (reverse-reverse own) in
    let after_is : after ≡ before ++ key ∷ [] = inserted ∙ inserted_new before key (or_parts (is_integer key) (has_key before key) none).1 in
    let next_is : reverse next ≡ own_types v key ++ reverse pending = turned ∙ ap (λ l. l ++ reverse pending) is in
    subst (λ a. Visits v before key (reverse pending) a (reverse next)) (sym after_is)
    (subst (λ n. Visits v before key (reverse pending) (before ++ key ∷ []) n) (sym next_is) (Added before key (reverse pending) none (subst (AllByRecursion (IsKey v)) is there)))

-- FRONTS

take_within : (n m : ℕ) (xs : List Key) → n ≤ m → take n (take m xs) ≡ take n xs
take_within zero m xs le = refl
take_within (suc n) zero xs le = absurd (omega arith)
take_within (suc n) (suc m) [] le = refl
take_within (suc n) (suc m) (x ∷ xs) le = ap (λ l. x ∷ l) (take_within n m xs (omega arith))

front_on : (start now after : List Key) → take (length start) now ≡ start → take (length now) after ≡ now → take (length start) after ≡ start
front_on start now after first next =
    let le : length start ≤ length now = let e = ap length first in let t = length-take (length start) now in omega arith in
    sym (take_within (length start) (length now) after le) ∙ ap (take (length start)) next ∙ first

-- THE LOOP

turned : (popped : List Key) (key : Key) (pending : List Key) → pending ≡ popped ++ key ∷ [] → reverse pending ≡ key ∷ reverse popped
turned popped key pending e = ap reverse e ∙ reverse-append popped (key ∷ [])

pub under_way_first : (v : View) (start met pending : List Key) → pending ≡ reverse met → AllByRecursion (IsKey v) met → length start < 2 ^ 32 → AreUnderWay v start met start pending
under_way_first v start met pending e there few =
    let is : reverse pending ≡ met = ap reverse e ∙ reverse-reverse met in
    record {
      on = λ all numbers. subst (λ l. Numbers v start l all) is numbers;
      there = subst (AllByRecursion (IsKey v)) (sym is) there;
      few = few;
      begins = take_all (length start) start (omega arith);
    }

pub next_there : (v : View) (start met now popped pending : List Key) (key : Key) → pending ≡ popped ++ key ∷ [] → AreUnderWay v start met now pending → IsKey v key
next_there v start met now popped pending key e under = (subst (AllByRecursion (IsKey v)) (turned popped key pending e) under.there).0

pub under_way_next : (v : View) (start met now popped pending after next : List Key) (key : Key) → pending ≡ popped ++ key ∷ [] → AreUnderWay v start met now pending
    → Visits v now key (reverse popped) after (reverse next) → take (length now) after ≡ now → length after < 2 ^ 32 → AreUnderWay v start met after next
under_way_next v start met now popped pending after next key e under visits front few =
    let is = turned popped key pending e in
    record {
      on = leads_by start met visits (subst (LeadsOn v start met now) is under.on);
      there = there_by visits (subst (AllByRecursion (IsKey v)) is under.there).1;
      few = few;
      begins = front_on start now after under.begins front;
    }

pub all_visited : (v : View) (start met now pending : List Key) → pending ≡ [] → AreUnderWay v start met now pending → Numbers v start met now
all_visited v start met now pending e under = under.on now (subst (λ l. Numbers v now (reverse l) now) (sym e) (Ends now))

smaller_by : {v : View} {before : List Key} {key : Key} {rest after next : List Key} → Visits v before key rest after next → (p q : ℕ) → length before < 2 ^ 32 → q < 2 ^ 64 → q ≡ length next → p ≡ length rest + 1
    → (2 ^ 32 - length after) * 2 ^ 64 + q < (2 ^ 32 - length before) * 2 ^ 64 + p
smaller_by (Passed keys key rest is) p q few fits e f = omega arith
smaller_by (Added keys key rest is own) p q few fits e f = let more = length_push keys key in omega arith

-- each round takes a type off the list, or gives a number
pub smaller : (v : View) (now popped after next : List Key) (key : Key) (p q : ℕ) → Visits v now key (reverse popped) after (reverse next) → length now < 2 ^ 32 → q < 2 ^ 64 → q ≡ length next → p ≡ length popped + 1
    → (2 ^ 32 - length after) * 2 ^ 64 + q < (2 ^ 32 - length now) * 2 ^ 64 + p
smaller v now popped after next key p q visits few fits e f = smaller_by visits p q few fits (e ∙ sym (length-reverse next)) (let l = length-reverse popped in omega arith)

pub joined : {v : View} {from xs mid : List Key} → (ys all : List Key) → Numbers v from xs mid → Numbers v mid ys all → Numbers v from (xs ++ ys) all
joined ys all (Ends keys) later = later
joined ys all (Passes keys key rest mid is numbers) later = Passes keys key (rest ++ ys) all is (joined ys all numbers later)
joined {v} ys all (Meets keys key rest mid is numbers) later =
    Meets keys key (rest ++ ys) all is (subst (λ l. Numbers v (keys ++ key ∷ []) l all) (append_assoc (own_types v key) rest ys) (joined ys all numbers later))

-- TYPES

pub kept_first : (v : View) (keys : List Key) → keys ≡ library_keys → IsKept v keys
kept_first v keys e = subst (IsKept v) (sym e) (record { met = []; there = tt; numbers = Ends library_keys; few = omega arith })

pub kept_more : (v : View) (keys met all : List Key) → IsKept v keys → AllByRecursion (IsKey v) met → Numbers v keys met all → length all < 2 ^ 32 → IsKept v all
kept_more v keys met all kept there numbers few = record {
  met = kept.met ++ met;
  there = each-append (IsKey v) kept.met met kept.there there;
  numbers = joined met all kept.numbers numbers;
  few = few;
}
