-- What is known of the keys that have numbers: the library's come first, and each key's own types have numbers.
use Rattle.std.proofs.Common.{◌≡◌, ℕ, zero, suc, ◌+◌, ◌-◌, ◌<◌, ◌≤◌, true, false, List, [], ◌∷◌, ◌++◌, length, get_or, append-nil, Some, sym, ap, ◌∙◌, subst, arith, rules}
use Rattle.std.specs.Prelude.{slice_get}
use Rattle.std.specs.List.{AllByRecursion}
use Rattle.std.proofs.lemmas.Bool.{or_left, or_parts, or_right}
use Rattle.std.proofs.lemmas.Option.{slice_get-get_or}
use Rattle.px_program.specs.Library.{library_types}
use Rattle.px_program.specs.declared.program.TypeInfo.{TypeInfo}
use Rattle.px_program.proofs.Types.{each-append, each_at}
use Rattle.px_tables.specs.Metadata.{IsSound, View}
use Rattle.px_link_types.specs.declared.key.Key.{Key}
use Rattle.px_link_types.specs.declared.key.Leaf.{Leaf}
use Rattle.px_link_types.specs.declared.key.Leaf.TheVariants.{Number, Library, Defined}
use Rattle.px_link_types.specs.Keys.{IsKey, alone}
use Rattle.px_link_types.specs.Numbers.{Numbers, has_key, key_eq, library_keys, library_keys_from, own_types}
use Rattle.px_link_types.specs.Making.{AreKnown, AreNumberedIn, IsKnown, IsMade, IsNew}
use Rattle.px_link_types.specs.Parts.{IsKept}
use Rattle.px_link_types.proofs.Closed.{each_numbered, grows}
use Rattle.px_link_types.proofs.Keyed.{key_eq-refl}
use Rattle.px_link_types.proofs.There.{own_there}

each_known : (v : View) (all keys : List Key) → AllByRecursion (IsKey v) keys → AllByRecursion (λ key. AreNumberedIn all (own_types v key)) keys → AllByRecursion (IsKnown v all) keys
each_known v all [] there own = tt
each_known v all (key ∷ keys) there own = (record { there = there.0; own = own.0 }, each_known v all keys there.1 own.1)

library_there : (v : View) → AllByRecursion (IsKey v) library_keys
library_there v = search rules

pub are_known : (v : View) (met keys : List Key) → IsSound v → Numbers v library_keys met keys → AllByRecursion (IsKey v) met → AreKnown v keys
are_known v met keys sound numbers there =
    let g = grows numbers in
    let all_there = each_numbered (IsKey v) (own_there v sound) numbers (library_there v) there in
    record {
      more = g.more;
      keys_is = g.all_is;
      known = each_known v keys keys all_there
          (subst (λ ks. AllByRecursion (λ key. AreNumberedIn keys (own_types v key)) ks) (sym g.all_is)
          (each-append (λ key. AreNumberedIn keys (own_types v key)) library_keys g.more (search rules) g.own));
      new = g.new;
    }

pub known_by : (v : View) (keys : List Key) → IsSound v → IsKept v keys → AreKnown v keys
known_by v keys sound kept = are_known v kept.met keys sound kept.numbers kept.there

pub library_counts : (v : View) (keys : List Key) → AreKnown v keys → 18 ≤ length keys
library_counts v keys are = omega (arith, ap length are.keys_is)

-- NUMBERS OF THE LIBRARY

library_key_at : (number : ℕ) (types : List TypeInfo) (more : List Key) (n : ℕ) → n < length types → slice_get (library_keys_from number types ++ more) n ≡ Some (alone (Library (number + n)))
library_key_at number [] more n less = absurd (omega arith)
library_key_at number (type ∷ types) more zero less = let same : number + 0 ≡ number = omega arith in ap (λ n. Some (alone (Library n))) (sym same)
library_key_at number (type ∷ types) more (suc n) less = let same : (number + 1) + n ≡ number + suc n = omega arith in library_key_at (number + 1) types more n (omega arith) ∙ ap (λ n. Some (alone (Library n))) same

pub library_at : (v : View) (keys : List Key) → AreKnown v keys → (n : ℕ) → n < 18 → slice_get keys n ≡ Some (alone (Library n))
library_at v keys are n less =
    let same : 0 + n ≡ n = omega arith in
    subst (λ ks. slice_get ks n ≡ Some (alone (Library n))) (sym are.keys_is) (library_key_at 0 library_types are.more n less ∙ ap (λ n. Some (alone (Library n))) same)

pub known_at : (v : View) (keys : List Key) → AreKnown v keys → (n : ℕ) (key : Key) → slice_get keys n ≡ Some key → IsKnown v keys key
known_at v keys are n key is = each_at (IsKnown v keys) keys are.known n key is

pub has_at : (keys : List Key) (n : ℕ) (key : Key) → slice_get keys n ≡ Some key → has_key keys key ≡ true
has_at [] n key is = absurd (cc)
has_at (other ∷ keys) zero key is = let same : other ≡ key = cc in or_left (key_eq key other) (has_key keys key) (subst (λ k. key_eq key k ≡ true) (sym same) (key_eq-refl key))
has_at (other ∷ keys) (suc n) key is = or_right (key_eq key other) (has_key keys key) (has_at keys n key is)

library_has : (n : ℕ) → n < 18 → has_key library_keys (alone (Library n)) ≡ true
library_has n less =
    let same : 0 + n ≡ n = omega arith in
    has_at library_keys n (alone (Library n)) (subst (λ ks. slice_get ks n ≡ Some (alone (Library n))) (append-nil library_keys) (library_key_at 0 library_types [] n less ∙ ap (λ n. Some (alone (Library n))) same))

made_by : (v : View) (depth : ℕ) (leaf : Leaf) → IsKey v (record { depth = depth; leaf = leaf }) → IsNew (record { depth = depth; leaf = leaf }) → IsMade depth leaf
made_by v zero (Number integer) is new = absurd (cc)
made_by v zero (Library number) is new = let has = library_has number is in let none = (or_parts false (has_key library_keys (alone (Library number))) new).1 in absurd (cc)
made_by v zero (Defined row) is new = tt
made_by v (suc depth) leaf is new = tt

pub new_made : (v : View) (key : Key) → IsKey v key → IsNew key → IsMade key.depth key.leaf
new_made v key is new = made_by v key.depth key.leaf is new

pub at_behind : {X : Type 0} (front behind : List X) (n : ℕ) → length front ≤ n → slice_get (front ++ behind) n ≡ slice_get behind (n - length front)
at_behind [] behind n past = let same : n - 0 ≡ n = omega arith in ap (slice_get behind) (sym same)
at_behind (x ∷ front) behind zero past = absurd (omega arith)
at_behind (x ∷ front) behind (suc n) past = let same : suc n - suc (length front) ≡ n - length front = omega arith in at_behind front behind n (omega arith) ∙ ap (slice_get behind) (sym same)

-- the keys behind the library are made
pub made_at : (v : View) (keys : List Key) → AreKnown v keys → (n : ℕ) (key : Key) → 18 ≤ n → slice_get keys n ≡ Some key → IsMade key.depth key.leaf
made_at v keys are n key past is =
    let here : slice_get are.more (n - 18) ≡ Some key = sym (at_behind library_keys are.more n past) ∙ ap (λ ks. slice_get ks n) (sym are.keys_is) ∙ is in
    new_made v key (known_at v keys are n key is).there (each_at IsNew are.more are.new (n - 18) key here)

-- THE KEYS OF A LIST

pub key_of : (keys listed : List Key) (n : ℕ) (d : Key) → listed ≡ keys → n < length listed → slice_get keys n ≡ Some (get_or listed n d)
key_of keys listed n d same less = ap (λ ks. slice_get ks n) (sym same) ∙ slice_get-get_or listed n d less

pub listed_known : (v : View) (keys listed : List Key) (n : ℕ) (d : Key) → AreKnown v keys → listed ≡ keys → n < length listed → IsKnown v keys (get_or listed n d)
listed_known v keys listed n d are same less = known_at v keys are n (get_or listed n d) (key_of keys listed n d same less)

pub listed_made : (v : View) (keys listed : List Key) (n : ℕ) (d : Key) → AreKnown v keys → listed ≡ keys → 18 ≤ n → n < length listed → IsMade (get_or listed n d).depth (get_or listed n d).leaf
listed_made v keys listed n d are same past less = made_at v keys are n (get_or listed n d) past (key_of keys listed n d same less)
