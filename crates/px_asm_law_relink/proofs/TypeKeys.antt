-- Keys that are renamed, each to another: what numbers them, and where they stand.
use Rattle.std.proofs.Common.{◌≡◌, ℕ, suc, ◌+◌, ◌≤◌, true, false, List, [], ◌∷◌, ◌++◌, length, map, refl, sym, ap, ◌∙◌, subst, ⊎_elim, arith, rules}
use Rattle.std.specs.Prelude.{if◌then◌else◌}
use Rattle.std.specs.List.{AllByRecursion}
use Rattle.std.proofs.lemmas.Bool.{cases_Bool, cond_both, or_cases, or_from, or_left, or_parts, or_right}
use Rattle.px_program.proofs.Types.{each-append}
use Rattle.px_tables.specs.Metadata.{View}
use Rattle.px_link_types.specs.declared.key.Key.{Key}
use Rattle.px_link_types.specs.declared.key.Leaf.{Leaf}
use Rattle.px_link_types.specs.Making.{AreNumberedIn}
use Rattle.px_link_types.specs.Numbers.{Numbers, has_key, key_eq, library_keys, number_of, own_types}
use Rattle.px_link_types.proofs.Closed.{grows}
use Rattle.px_link_types.proofs.Keyed.{key_eq-refl, key_same}

pub key_by_parts : (a b : Key) → a.depth ≡ b.depth → a.leaf ≡ b.leaf → a ≡ b
key_by_parts a b d l =
    let with_leaf : Leaf → Key = λ leaf. record { depth = a.depth; leaf = leaf } in
    let with_depth : ℕ → Key = λ depth. record { depth = depth; leaf = b.leaf } in
    ap with_leaf l ∙ ap with_depth d

pub key_eq_from : (a b : Key) → a ≡ b → key_eq a b ≡ true
key_eq_from a b same = subst (λ k. key_eq a k ≡ true) same (key_eq-refl a)

-- a key that isn't among the first ones has a number behind them
pub number_past : (front more : List Key) (key : Key) → has_key front key ≡ false → length front ≤ number_of (front ++ more) key
number_past [] more key none = omega arith
number_past (other ∷ front) more key none =
    let parts = or_parts (key_eq key other) (has_key front key) none in
    cond_both (key_eq other key) 0 (1 + number_of (front ++ more) key) (λ n. suc (length front) ≤ n)
    (λ same. absurd (let is = key_eq_from key other (sym (key_same other key same)) in let not = parts.0 in cc))
    (λ differs. omega (arith, number_past front more key parts.1))

-- each key of a list has one
pub each_has : (keys : List Key) → AllByRecursion (λ key. has_key keys key ≡ true) keys
each_has [] = tt
each_has (key ∷ keys) = (or_left (key_eq key key) (has_key keys key) (key_eq-refl key), each_later key keys keys (each_has keys))
  where
    each_later : (first : Key) (all keys : List Key) → AllByRecursion (λ key. has_key all key ≡ true) keys → AllByRecursion (λ key. has_key (first ∷ all) key ≡ true) keys
    each_later first all [] each = tt
    each_later first all (key ∷ keys) each = (or_right (key_eq key first) (has_key all key) each.0, each_later first all keys each.1)

-- all own types of what has a number have numbers
pub each_own : (v : View) (met keys : List Key) → Numbers v library_keys met keys → AllByRecursion (λ key. AreNumberedIn keys (own_types v key)) keys
each_own v met keys numbers =
    let g = grows numbers in
    subst (λ ks. AllByRecursion (λ key. AreNumberedIn keys (own_types v key)) ks) (sym g.all_is)
    (each-append (λ key. AreNumberedIn keys (own_types v key)) library_keys g.more (search rules) g.own)

-- RENAMED

pub has_map : (f : Key → Key) (keys : List Key) (key : Key) → has_key keys key ≡ true → has_key (map f keys) (f key) ≡ true
has_map f [] key has = absurd (cc)
has_map f (other ∷ keys) key has =
    ⊎_elim
    (λ same. or_left (key_eq (f key) (f other)) (has_key (map f keys) (f key)) (key_eq_from (f key) (f other) (ap f (key_same key other same))))
    (λ later. or_right (key_eq (f key) (f other)) (has_key (map f keys) (f key)) (has_map f keys key later))
    (or_cases (key_eq key other) (has_key keys key) has)

-- where the renaming keeps some keys apart
abbrev pub KeepsApart : (Key → Key) → (Key → Type 0) → Type 0
KeepsApart f P = (key other : Key) → P key → P other → f key ≡ f other → key ≡ other

pub number_map : (f : Key → Key) (P : Key → Type 0) → KeepsApart f P → (keys : List Key) (key : Key) → AllByRecursion P keys → P key → number_of (map f keys) (f key) ≡ number_of keys key
number_map f P apart [] key each is = refl
number_map f P apart (other ∷ keys) key each is =
    cond_both (key_eq other key) 0 (1 + number_of keys key) (λ n. (if key_eq (f other) (f key) then 0 else 1 + number_of (map f keys) (f key)) ≡ n)
    (λ same. cond_both (key_eq (f other) (f key)) 0 (1 + number_of (map f keys) (f key)) (λ n. n ≡ 0) (λ e. refl)
    (λ differs. absurd (let is_same = key_eq_from (f other) (f key) (ap f (key_same other key same)) in cc)))
    (λ differs. cond_both (key_eq (f other) (f key)) 0 (1 + number_of (map f keys) (f key)) (λ n. n ≡ 1 + number_of keys key)
    (λ e. absurd (let is_same = key_eq_from other key (apart other key each.0 is (key_same (f other) (f key) e)) in cc))
    (λ e. ap (λ n. 1 + n) (number_map f P apart keys key each.1 is)))

pub none_map : (f : Key → Key) (P : Key → Type 0) → KeepsApart f P → (keys : List Key) (key : Key) → AllByRecursion P keys → P key → has_key keys key ≡ false → has_key (map f keys) (f key) ≡ false
none_map f P apart [] key each is none = refl
none_map f P apart (other ∷ keys) key each is none =
    let parts = or_parts (key_eq key other) (has_key keys key) none in
    or_from (key_eq (f key) (f other)) (has_key (map f keys) (f key))
    (⊎_elim
    (λ same. absurd (let is_same = key_eq_from key other (apart key other is each.0 (key_same (f key) (f other) same)) in let not = parts.0 in cc))
    (λ differs. differs)
    (cases_Bool (key_eq (f key) (f other))))
    (none_map f P apart keys key each.1 is parts.1)
