-- Keys are told apart by their numbers, and found in lists of keys.
use Rattle.std.proofs.Common.{◌≡◌, ℕ, zero, suc, ◌+◌, ◌<◌, Bool, true, false, List, [], ◌∷◌, ◌++◌, length, Some, refl, sym, ap, ◌∙◌, subst, ⊎_elim, arith, eqb-true, eq-eqb}
use Rattle.std.specs.Prelude.{◌==◌, if◌then◌else◌, slice_get}
use Rattle.std.proofs.lemmas.Bool.{and_from, and_parts, cases_Bool, or_cases, or_left, or_right}
use Rattle.std.proofs.lemmas.Option.{slice_get_within}
use Rattle.px_sig.specs.declared.sig.Integer.{Integer}
use Rattle.px_sig.specs.declared.sig.Integer.TheVariants as integers
use Rattle.px_link_types.specs.declared.key.Key.{Key}
use Rattle.px_link_types.specs.declared.key.Leaf.{Leaf}
use Rattle.px_link_types.specs.declared.key.Leaf.TheVariants.{Number, Library, Defined}
use Rattle.px_link_types.specs.Numbers.{has_key, integer_number, is_integer, is_numbered, key_eq, leaf_eq, number_of}

-- EQUALITY

abbrev all_integers : List Integer
all_integers = integers.Bool ∷ integers.Char ∷ integers.I1 ∷ integers.U1 ∷ integers.I2 ∷ integers.U2 ∷ integers.I4 ∷ integers.U4 ∷ integers.I8 ∷ integers.U8 ∷ integers.N ∷ integers.UN ∷ []

integer_at : List Integer → ℕ → Integer
integer_at [] n = integers.Bool
integer_at (i ∷ is) zero = i
integer_at (i ∷ is) (suc n) = integer_at is n

by_number : (i : Integer) → integer_at all_integers (integer_number i) ≡ i
unfolding integer_at
by_number integers.Bool = refl
by_number integers.Char = refl
by_number integers.I1 = refl
by_number integers.U1 = refl
by_number integers.I2 = refl
by_number integers.U2 = refl
by_number integers.I4 = refl
by_number integers.U4 = refl
by_number integers.I8 = refl
by_number integers.U8 = refl
by_number integers.N = refl
by_number integers.UN = refl

integer_same : (a b : Integer) → integer_number a ≡ integer_number b → a ≡ b
integer_same a b e = sym (by_number a) ∙ ap (λ n. integer_at all_integers n) e ∙ by_number b

leaf_same : (a b : Leaf) → leaf_eq a b ≡ true → a ≡ b
leaf_same (Number a) (Number b) e = ap (λ i. Number i) (integer_same a b (eqb-true (integer_number a) (integer_number b) e))
leaf_same (Library a) (Library b) e = ap (λ n. Library n) (eqb-true a b e)
leaf_same (Defined a) (Defined b) e = ap (λ n. Defined n) (eqb-true a b e)
leaf_same (Number a) (Library b) e = absurd (cc)
leaf_same (Number a) (Defined b) e = absurd (cc)
leaf_same (Library a) (Number b) e = absurd (cc)
leaf_same (Library a) (Defined b) e = absurd (cc)
leaf_same (Defined a) (Number b) e = absurd (cc)
leaf_same (Defined a) (Library b) e = absurd (cc)

leaf_eq-refl : (a : Leaf) → leaf_eq a a ≡ true
leaf_eq-refl (Number a) = eq-eqb (integer_number a) (integer_number a) refl
leaf_eq-refl (Library a) = eq-eqb a a refl
leaf_eq-refl (Defined a) = eq-eqb a a refl

same_key : (a b : Key) → a.depth ≡ b.depth → a.leaf ≡ b.leaf → a ≡ b
same_key a b d l =
    let with_leaf : Leaf → Key = λ leaf. record { depth = a.depth; leaf = leaf } in
    let with_depth : ℕ → Key = λ depth. record { depth = depth; leaf = b.leaf } in
    ap with_leaf l ∙ ap with_depth d

pub key_same : (a b : Key) → key_eq a b ≡ true → a ≡ b
key_same a b e =
    let parts = and_parts (a.depth == b.depth) (leaf_eq a.leaf b.leaf) e in
    same_key a b (eqb-true a.depth b.depth parts.0) (leaf_same a.leaf b.leaf parts.1)

pub key_eq-refl : (a : Key) → key_eq a a ≡ true
key_eq-refl a = and_from (a.depth == a.depth) (leaf_eq a.leaf a.leaf) (eq-eqb a.depth a.depth refl) (leaf_eq-refl a.leaf)

-- PLACES IN A LIST

at_other : (keys : List Key) (other key : Key) → slice_get keys (number_of keys key) ≡ Some key → slice_get (other ∷ keys) (1 + number_of keys key) ≡ Some key
at_other keys other key is = let more : 1 + number_of keys key ≡ suc (number_of keys key) = omega arith in subst (λ n. slice_get (other ∷ keys) n ≡ Some key) (sym more) is

at_first : (keys : List Key) (other key : Key) (is_first : Bool) → key_eq other key ≡ is_first → (key_eq other key ≡ false → slice_get keys (number_of keys key) ≡ Some key)
    → slice_get (other ∷ keys) (if is_first then 0 else 1 + number_of keys key) ≡ Some key
at_first keys other key true e later = ap (λ k. Some k) (key_same other key e)
at_first keys other key false e later = at_other keys other key (later e)

-- a key that a list has is found at its number
pub at_number : (keys : List Key) (key : Key) → has_key keys key ≡ true → slice_get keys (number_of keys key) ≡ Some key
at_number [] key has = absurd (cc)
at_number (other ∷ keys) key has =
    at_first keys other key (key_eq other key) refl (λ differs. at_number keys key
    (⊎_elim
    (λ same. let e : key ≡ other = key_same key other same in absurd (let r = subst (λ k. key_eq k key ≡ true) e (key_eq-refl key) in cc))
    (λ later. later)
    (or_cases (key_eq key other) (has_key keys key) has)))

pub number_below : (keys : List Key) (key : Key) → has_key keys key ≡ true → number_of keys key < length keys
number_below keys key has = slice_get_within keys (number_of keys key) key (at_number keys key has)

-- MORE KEYS

pub has_key-front : (keys more : List Key) (key : Key) → has_key keys key ≡ true → has_key (keys ++ more) key ≡ true
has_key-front [] more key has = absurd (cc)
has_key-front (other ∷ keys) more key has =
    ⊎_elim
    (λ same. or_left (key_eq key other) (has_key (keys ++ more) key) same)
    (λ later. or_right (key_eq key other) (has_key (keys ++ more) key) (has_key-front keys more key later))
    (or_cases (key_eq key other) (has_key keys key) has)

pub has_key-there : (keys : List Key) (key : Key) (more : List Key) → has_key (keys ++ key ∷ more) key ≡ true
has_key-there [] key more = or_left (key_eq key key) (has_key more key) (key_eq-refl key)
has_key-there (other ∷ keys) key more = or_right (key_eq key other) (has_key (keys ++ key ∷ more) key) (has_key-there keys key more)

pub is_numbered-front : (keys more : List Key) (key : Key) → is_numbered keys key ≡ true → is_numbered (keys ++ more) key ≡ true
is_numbered-front keys more key is =
    ⊎_elim
    (λ integer. or_left (is_integer key) (has_key (keys ++ more) key) integer)
    (λ has. or_right (is_integer key) (has_key (keys ++ more) key) (has_key-front keys more key has))
    (or_cases (is_integer key) (has_key keys key) is)

pub is_numbered-there : (keys : List Key) (key : Key) (more : List Key) → is_numbered (keys ++ key ∷ more) key ≡ true
is_numbered-there keys key more = or_right (is_integer key) (has_key (keys ++ key ∷ more) key) (has_key-there keys key more)

-- what has no number among more keys has none among fewer
pub not_numbered-front : (keys more : List Key) (key : Key) → is_numbered (keys ++ more) key ≡ false → is_numbered keys key ≡ false
not_numbered-front keys more key none =
    ⊎_elim
    (λ is. let still = is_numbered-front keys more key is in absurd (cc))
    (λ is. is)
    (cases_Bool (is_numbered keys key))
