-- The derived equality of keys.
use Rattle.std.proofs.Common.{◌≡◌, ◌≢◌, ℕ, zero, suc, ◌+◌, ◌<◌, ◌≤◌, take, Bool, true, false, cond, length, List, [], ◌∷◌, ◌++◌, Some, None, refl, sym, ap, ◌∙◌, arith}
use Rattle.std.specs.Prelude.{◌==◌, ◌&&◌, ◌||◌, nat_lt, if◌then◌else◌}
use Rattle.std.specs.List.{list_any, position, position_or_len}
use Rattle.std.proofs.lemmas.List.Recursion.{is_position_or_len}
use Rattle.indexmap.specs.IndexSet.{insert_key}
use Rattle.std.proofs.lemmas.Bool.{ne_eqb}
use Rattle.px_program.specs.Library.{library_types}
use Rattle.px_program.specs.declared.program.TypeInfo.{TypeInfo}
use Rattle.px_link_types.specs.Keys.{alone}
use Rattle.px_link_types.proofs.Keyed.{key_eq-refl, key_same}
use Rattle.px_sig.specs.declared.sig.Integer.{Integer}
use Rattle.px_sig.specs.declared.sig.Integer.TheVariants as integers
use Rattle.px_sig.specs.contracts.sig.IntegerPartialEq.TheImpl as integer_eq
use Rattle.px_link_types.specs.declared.key.Key.{Key}
use Rattle.px_link_types.specs.declared.key.Leaf.{Leaf}
use Rattle.px_link_types.specs.declared.key.Leaf.TheVariants.{Number, Library, Defined}
use Rattle.px_link_types.specs.contracts.key.KeyPartialEq.TheImpl as derived
use Rattle.px_link_types.specs.contracts.key.LeafPartialEq.TheImpl as leaf_derived
use Rattle.px_link_types.specs.Numbers.{has_key, library_keys, library_keys_from, key_eq, number_of, leaf_eq, integer_number}

integer_is : (a b : Integer) → integer_eq.eq-value.it a b ≡ (integer_number a == integer_number b)
integer_is integers.Bool integers.Bool = refl
integer_is integers.Char integers.Bool = refl
integer_is integers.I1 integers.Bool = refl
integer_is integers.U1 integers.Bool = refl
integer_is integers.I2 integers.Bool = refl
integer_is integers.U2 integers.Bool = refl
integer_is integers.I4 integers.Bool = refl
integer_is integers.U4 integers.Bool = refl
integer_is integers.I8 integers.Bool = refl
integer_is integers.U8 integers.Bool = refl
integer_is integers.N integers.Bool = refl
integer_is integers.UN integers.Bool = refl
integer_is a b = refl

leaf_is : (a b : Leaf) → leaf_derived.eq-value.it a b ≡ leaf_eq a b
leaf_is (Number a) (Number b) = integer_is a b
leaf_is (Library a) (Library b) = refl
leaf_is (Defined a) (Defined b) = refl
leaf_is (Number a) (Library b) = refl
leaf_is (Number a) (Defined b) = refl
leaf_is (Library a) (Number b) = refl
leaf_is (Library a) (Defined b) = refl
leaf_is (Defined a) (Number b) = refl
leaf_is (Defined a) (Library b) = refl

pub derived_is : (a b : Key) → derived.eq-value.it a b ≡ key_eq a b
derived_is a b = ap (λ t. (a.depth == b.depth) && t) (leaf_is a.leaf b.leaf)

any_by : (f g : Key → Bool) → ((k : Key) → f k ≡ g k) → (keys : List Key) → list_any f keys ≡ list_any g keys
any_by f g same [] = refl
any_by f g same (k ∷ keys) = ap (λ b. b || list_any f keys) (same k) ∙ ap (λ b. g k || b) (any_by f g same keys)

-- a key is among some by the derived equality where it is by ours
pub has_derived : (keys : List Key) (key : Key) → list_any (derived.eq-value.it key) keys ≡ has_key keys key
has_derived keys key = any_by (derived.eq-value.it key) (key_eq key) (derived_is key) keys

symmetric_by : (a b : Key) (s t : Bool) → key_eq a b ≡ s → key_eq b a ≡ t → s ≡ t
symmetric_by a b true true e f = refl
symmetric_by a b false false e f = refl
symmetric_by a b true false e f = sym (key_eq-refl b) ∙ ap (key_eq b) (sym (key_same a b e)) ∙ f
symmetric_by a b false true e f = sym (sym (key_eq-refl a) ∙ ap (key_eq a) (sym (key_same b a f)) ∙ e)

key_eq-symmetric : (a b : Key) → key_eq a b ≡ key_eq b a
key_eq-symmetric a b = symmetric_by a b (key_eq a b) (key_eq b a) refl refl

-- where a key stands
pub place_is : (key : Key) (keys : List Key) → number_of keys key ≡ position_or_len (derived.eq-value.it key) keys
place_is key =
    is_position_or_len (λ keys. number_of keys key) (derived.eq-value.it key) refl
    (λ other keys. ap (λ (b : Bool). if b then 0 else 1 + number_of keys key) (key_eq-symmetric other key ∙ sym (derived_is key other)))

position_by : (n m : ℕ) (b : Bool) → Some n ≡ cond b (Some m) None → n ≡ m
position_by n m true e = cc
position_by n m false e = absurd (cc)

pub number_is : (keys : List Key) (key : Key) (n : ℕ) → Some n ≡ position (derived.eq-value.it key) keys → n ≡ number_of keys key
number_is keys key n e = position_by n (position_or_len (derived.eq-value.it key) keys) (nat_lt (position_or_len (derived.eq-value.it key) keys) (length keys)) e ∙ sym (place_is key keys)

-- a key that isn't among some goes behind them
pub inserted_new : (keys : List Key) (key : Key) → has_key keys key ≡ false → insert_key derived.eq-value.it keys key ≡ keys ++ key ∷ []
inserted_new keys key none = ap (λ (b : Bool). if b then keys else keys ++ key ∷ []) (has_derived keys key ∙ none)

-- THE LIBRARY

unlike : (a b : ℕ) → a ≢ b → (a == b) ≡ false
unlike a b ne = ne_eqb a b ne

absent_from : (first : ℕ) (types : List TypeInfo) (n m : ℕ) → first + n ≤ m → has_key (take n (library_keys_from first types)) (alone (Library m)) ≡ false
absent_from first [] zero m le = refl
absent_from first [] (suc n) m le = refl
absent_from first (type ∷ types) zero m le = refl
absent_from first (type ∷ types) (suc n) m le =
    ap (λ b. b || has_key (take n (library_keys_from (first + 1) types)) (alone (Library m))) (unlike m first (λ e. omega (arith, e, le))) ∙ absent_from (first + 1) types n m (omega arith)

one_more_from : (first : ℕ) (types : List TypeInfo) (n : ℕ) → n < length types → take (suc n) (library_keys_from first types) ≡ take n (library_keys_from first types) ++ alone (Library (first + n)) ∷ []
one_more_from first [] n less = absurd (omega arith)
one_more_from first (type ∷ types) zero less = let same : first ≡ first + 0 = omega arith in ap (λ k. alone (Library k) ∷ []) same
one_more_from first (type ∷ types) (suc n) less =
    let same : (first + 1) + n ≡ first + suc n = omega arith in
    ap (λ l. alone (Library first) ∷ l) (one_more_from (first + 1) types n (omega arith) ∙ ap (λ k. take n (library_keys_from (first + 1) types) ++ alone (Library k) ∷ []) same)

-- one more type of the library
pub next_library : (n : ℕ) (keys news : List Key) → n < 18 → keys ≡ take n library_keys → news ≡ insert_key derived.eq-value.it keys (alone (Library n)) → news ≡ take (n + 1) library_keys
next_library n keys news less is inserted =
    let one : n + 1 ≡ suc n = omega arith in
    let none : 0 + n ≡ n = omega arith in
    inserted ∙ ap (λ l. insert_key derived.eq-value.it l (alone (Library n))) is ∙ inserted_new (take n library_keys) (alone (Library n)) (absent_from 0 library_types n n (omega arith))
    ∙ ap (λ k. take n library_keys ++ alone (Library k) ∷ []) (sym none) ∙ sym (one_more_from 0 library_types n less) ∙ ap (λ m. take m library_keys) (sym one)
