-- The clauses of a body, read again.
use Rattle.std.proofs.Common.{◌≡◌, ℕ, zero, suc, ◌+◌, ◌*◌, ◌^◌, ◌<◌, true, false, List, [], ◌∷◌, ◌++◌, length, map, Option, Some, None, refl, sym, ap, ◌∙◌, subst, arith, eq-eqb}
use Rattle.std.specs.Prelude.{◌==◌, ◌&&◌, if◌then◌else◌, nat_le, nat_lt, codes, IfSome}
use Rattle.std.specs.Option.{option_map}
use Rattle.std.specs.Str.{bytes_eq}
use Rattle.std.specs.List.{AllByRecursion, AllZip, flat_map}
use Rattle.std.proofs.lemmas.List.{map-append}
use Rattle.std.proofs.lemmas.Bool.{and_from, cond-false, cond-true, cond_both, le-leb, le-ltb, lt-ltb, ne_eqb}
use Rattle.px_code.specs.declared.body.RawClause.{RawClause}
use Rattle.px_meta.specs.Rows.{IsRow, count_of, some_row, type_defs, type_refs}
use Rattle.px_meta.specs.Tokens.{row_in, table_in}
use Rattle.px_link_methods.specs.Methods.{caught, class_number, clause_of, keys_of_clause, kind_of, linked_clause}
use Rattle.px_program.specs.Library.{library_types}
use Rattle.px_program.specs.declared.program.Clause.{Clause}
use Rattle.px_program.specs.declared.program.ClauseKind.{ClauseKind}
use Rattle.px_program.specs.declared.program.ClauseKind.TheVariants as kinds
use Rattle.px_program.specs.declared.program.TypeInfo.{TypeInfo}
use Rattle.px_tables.specs.Metadata.{View}
use Rattle.px_link_types.specs.Keys.{alone, class_of, defined_in, is_class, is_system, library_in, library_leaf, library_number, library_ref, number_from, ref_name}
use Rattle.px_link_types.specs.Making.{AreNumberedIn}
use Rattle.px_link_types.specs.Numbers.{has_key, is_integer_leaf, is_numbered, leaf_keys, library_keys, library_keys_from, number_of}
use Rattle.px_link_types.specs.declared.key.Key.{Key}
use Rattle.px_link_types.specs.declared.key.Leaf.{Leaf}
use Rattle.px_link_types.specs.declared.key.Leaf.TheVariants.{Number, Library, Defined}
use Rattle.px_link_types.proofs.Closed.{grows}
use Rattle.px_link_types.proofs.Formed.{has_by}
use Rattle.px_link_types.proofs.Places.{library_length}
use Rattle.px_asm_law_relink.specs.Again.{Again, key_for, keys_for, leaf_for, type_for}
use Rattle.px_asm_described.specs.Describes.{class_token, flags_of, raw_clause}
use Rattle.px_asm_law_relink.proofs.TypesAgain.{same_number, type_stands}

-- TOKENS OF CLASSES

there : (v : View) (table row : ℕ) → IsRow v table row → some_row v table row ≡ Some row
there v table row is = cond-true (nat_le 1 row && nat_le row (count_of v table)) (Some row) None (and_from (nat_le 1 row) (nat_le row (count_of v table)) (le-leb 1 row is.some) (le-leb row (count_of v table) is.few))

-- the number of a type of the library
library_from : (k : ℕ) (types : List TypeInfo) (more : List Key) (n : ℕ) → n < length types → number_of (library_keys_from k types ++ more) (alone (Library (k + n))) ≡ n
library_from k [] more n less = absurd (omega arith)
library_from k (type ∷ types) more zero less = cond-true (k == k + 0) 0 (1 + number_of (library_keys_from (k + 1) types ++ more) (alone (Library (k + 0)))) (eq-eqb k (k + 0) (omega arith))
library_from k (type ∷ types) more (suc n) less =
    let on : k + suc n ≡ k + 1 + n = omega arith in
    cond-false (k == k + suc n) 0 (1 + number_of (library_keys_from (k + 1) types ++ more) (alone (Library (k + suc n)))) (ne_eqb k (k + suc n) (omega arith))
    ∙ ap (λ m. 1 + number_of (library_keys_from (k + 1) types ++ more) (alone (Library m))) on
    ∙ ap (λ m. 1 + m) (library_from (k + 1) types more n (omega arith)) ∙ omega arith

library_first : (more : List Key) (n : ℕ) → n < 18 → number_of (library_keys ++ more) (alone (Library n)) ≡ n
library_first more n less =
    let none : 0 + n ≡ n = omega arith in
    let count : length library_types ≡ 18 = library_length (length library_types) library_types refl refl in
    ap (λ m. number_of (library_keys ++ more) (alone (Library m))) (sym none) ∙ library_from 0 library_types more n (omega arith)

pub library_number_is : (a : Again) (n : ℕ) → n < 18 → number_of a.reads.keys (alone (Library n)) ≡ n
library_number_is a n less = let grown = grows a.reads.numbers in ap (λ keys. number_of keys (alone (Library n))) grown.all_is ∙ library_first grown.more n less

library_token : (a : Again) (n : ℕ) → n < 18 → class_of a.v (class_token a.p n) ≡ Some (Library n)
library_token a n less =
    let row = a.describes.library n less in
    let at : class_token a.p n ≡ 1 * 2 ^ 24 + (n + 1) = cond-true (nat_lt n 18) (type_refs * 2 ^ 24 + (n + 1)) _ (lt-ltb n 18 less) in
    let table : table_in (class_token a.p n) ≡ 1 = omega arith in
    let in_table : row_in (class_token a.p n) ≡ n + 1 = omega arith in
    cond-false (table_in (class_token a.p n) == type_defs) _ _ (ap (λ t. t == type_defs) table)
    ∙ cond-true (table_in (class_token a.p n) == type_refs) (library_in a.v (some_row a.v type_refs (row_in (class_token a.p n)))) None (ap (λ t. t == type_refs) table)
    ∙ ap (λ r. library_in a.v (some_row a.v type_refs r)) in_table ∙ ap (library_in a.v) (there a.v type_refs (n + 1) row.row) ∙ ap library_leaf row.names

defined_token : (a : Again) (row : ℕ) → has_key a.reads.keys (alone (Defined row)) ≡ true → class_of a.v (class_token a.p (number_of a.reads.keys (alone (Defined row)))) ≡ Some (Defined (type_for a row))
defined_token a row met =
    let stands = type_stands a row met in
    let n = number_of a.reads.keys (alone (Defined row)) in
    let few = a.describes.few_types in
    let within = stands.there.few in
    let at : class_token a.p n ≡ 2 * 2 ^ 24 + type_for a row = cond-false (nat_lt n 18) _ (type_defs * 2 ^ 24 + type_for a row) (le-ltb n 18 stands.behind) in
    let table : table_in (class_token a.p n) ≡ 2 = omega arith in
    let in_table : row_in (class_token a.p n) ≡ type_for a row = omega arith in
    cond-true (table_in (class_token a.p n) == type_defs) (defined_in a.v (some_row a.v type_defs (row_in (class_token a.p n)))) _ (ap (λ t. t == type_defs) table)
    ∙ ap (λ r. defined_in a.v (some_row a.v type_defs r)) in_table ∙ ap (defined_in a.v) (there a.v type_defs (type_for a row) stands.there)
    ∙ cond-true (is_class a.v (type_for a row)) (Some (Defined (type_for a row))) None stands.is.class

-- what a token of a class can name
abbrev IsClassLeaf : Leaf → Type 0
IsClassLeaf (Number integer) = ⊥
IsClassLeaf (Library number) = number < 18
IsClassLeaf (Defined row) = Unit {0}

number_within : (number : ℕ) (types : List TypeInfo) (name : List ℕ) → IfSome (number_from number types name) (λ n. n < number + length types)
number_within number [] name = tt
number_within number (type ∷ types) name =
    cond_both (bytes_eq type.name name) (Some number) (number_from (number + 1) types name) (λ o. IfSome o (λ n. n < number + suc (length types)))
    (λ same. omega arith)
    (λ other. let more : (number + 1) + length types ≡ number + suc (length types) = omega arith in subst (λ k. IfSome (number_from (number + 1) types name) (λ n. n < k)) more (number_within (number + 1) types name))

library_there : (v : View) (row : ℕ) → IfSome (library_ref v row) (λ n. n < 18)
library_there v row =
    cond_both (is_system v row) (library_number (ref_name v row)) None (λ o. IfSome o (λ n. n < 18)) (λ is. number_within 0 library_types (codes "System." ++ ref_name v row)) (λ other. tt)

leaf_there : (number : Option ℕ) → IfSome number (λ n. n < 18) → IfSome (library_leaf number) IsClassLeaf
leaf_there None below = tt
leaf_there (Some number) below = below

library_in_there : (v : View) (row : Option ℕ) → IfSome (library_in v row) IsClassLeaf
library_in_there v None = tt
library_in_there v (Some row) = leaf_there (library_ref v row) (library_there v row)

defined_there : (v : View) (row : Option ℕ) → IfSome (defined_in v row) IsClassLeaf
defined_there v None = tt
defined_there v (Some row) = cond_both (is_class v row) (Some (Defined row)) None (λ o. IfSome o IsClassLeaf) (λ e. tt) (λ e. tt)

class_there : (v : View) (at : ℕ) → IfSome (class_of v at) IsClassLeaf
class_there v at =
    cond_both (table_in at == type_defs) (defined_in v (some_row v type_defs (row_in at))) (if table_in at == type_refs then library_in v (some_row v type_refs (row_in at)) else None) (λ o. IfSome o IsClassLeaf)
    (λ e. defined_there v (some_row v type_defs (row_in at)))
    (λ e. cond_both (table_in at == type_refs) (library_in v (some_row v type_refs (row_in at))) None (λ o. IfSome o IsClassLeaf) (λ f. library_in_there v (some_row v type_refs (row_in at))) (λ f. tt))

-- the token of a class names what stands for it
class_again : (a : Again) (leaf : Leaf) → IsClassLeaf leaf → is_numbered a.reads.keys (alone leaf) ≡ true → class_of a.v (class_token a.p (number_of a.reads.keys (alone leaf))) ≡ Some (leaf_for a leaf)
class_again a (Number integer) is numbered = absurd is
class_again a (Library n) is numbered = ap (λ m. class_of a.v (class_token a.p m)) (library_number_is a n is) ∙ library_token a n is
class_again a (Defined row) is numbered = defined_token a row (has_by a.reads.keys (alone (Defined row)) refl numbered)

no_integer : (leaf : Leaf) → IsClassLeaf leaf → is_integer_leaf leaf ≡ false
no_integer (Number integer) is = absurd is
no_integer (Library n) is = refl
no_integer (Defined row) is = refl

-- CLAUSES

same_kind : (kind : ClauseKind) → kind_of (flags_of kind) ≡ kind
same_kind kinds.Catch = refl
same_kind kinds.Filter = refl
same_kind kinds.Finally = refl
same_kind kinds.Fault = refl

caught_there : (v : View) (c : RawClause) → IfSome (caught v c) IsClassLeaf
caught_there v c = cond_both (c.flags == 0) (class_of v c.class) None (λ o. IfSome o IsClassLeaf) (λ e. class_there v c.class) (λ e. tt)

-- only a catch has a class
catches : (v : View) (c : RawClause) (leaf : Leaf) → caught v c ≡ Some leaf → (c.flags == 0) ≡ true
catches v c leaf = cond_both (c.flags == 0) (class_of v c.class) None (λ o. o ≡ Some leaf → (c.flags == 0) ≡ true) (λ e is. e) (λ e is. absurd (cc))

caught_by : (a : Again) (c : RawClause) (o : Option Leaf) → caught a.first c ≡ o → IfSome o IsClassLeaf → AreNumberedIn a.reads.keys (leaf_keys o)
    → caught a.v (raw_clause a.p (clause_of (class_number a.reads.keys o) c)) ≡ option_map (leaf_for a) o
caught_by a c None e is numbered = cond_both (flags_of (kind_of c.flags) == 0) (class_of a.v 0) None (λ o. o ≡ None) (λ f. refl) (λ f. refl)
caught_by a c (Some leaf) e is numbered =
    let kind : kind_of c.flags ≡ kinds.Catch = cond-true (c.flags == 0) kinds.Catch _ (catches a.first c leaf e) in
    cond-true (flags_of (kind_of c.flags) == 0) (class_of a.v (class_token a.p (number_of a.reads.keys (alone leaf)))) None (ap (λ k. flags_of k == 0) kind)
    ∙ class_again a leaf is numbered.0

class_numbers : (a : Again) (o : Option Leaf) → IfSome o IsClassLeaf → AreNumberedIn a.reads.keys (leaf_keys o) → class_number (keys_for a a.reads.keys) (option_map (leaf_for a) o) ≡ class_number a.reads.keys o
class_numbers a None is numbered = refl
class_numbers a (Some leaf) is numbered = ap (λ n. Some n) (same_number a (alone leaf) (has_by a.reads.keys (alone leaf) (no_integer leaf is) numbered.0))

keys_of_leaf : (a : Again) (o : Option Leaf) → leaf_keys (option_map (leaf_for a) o) ≡ keys_for a (leaf_keys o)
keys_of_leaf a None = refl
keys_of_leaf a (Some leaf) = refl

pub record IsClauseAgain (a : Again) (first raw : RawClause) : Type 0 where
  pub is : linked_clause a.v (keys_for a a.reads.keys) raw ≡ linked_clause a.first a.reads.keys first
  pub keys : keys_of_clause a.v raw ≡ keys_for a (keys_of_clause a.first first)

same_clause : (c : RawClause) (kind : ClauseKind) (class other : Option ℕ) → kind ≡ kind_of c.flags → other ≡ class
    → ◌≡◌ {A = Clause} (record { kind = kind; from = c.from; to = c.to; start = c.start; stop = c.stop; class = other }) (clause_of class c)
same_clause c kind class other k o =
    let with_kind : ClauseKind → Clause = λ x. record { kind = x; from = c.from; to = c.to; start = c.start; stop = c.stop; class = other } in
    ap with_kind k ∙ ap (λ x. clause_of x c) o

clause_again : (a : Again) (c : RawClause) → AreNumberedIn a.reads.keys (keys_of_clause a.first c) → IsClauseAgain a c (raw_clause a.p (linked_clause a.first a.reads.keys c))
clause_again a c numbered =
    let is = caught_there a.first c in
    let again = caught_by a c (caught a.first c) refl is numbered in
    record {
      is = same_clause c (kind_of (flags_of (kind_of c.flags))) (class_number a.reads.keys (caught a.first c)) (class_number (keys_for a a.reads.keys) (caught a.v (raw_clause a.p (linked_clause a.first a.reads.keys c))))
          (same_kind (kind_of c.flags)) (ap (class_number (keys_for a a.reads.keys)) again ∙ class_numbers a (caught a.first c) is numbered);
      keys = ap leaf_keys again ∙ keys_of_leaf a (caught a.first c);
    }

-- all clauses of a body
pub record AreClausesAgain (a : Again) (firsts raws : List RawClause) : Type 0 where
  pub are : map (linked_clause a.v (keys_for a a.reads.keys)) raws ≡ map (linked_clause a.first a.reads.keys) firsts
  pub keys : flat_map (keys_of_clause a.v) raws ≡ keys_for a (flat_map (keys_of_clause a.first) firsts)

clause_by : (a : Again) (c raw : RawClause) → AreNumberedIn a.reads.keys (keys_of_clause a.first c) → raw ≡ raw_clause a.p (linked_clause a.first a.reads.keys c) → IsClauseAgain a c raw
clause_by a c raw numbered e = subst (IsClauseAgain a c) (sym e) (clause_again a c numbered)

pub clauses_again : (a : Again) (firsts raws : List RawClause) → AllByRecursion (λ c. AreNumberedIn a.reads.keys (keys_of_clause a.first c)) firsts
    → AllZip (λ clause raw. raw ≡ raw_clause a.p clause) (map (linked_clause a.first a.reads.keys) firsts) raws → AreClausesAgain a firsts raws
clauses_again a [] [] numbered are = record { are = refl; keys = refl }
clauses_again a [] (raw ∷ raws) numbered are = absurd are
clauses_again a (c ∷ firsts) [] numbered are = absurd are
clauses_again a (c ∷ firsts) (raw ∷ raws) numbered are =
    let first = clause_by a c raw numbered.0 are.0 in
    let later = clauses_again a firsts raws numbered.1 are.1 in
    let made = linked_clause a.v (keys_for a a.reads.keys) in
    record {
      are = ap (λ x. x ∷ map made raws) first.is ∙ ap (λ l. linked_clause a.first a.reads.keys c ∷ l) later.are;
      keys = ap (λ l. l ++ flat_map (keys_of_clause a.v) raws) first.keys ∙ ap (λ l. keys_for a (keys_of_clause a.first c) ++ l) later.keys
          ∙ sym (map-append (key_for a) (keys_of_clause a.first c) (flat_map (keys_of_clause a.first) firsts));
    }
