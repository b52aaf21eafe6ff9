-- Where rows stand in lists of rows.
use Rattle.std.proofs.Common.{◌≡◌, ℕ, zero, suc, ◌+◌, ◌<◌, ◌≤◌, Bool, true, false, cond, List, [], ◌∷◌, ◌++◌, Option, Some, None, length, filter, take, get_or, refl, sym, ap, ◌∙◌, arith}
use Rattle.std.specs.Prelude.{◌==◌, ◌&&◌, ◌||◌, not, nat_lt, if◌then◌else◌}
use Rattle.std.specs.List.{IsDistinct, list_any, position, position_or_len, range_with_len}
use Rattle.std.specs.Option.{unwrap_or}
use Rattle.std.proofs.lemmas.Bool.{cond_both}
use Rattle.std.proofs.lemmas.List.{take_more}
use Rattle.std.proofs.lemmas.List.Recursion.{is_position_or_len}
use Rattle.indexmap.specs.IndexSet.{insert_key}
use Rattle.px_meta.specs.Rows.{count_of, fields, rows_in}
use Rattle.px_tables.specs.Metadata.{View}
use Rattle.px_tables.proofs.Headers.{len_is}
use Rattle.px_link_types.specs.Numbers.{is_field_of, is_static_field}
use Rattle.px_link_methods.specs.Codes.{place_of}
use Rattle.px_link_methods.specs.Parts.{fields_by}
use Rattle.px_link_methods.proofs.Pieces.{each_item}

same_either : (a b : ℕ) → (a == b) ≡ (b == a)
same_either a b = grind arith

place_by : (row : ℕ) (rows : List ℕ) → place_of rows row ≡ position_or_len (λ other. other == row) rows
place_by row = is_position_or_len (λ rows. place_of rows row) (λ other. other == row) refl (λ other rows. refl)

place_from : (row : ℕ) (rows : List ℕ) → place_of rows row ≡ position_or_len (λ other. row == other) rows
place_from row = is_position_or_len (λ rows. place_of rows row) (λ other. row == other) refl (λ other rows. ap (λ (b : Bool). if b then 0 else 1 + place_of rows row) (same_either other row))

found_by : (n m : ℕ) (b : Bool) → Some n ≡ cond b (Some m) None → n ≡ m
found_by n m true e = cc
found_by n m false e = absurd (cc)

-- the place at which a set finds a row
pub found_at : (rows : List ℕ) (row n : ℕ) → Some n ≡ position (λ other. row == other) rows → n ≡ place_of rows row
found_at rows row n e = let at = position_or_len (λ other. row == other) rows in found_by n at (nat_lt at (length rows)) e ∙ sym (place_from row rows)

-- the place at which a row is found, or the count
pub place_or_count : (rows : List ℕ) (row : ℕ) (found : Option ℕ) → found ≡ position (λ other. other == row) rows → unwrap_or found (length rows) ≡ place_of rows row
place_or_count rows row found e = len_is (λ other. other == row) rows found e ∙ sym (place_by row rows)

-- FIELDS

length_filter : (test : ℕ → Bool) (xs : List ℕ) → length (filter test xs) ≤ length xs
length_filter test [] = omega arith
length_filter test (x ∷ xs) = let rest = length_filter test xs in cond_both (test x) (x ∷ filter test xs) (filter test xs) (λ l. length l ≤ suc (length xs)) (λ e. omega arith) (λ e. omega arith)

length_range : (a n : ℕ) → length (range_with_len a n) ≡ n
length_range a zero = refl
length_range a (suc n) = ap suc (length_range (a + 1) n)

-- a type has no more fields than there are
pub few_fields : (v : View) (static : Bool) (owner : ℕ) → length (fields_by v static owner) ≤ count_of v fields
few_fields v true owner = let few = length_filter (λ f. is_field_of v owner f && is_static_field v f) (rows_in v fields) in omega (arith, few, length_range 1 (count_of v fields))
few_fields v false owner = let few = length_filter (λ f. is_field_of v owner f && not (is_static_field v f)) (rows_in v fields) in omega (arith, few, length_range 1 (count_of v fields))

-- SETS

-- a row that differs from all before it goes behind them
apart : (rows : List ℕ) (i : ℕ) → IsDistinct (λ row other. row == other) rows → i < length rows → list_any (λ other. get_or rows i 0 == other) (take i rows) ≡ false
unfolding IsDistinct
apart rows zero distinct less = refl
apart [] (suc i) distinct less = absurd (omega arith)
apart (x ∷ rows) (suc i) distinct less =
    let differs : (get_or rows i 0 == x) ≡ false = same_either (get_or rows i 0) x ∙ each_item (λ y. (x == y) ≡ false) rows i 0 distinct.0 (omega arith) in
    ap (λ b. b || list_any (λ other. get_or rows i 0 == other) (take i rows)) differs ∙ apart rows i distinct.1 (omega arith)

pub set_more : (rows : List ℕ) (i : ℕ) (keys news : List ℕ) → IsDistinct (λ row other. row == other) rows → i < length rows → keys ≡ take i rows
    → news ≡ insert_key (λ a b. a == b) keys (get_or rows i 0) → news ≡ take (i + 1) rows
set_more rows i keys news distinct less is inserted =
    inserted ∙ ap (λ l. insert_key (λ a b. a == b) l (get_or rows i 0)) is
    ∙ ap (λ (b : Bool). if b then take i rows else take i rows ++ get_or rows i 0 ∷ []) (apart rows i distinct less) ∙ sym (take_more rows i 0 less)
