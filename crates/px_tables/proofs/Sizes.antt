-- How large columns and rows are.
use Rattle.std.proofs.Common.{◌<◌, ◌≡◌, ◌≤◌, ◌*◌, ◌^◌, ◌-◌, ◌%◌, ℕ, zero, suc, lit<, Bool, true, false, List, [], ◌∷◌, length, get_or, refl, ◌∙◌, arith, lit≤}
use Rattle.std.specs.Prelude.{if◌then◌else◌, nat_le, ◌&&◌, not}
use Rattle.std.specs.List.{list_all, sum_by}
use Rattle.std.proofs.lemmas.Bool.{leb-true}
use Rattle.std.proofs.lemmas.List.Sums.{sum_by-cons}
use Rattle.std.proofs.Math.Nat.{mod-eq_of_lt, pow-le-pow_right}
use Rattle.px_tables.specs.declared.column.Column.{Column}
use Rattle.px_tables.specs.declared.column.Column.TheVariants.{U8, U16, U32, StringIndex, GuidIndex, BlobIndex, Row, Members, Coded}
use Rattle.px_tables.specs.declared.counts.Counts.{Counts}
use Rattle.px_tables.specs.Columns.{columns, columns_of}
use Rattle.px_tables.specs.Counts.{column_size, row_size}

both-first : (a b : Bool) → (a && b) ≡ true → a ≡ true
both-first true b h = refl
both-first false b h = h

both-second : (a b : Bool) → (a && b) ≡ true → b ≡ true
both-second true b h = h
both-second false b h = cc

-- no table has more than nine columns
few_in : (xs : List (List Column)) (i : ℕ) → list_all (λ x. nat_le (length x) 9) xs ≡ true → length (get_or xs i []) ≤ 9
few_in [] i h = omega arith
few_in (x ∷ xs) zero h = leb-true (length x) 9 (both-first (nat_le (length x) 9) _ h)
few_in (x ∷ xs) (suc i) h = few_in xs i (both-second (nat_le (length x) 9) _ h)

pub few_columns : (table : ℕ) → length (columns_of table) ≤ 9
few_columns table = few_in columns table refl

wide : (b : Bool) → (if b then 4 else 2) ≤ 4
wide true = lit≤ tt
wide false = lit≤ tt

short : (b : Bool) → (if b then 2 else 4) ≤ 4
short true = lit≤ tt
short false = lit≤ tt

pub size_few : (counts : Counts) (column : Column) → column_size counts column ≤ 4
size_few counts U8 = lit≤ tt
size_few counts U16 = lit≤ tt
size_few counts U32 = lit≤ tt
size_few counts StringIndex = wide _
size_few counts GuidIndex = wide _
size_few counts BlobIndex = wide _
size_few counts (Row table) = short _
size_few counts (Members table) = short _
size_few counts (Coded index) = short _

pub sizes_few : (counts : Counts) (xs : List Column) → sum_by (column_size counts) xs ≤ 4 * length xs
sizes_few counts [] = omega arith
sizes_few counts (x ∷ xs) = rw sum_by-cons (omega (arith, size_few counts x, sizes_few counts xs))

pub row_few : (counts : Counts) (table : ℕ) → row_size counts table ≤ 36
unfolding row_size
row_few counts table = omega (arith, sizes_few counts (columns_of table), few_columns table)

pub not_wide : (b : Bool) → ◌≡◌ {A = ℕ} (if not b then 4 else 2) (if b then 2 else 4)
not_wide true = refl
not_wide false = refl

-- the limit of a coded index, computed in 32 bits
pub limit_is : (bits : ℕ) → bits ≤ 5 → (1 * 2 ^ (16 - bits)) % 2 ^ 32 ≡ 2 ^ (16 - bits)
limit_is bits few =
    let most : 2 ^ (16 - bits) ≤ 2 ^ 16 = pow-le-pow_right (lit< tt) {i = 16 - bits} {j = 16} (omega arith) in
    mod-eq_of_lt {n = 1 * 2 ^ (16 - bits)} {m = 2 ^ 32} (omega (arith, most)) ∙ omega arith

wide_some : (b : Bool) → 1 ≤ (if b then 4 else 2)
wide_some true = lit≤ tt
wide_some false = lit≤ tt

short_some : (b : Bool) → 1 ≤ (if b then 2 else 4)
short_some true = lit≤ tt
short_some false = lit≤ tt

size_some : (counts : Counts) (column : Column) → 1 ≤ column_size counts column
size_some counts U8 = lit≤ tt
size_some counts U16 = lit≤ tt
size_some counts U32 = lit≤ tt
size_some counts StringIndex = wide_some _
size_some counts GuidIndex = wide_some _
size_some counts BlobIndex = wide_some _
size_some counts (Row table) = short_some _
size_some counts (Members table) = short_some _
size_some counts (Coded index) = short_some _

sizes_some : (counts : Counts) (xs : List Column) → 0 < length xs → 1 ≤ sum_by (column_size counts) xs
sizes_some counts [] some = absurd (omega arith)
sizes_some counts (x ∷ xs) some = rw sum_by-cons (omega (arith, size_some counts x))

-- a row of a table with columns has a byte at least
pub row_some : (counts : Counts) (table : ℕ) → 0 < length (columns_of table) → 1 ≤ row_size counts table
unfolding row_size
row_some counts table some = sizes_some counts (columns_of table) some
