-- The counts of rows, one table after the other.
use Rattle.std.proofs.Common.{◌≡◌, ◌≤◌, ◌<◌, ◌+◌, ◌-◌, ℕ, suc, zero, true, false, List, [], ◌∷◌, ◌++◌, length, get_or, set, take, replicate, Result, Ok, Err, refl, sym, ap, arith, append_assoc, append-nil, get_or-set_other, ◌≢◌}
use Rattle.std.proofs.lemmas.List.{take_all, take_more, take_more_set}
use Rattle.px_tables.specs.declared.fault.TableFault.{TableFault}
use Rattle.px_tables.specs.Counts.{has_bit}
use Rattle.px_tables.specs.Metadata.{counts_at}
use Rattle.px_tables.specs.Reading.{Part, read_number}
use Rattle.px_reading.specs.Reading.{◌>>=◌}

-- the counts so far before those that are left
abbrev pub with_front : List ℕ → Result (List ℕ × ℕ) TableFault → Result (List ℕ × ℕ) TableFault
with_front xs r = r >>= λ rest. Ok (xs ++ rest.0, rest.1)

one_less : (table : ℕ) → table < 64 → 64 - table ≡ suc (64 - (table + 1))
one_less table more = omega arith

-- one count behind the others
joined : (xs : List ℕ) (x : ℕ) (r : Result (List ℕ × ℕ) TableFault) → with_front xs (r >>= λ rest. Ok (x ∷ rest.0, rest.1)) ≡ with_front (xs ++ x ∷ []) r
joined xs x (Ok rest) = ap (λ ys. Ok (ys, rest.1)) (sym (append_assoc xs (x ∷ []) rest.0))
joined xs x (Err e) = refl

-- a count that was read
pub count_more : (counts : List ℕ) (table valid : ℕ) (part : Part) (at x : ℕ) → table < 64 → length counts ≡ 64 → has_bit valid table ≡ true → read_number 4 part at ≡ Ok x
    → with_front (take table counts) (counts_at (64 - table) table valid part at) ≡ with_front (take (table + 1) (set counts table x)) (counts_at (64 - (table + 1)) (table + 1) valid part (at + 4))
unfolding counts_at
count_more counts table valid part at x more len here is =
    let front = take_more_set counts table x (omega arith) in
    rw (one_less table more, here, is, front) (joined (take table counts) x _)

-- a table that isn't there
pub count_none : (counts : List ℕ) (table valid : ℕ) (part : Part) (at : ℕ) → table < 64 → length counts ≡ 64 → get_or counts table 0 ≡ 0 → has_bit valid table ≡ false
    → with_front (take table counts) (counts_at (64 - table) table valid part at) ≡ with_front (take (table + 1) counts) (counts_at (64 - (table + 1)) (table + 1) valid part at)
unfolding counts_at
count_none counts table valid part at more len none there =
    let front = take_more counts table 0 (omega arith) in
    rw (one_less table more, there, front, none) (joined (take table counts) 0 _)

-- the fault of a count is that of all
pub count_fails : (counts : List ℕ) (table valid : ℕ) (part : Part) (at : ℕ) (e : TableFault) → table < 64 → has_bit valid table ≡ true → read_number 4 part at ≡ Err e
    → with_front (take table counts) (counts_at (64 - table) table valid part at) ≡ Err e
unfolding counts_at
count_fails counts table valid part at e more here is = rw (one_less table more, here, is) refl

pub counts_all : (counts : List ℕ) (table valid : ℕ) (part : Part) (at : ℕ) → 64 ≤ table → length counts ≡ 64 → with_front (take table counts) (counts_at (64 - table) table valid part at) ≡ Ok (counts, at)
unfolding counts_at
counts_all counts table valid part at all len =
    let e : 64 - table ≡ 0 = omega arith in
    rw (e, append-nil, take_all table counts (omega arith)) refl

-- the tables that are left have no rows yet
pub zeros_more : (counts : List ℕ) (i table x : ℕ) → i ≡ table → ((k : ℕ) → table ≤ k → get_or counts k 0 ≡ 0) → (k : ℕ) → table + 1 ≤ k → get_or (set counts i x) k 0 ≡ 0
zeros_more counts i table x is zeros k behind = let other : k ≢ i = omega arith in rw get_or-set_other (zeros k (omega arith))

pub zeros_all : (n k : ℕ) → ◌≡◌ {A = ℕ} (get_or (replicate n 0) k 0) 0
zeros_all zero k = refl
zeros_all (suc n) zero = refl
zeros_all (suc n) (suc k) = zeros_all n k

pub no_front : (r : Result (List ℕ × ℕ) TableFault) → with_front [] r ≡ r
no_front (Ok x) = refl
no_front (Err e) = refl
