-- The sections that were read before the rest.
use Rattle.std.proofs.Common.{◌≡◌, ℕ, suc, zero, ◌+◌, ◌-◌, ◌*◌, ◌/◌, ◌<◌, ◌≤◌, List, [], ◌∷◌, ◌++◌, length, Result, Ok, Err, Bool, true, false, refl, sym, ap, ◌∙◌, arith, ◌^◌, length-append}
use Rattle.std.specs.Prelude.{nat_lt, slice_index, IfOk, if◌then◌else◌}
use Rattle.std.specs.List.{list_all}
use Rattle.std.proofs.lemmas.List.Folds.{list_all-append}
use Rattle.std.proofs.lemmas.Bool.{lt-ltb, le-ltb, ltb-false, ltb-true, and_from}
use Rattle.px_code.specs.Reading.{PlacedFault, Gives}
use Rattle.px_reading.specs.Reading.{◌>>=◌}
use Rattle.px_code.specs.declared.body.BodyFault.{BodyFault}
use Rattle.px_code.specs.Body.{aligned, clause_at, clause_by, clause_size, clauses_at, clauses_in, has_next, is_fat, is_placed, is_table, section_behind, section_size, sections_from}
use Rattle.px_code.specs.declared.body.BodyKind.TheVariants.{BadClause, Cut}
use Rattle.px_code.specs.declared.body.RawClause.{RawClause}
use Rattle.px_code.specs.declared.body.RawInstr.{RawInstr}
use Rattle.px_code.proofs.Following.{bind_ok, guard_not}
use Rattle.px_code.proofs.Front.{onto, shift_all}

-- a section takes four bytes or more
pub goes_on : (bytes : List ℕ) (at : ℕ) → at + 4 ≤ section_behind bytes at
goes_on bytes at = by_size (section_size bytes at) (nat_lt (section_size bytes at) 4) refl
  where
    by_size : (size : ℕ) (b : Bool) → nat_lt size 4 ≡ b → at + 4 ≤ aligned (at + (if b then 4 else size))
    by_size size true e = omega arith
    by_size size false e = omega (arith, ltb-false size 4 e)

-- the next section starts behind all of it
behind_all : (bytes : List ℕ) (at : ℕ) → at + section_size bytes at ≤ section_behind bytes at
behind_all bytes at = by_size (section_size bytes at) (nat_lt (section_size bytes at) 4) refl
  where
    by_size : (size : ℕ) (b : Bool) → nat_lt size 4 ≡ b → at + size ≤ aligned (at + (if b then 4 else size))
    by_size size true e = omega (arith, ltb-true size 4 e)
    by_size size false e = omega arith

-- the clauses of a section whose next may follow
abbrev and_then : ℕ → List RawInstr → List ℕ → ℕ → List RawClause → Result (List RawClause) PlacedFault
and_then n instrs bytes at clauses =
    if has_next (slice_index bytes at) then (sections_from n instrs bytes (section_behind bytes at) >>= λ rest. Ok (clauses ++ rest))
    else Ok clauses

-- what is read does not depend on how many sections there may be, if they may pass the bytes
pub enough : (m n : ℕ) (instrs : List RawInstr) (bytes : List ℕ) (at : ℕ) → length bytes < at + suc m → length bytes < at + suc n
    → sections_from (suc m) instrs bytes at ≡ sections_from (suc n) instrs bytes at
unfolding sections_from
enough zero n instrs bytes at room also = rw (lt-ltb (length bytes) (at + 4) (omega arith)) refl
enough (suc m) zero instrs bytes at room also = rw (lt-ltb (length bytes) (at + 4) (omega arith)) refl
enough (suc m) (suc n) instrs bytes at room also =
    let next = goes_on bytes at in
    let later = enough m n instrs bytes (section_behind bytes at) (omega (arith, next)) (omega (arith, next)) in
    rw later refl

-- the sections from a place on
abbrev pub left : List RawInstr → List ℕ → ℕ → Result (List RawClause) PlacedFault
left instrs bytes at = sections_from (suc (length bytes - at)) instrs bytes at

-- they are those that there may be
pub all_left : (instrs : List RawInstr) (bytes : List ℕ) (at : ℕ) → 0 < at → 0 < length bytes → left instrs bytes at ≡ sections_from (length bytes) instrs bytes at
all_left instrs bytes at some any =
    let one : length bytes ≡ suc (length bytes - 1) = omega arith in
    enough (length bytes - at) (length bytes - 1) instrs bytes at (omega arith) (omega arith) ∙ ap (λ n. sections_from n instrs bytes at) (sym one)

pub section_cut : (front : List RawClause) (instrs : List RawInstr) (bytes : List ℕ) (at : ℕ) → length bytes < at + 4 → onto front (left instrs bytes at) ≡ Err (Cut, length bytes)
unfolding sections_from
section_cut front instrs bytes at less = rw (lt-ltb (length bytes) (at + 4) less) refl

pub section_refused : (front : List RawClause) (instrs : List RawInstr) (bytes : List ℕ) (at : ℕ) (e : PlacedFault) → at + 4 ≤ length bytes
    → clauses_in instrs bytes at ≡ Err e → onto front (left instrs bytes at) ≡ Err e
unfolding sections_from
section_refused front instrs bytes at e there read = rw (le-ltb (length bytes) (at + 4) there, read) refl

pub last_section : (front : List RawClause) (instrs : List RawInstr) (bytes : List ℕ) (at : ℕ) (clauses : List RawClause) → at + 4 ≤ length bytes
    → clauses_in instrs bytes at ≡ Ok clauses → has_next (slice_index bytes at) ≡ false → onto front (left instrs bytes at) ≡ Ok (front ++ clauses)
unfolding sections_from
last_section front instrs bytes at clauses there read last = rw (le-ltb (length bytes) (at + 4) there, read, last) refl

pub one_section : (front : List RawClause) (instrs : List RawInstr) (bytes : List ℕ) (at : ℕ) (clauses : List RawClause) → at + 4 ≤ length bytes
    → clauses_in instrs bytes at ≡ Ok clauses → has_next (slice_index bytes at) ≡ true
    → onto front (left instrs bytes at) ≡ onto (front ++ clauses) (left instrs bytes (section_behind bytes at))
unfolding sections_from
one_section front instrs bytes at clauses there read next =
    let on = goes_on bytes at in
    let some : length bytes - at ≡ suc (length bytes - (at + 1)) = omega arith in
    let rest : sections_from (length bytes - at) instrs bytes (section_behind bytes at) ≡ left instrs bytes (section_behind bytes at) =
    ap (λ n. sections_from n instrs bytes (section_behind bytes at)) some
    ∙ enough (length bytes - (at + 1)) (length bytes - section_behind bytes at) instrs bytes (section_behind bytes at) (omega (arith, on)) (omega arith) in
    rw (le-ltb (length bytes) (at + 4) there, read, next, rest) (shift_all front clauses (left instrs bytes (section_behind bytes at)))

-- PLACED CLAUSES

placed_at : (instrs : List RawInstr) (fat : Bool) (bytes : List ℕ) (at : ℕ) (clause : RawClause) → clause_at instrs fat bytes at ≡ Ok clause → is_placed instrs clause ≡ true
placed_at instrs fat bytes at clause read =
    let made = clause_by fat bytes at in
    let bad : PlacedFault = (BadClause, at) in
    let cut : PlacedFault = (Cut, length bytes) in
    let p = guard_not (nat_lt (length bytes) (at + clause_size fat)) (if is_placed instrs made then Ok made else Err bad) cut clause read in
    by_test (is_placed instrs made) refl bad p.1
  where
    by_test : (b : Bool) → is_placed instrs (clause_by fat bytes at) ≡ b → (bad : PlacedFault) → (if b then Ok (clause_by fat bytes at) else Err bad) ≡ Ok clause → is_placed instrs clause ≡ true
    by_test true e bad h = let same : clause_by fat bytes at ≡ clause = cc in sym (ap (is_placed instrs) same) ∙ e
    by_test false e bad h = absurd (cc)

all_placed_at : (n : ℕ) (instrs : List RawInstr) (fat : Bool) (bytes : List ℕ) (at : ℕ) (clauses : List RawClause) → clauses_at instrs fat bytes at n ≡ Ok clauses
    → list_all (is_placed instrs) clauses ≡ true
all_placed_at zero instrs fat bytes at clauses read = let none : [] ≡ clauses = cc in sym (ap (list_all (is_placed instrs)) none)
all_placed_at (suc n) instrs fat bytes at clauses read =
    let p = bind_ok (clause_at instrs fat bytes at) (λ clause. clauses_at instrs fat bytes (at + clause_size fat) n >>= λ rest. Ok (clause ∷ rest)) clauses read in
    let q = bind_ok (clauses_at instrs fat bytes (at + clause_size fat) n) (λ rest. Ok (p.0 ∷ rest)) clauses p.2 in
    let all : p.0 ∷ q.0 ≡ clauses = cc in
    let first = placed_at instrs fat bytes at p.0 p.1 in
    let others = all_placed_at n instrs fat bytes (at + clause_size fat) q.0 q.1 in
    sym (ap (list_all (is_placed instrs)) all) ∙ and_from (is_placed instrs p.0) (list_all (is_placed instrs) q.0) first others

placed_in : (instrs : List RawInstr) (bytes : List ℕ) (at : ℕ) (clauses : List RawClause) → clauses_in instrs bytes at ≡ Ok clauses → list_all (is_placed instrs) clauses ≡ true
placed_in instrs bytes at clauses read = by_kind (is_table (slice_index bytes at)) read
  where
    by_kind : (b : Bool) → (if b then clauses_at instrs (is_fat (slice_index bytes at)) bytes (at + 4) (section_size bytes at / clause_size (is_fat (slice_index bytes at))) else Ok []) ≡ Ok clauses
        → list_all (is_placed instrs) clauses ≡ true
    by_kind true h = all_placed_at _ instrs _ bytes (at + 4) clauses h
    by_kind false h = let none : [] ≡ clauses = cc in sym (ap (list_all (is_placed instrs)) none)

-- each clause that was read is placed
pub all_placed : (n : ℕ) (instrs : List RawInstr) (bytes : List ℕ) (at : ℕ) (clauses : List RawClause) → sections_from n instrs bytes at ≡ Ok clauses
    → list_all (is_placed instrs) clauses ≡ true
unfolding sections_from
all_placed zero instrs bytes at clauses read = let none : [] ≡ clauses = cc in sym (ap (list_all (is_placed instrs)) none)
all_placed (suc n) instrs bytes at clauses read =
    let cut : PlacedFault = (Cut, length bytes) in
    let p = guard_not (nat_lt (length bytes) (at + 4)) (clauses_in instrs bytes at >>= and_then n instrs bytes at) cut clauses read in
    let q = bind_ok (clauses_in instrs bytes at) (and_then n instrs bytes at) clauses p.1 in
    by_next q.0 (has_next (slice_index bytes at)) (placed_in instrs bytes at q.0 q.1) q.2 (λ rest h. all_placed n instrs bytes (section_behind bytes at) rest h)
  where
    by_next : (first : List RawClause) (b : Bool) → list_all (is_placed instrs) first ≡ true
        → (if b then (sections_from n instrs bytes (section_behind bytes at) >>= λ rest. Ok (first ++ rest)) else Ok first) ≡ Ok clauses
        → ((rest : List RawClause) → sections_from n instrs bytes (section_behind bytes at) ≡ Ok rest → list_all (is_placed instrs) rest ≡ true) → list_all (is_placed instrs) clauses ≡ true
    by_next first true placed h later =
        let r = bind_ok (sections_from n instrs bytes (section_behind bytes at)) (λ rest. Ok (first ++ rest)) clauses h in
        let all : first ++ r.0 ≡ clauses = cc in
        sym (ap (list_all (is_placed instrs)) all) ∙ list_all-append (is_placed instrs) first r.0 ∙ and_from _ _ placed (later r.0 r.1)
    by_next first false placed h later = let all : first ≡ clauses = cc in sym (ap (list_all (is_placed instrs)) all) ∙ placed

pub placed_where_read : {V : Type 0} (items : V → List RawClause) (r : Result V BodyFault) (n : ℕ) (instrs : List RawInstr) (bytes : List ℕ) (at : ℕ) → Gives items r (sections_from n instrs bytes at)
    → IfOk r (λ clauses. list_all (is_placed instrs) (items clauses) ≡ true)
placed_where_read items (Ok clauses) n instrs bytes at read = all_placed n instrs bytes at (items clauses) read
placed_where_read items (Err e) n instrs bytes at read = tt

-- FEW CLAUSES

-- so many clauses have twelve bytes each
clauses_within : (n : ℕ) (instrs : List RawInstr) (fat : Bool) (bytes : List ℕ) (at : ℕ) (clauses : List RawClause) → clauses_at instrs fat bytes at n ≡ Ok clauses
    → (length clauses ≡ n) × (12 * n ≤ length bytes - at)
clauses_within zero instrs fat bytes at clauses read = let none : [] ≡ clauses = cc in (sym (ap (λ c. length c) none), omega arith)
clauses_within (suc n) instrs fat bytes at clauses read =
    let p = bind_ok (clause_at instrs fat bytes at) (λ clause. clauses_at instrs fat bytes (at + clause_size fat) n >>= λ rest. Ok (clause ∷ rest)) clauses read in
    let q = bind_ok (clauses_at instrs fat bytes (at + clause_size fat) n) (λ rest. Ok (p.0 ∷ rest)) clauses p.2 in
    let all : p.0 ∷ q.0 ≡ clauses = cc in
    let others = clauses_within n instrs fat bytes (at + clause_size fat) q.0 q.1 in
    let bad : PlacedFault = (BadClause, at) in
    let cut : PlacedFault = (Cut, length bytes) in
    let made = clause_by fat bytes at in
    let here = guard_not (nat_lt (length bytes) (at + clause_size fat)) (if is_placed instrs made then Ok made else Err bad) cut p.0 p.1 in
    (sym (ap (λ c. length c) all) ∙ ap suc others.0, omega (arith, others.1, size_at_least fat, ltb-false (length bytes) (at + clause_size fat) here.0))
  where
    size_at_least : (fat : Bool) → 12 ≤ clause_size fat
    size_at_least true = omega arith
    size_at_least false = omega arith

-- those of a section lie in it and within the bytes
few_in : (instrs : List RawInstr) (bytes : List ℕ) (at : ℕ) (clauses : List RawClause) → clauses_in instrs bytes at ≡ Ok clauses
    → (12 * length clauses ≤ length bytes - at) × (at + 12 * length clauses ≤ section_behind bytes at)
few_in instrs bytes at clauses read = by_kind (is_table (slice_index bytes at)) (is_fat (slice_index bytes at)) (section_size bytes at) (behind_all bytes at) read
  where
    by_kind : (b fat : Bool) (size : ℕ) → at + size ≤ section_behind bytes at → (if b then clauses_at instrs fat bytes (at + 4) (size / clause_size fat) else Ok []) ≡ Ok clauses
        → (12 * length clauses ≤ length bytes - at) × (at + 12 * length clauses ≤ section_behind bytes at)
    by_kind true true size behind h =
        let p = clauses_within (size / 24) instrs true bytes (at + 4) clauses h in (omega (arith, p.0, p.1), omega (arith, p.0, behind))
    by_kind true false size behind h =
        let p = clauses_within (size / 12) instrs false bytes (at + 4) clauses h in (omega (arith, p.0, p.1), omega (arith, p.0, behind))
    by_kind false fat size behind h =
        let none : [] ≡ clauses = cc in let zero_of : 0 ≡ length clauses = ap (λ c. length c) none in (omega (arith, zero_of), omega (arith, zero_of, behind))

few_from : (n : ℕ) (instrs : List RawInstr) (bytes : List ℕ) (at : ℕ) (clauses : List RawClause) → sections_from n instrs bytes at ≡ Ok clauses
    → 12 * length clauses ≤ length bytes - at
unfolding sections_from
few_from zero instrs bytes at clauses read = let none : [] ≡ clauses = cc in let zero_of : 0 ≡ length clauses = ap (λ c. length c) none in omega (arith, zero_of)
few_from (suc n) instrs bytes at clauses read =
    let cut : PlacedFault = (Cut, length bytes) in
    let p = guard_not (nat_lt (length bytes) (at + 4)) (clauses_in instrs bytes at >>= and_then n instrs bytes at) cut clauses read in
    let q = bind_ok (clauses_in instrs bytes at) (and_then n instrs bytes at) clauses p.1 in
    let first = few_in instrs bytes at q.0 q.1 in
    by_next q.0 (has_next (slice_index bytes at)) first.0 first.1 q.2 (λ rest h. few_from n instrs bytes (section_behind bytes at) rest h)
  where
    by_next : (first : List RawClause) (b : Bool) → 12 * length first ≤ length bytes - at → at + 12 * length first ≤ section_behind bytes at
        → (if b then (sections_from n instrs bytes (section_behind bytes at) >>= λ rest. Ok (first ++ rest)) else Ok first) ≡ Ok clauses
        → ((rest : List RawClause) → sections_from n instrs bytes (section_behind bytes at) ≡ Ok rest → 12 * length rest ≤ length bytes - section_behind bytes at)
        → 12 * length clauses ≤ length bytes - at
    by_next first true few inside h later =
        let r = bind_ok (sections_from n instrs bytes (section_behind bytes at)) (λ rest. Ok (first ++ rest)) clauses h in
        let all : first ++ r.0 ≡ clauses = cc in
        let sum : length clauses ≡ length first + length r.0 = sym (ap (λ c. length c) all) ∙ length-append {A = RawClause} first r.0 in
        omega (arith, few, inside, sum, later r.0 r.1)
    by_next first false few inside h later = let all : first ≡ clauses = cc in omega (arith, few, ap (λ c. length c) all)

pub few_where_read : {V : Type 0} (items : V → List RawClause) (r : Result V BodyFault) (n : ℕ) (instrs : List RawInstr) (bytes : List ℕ) (at : ℕ) → length bytes < 2 ^ 31
    → Gives items r (sections_from n instrs bytes at) → IfOk r (λ clauses. length (items clauses) < 2 ^ 32)
few_where_read items (Ok clauses) n instrs bytes at short read = omega (arith, short, few_from n instrs bytes at (items clauses) read)
few_where_read items (Err e) n instrs bytes at short read = tt
