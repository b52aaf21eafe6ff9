-- What was read before the rest.
use Rattle.std.proofs.Common.{◌≡◌, ℕ, suc, ◌+◌, ◌-◌, ◌*◌, ◌<◌, ◌≤◌, List, [], ◌∷◌, ◌++◌, length, Result, Ok, Err, Bool, refl, sym, ap, append_assoc, append-nil, arith}
use Rattle.std.proofs.lemmas.Bool.{lt-ltb}
use Rattle.px_code.specs.Reading.{PlacedFault, Fails}
use Rattle.px_reading.specs.Reading.{◌>>=◌}
use Rattle.px_code.specs.Body.{clause_at, clause_size, clauses_at, instr_at, instrs_from, number_at, target_of, targets_at}
use Rattle.px_code.specs.declared.body.RawClause.{RawClause}
use Rattle.px_code.specs.declared.body.RawInstr.{RawInstr}
use Rattle.px_code.specs.declared.body.BodyFault.{BodyFault}
use Rattle.px_code.specs.declared.body.BodyFault.TheVariants as faults
use Rattle.px_code.proofs.Following.{enough}

-- what was read, and then what a reading gives
abbrev pub onto : {A : Type 0} → List A → Result (List A) PlacedFault → Result (List A) PlacedFault
onto front read = read >>= (λ rest. Ok (front ++ rest))

-- one more at the end of the front
pub shift : {A : Type 0} (front : List A) (i : A) (read : Result (List A) PlacedFault) → onto front (read >>= (λ rest. Ok (i ∷ rest))) ≡ onto (front ++ i ∷ []) read
shift front i (Ok xs) = ap (λ v. Ok v) (sym (append_assoc front (i ∷ []) xs))
shift front i (Err e) = refl

-- some more at the end of the front
pub shift_all : {A : Type 0} (front more : List A) (read : Result (List A) PlacedFault) → onto front (read >>= (λ rest. Ok (more ++ rest))) ≡ onto (front ++ more) read
shift_all front more (Ok xs) = ap (λ v. Ok v) (sym (append_assoc front more xs))
shift_all front more (Err e) = refl

pub onto_nothing : {A : Type 0} (read : Result (List A) PlacedFault) → onto [] read ≡ read
onto_nothing (Ok xs) = refl
onto_nothing (Err e) = refl

-- a fault of a part is the fault of the whole
pub fails_on : {X Y : Type 0} (e : BodyFault) (part : Result X PlacedFault) (whole : Result Y PlacedFault) → Fails e part → ((f : PlacedFault) → part ≡ Err f → whole ≡ Err f) → Fails e whole
fails_on faults.Memory part whole fails on = tt
fails_on (faults.Bad kind at) part whole fails on = on (kind, at) fails

-- INSTRUCTIONS

-- these instructions, and those from an offset on
abbrev pub with_front : List RawInstr → ℕ → List ℕ → ℕ → Result (List RawInstr) PlacedFault
with_front front base code at = onto front (instrs_from (length code - at) base code at)

-- an instruction is read
pub one_more : (front : List RawInstr) (base : ℕ) (code : List ℕ) (at : ℕ) (i : RawInstr) → at < length code → at < i.next → instr_at base code at ≡ Ok i
    → with_front front base code at ≡ with_front (front ++ i ∷ []) base code i.next
unfolding instrs_from
one_more front base code at i less behind read =
    let one : length code - at ≡ suc (length code - (at + 1)) = omega arith in
    let fewer : instrs_from (length code - (at + 1)) base code i.next ≡ instrs_from (length code - i.next) base code i.next = enough _ _ base code i.next (omega arith) (omega arith) in
    rw (one, lt-ltb at (length code) less, read, fewer) (shift front i (instrs_from (length code - i.next) base code i.next))

-- an instruction is refused
pub refused_here : (front : List RawInstr) (base : ℕ) (code : List ℕ) (at : ℕ) (e : PlacedFault) → at < length code → instr_at base code at ≡ Err e → with_front front base code at ≡ Err e
unfolding instrs_from
refused_here front base code at e less read =
    let one : length code - at ≡ suc (length code - (at + 1)) = omega arith in
    rw (one, lt-ltb at (length code) less, read) refl

-- the code is at its end
pub at_end : (front : List RawInstr) (base : ℕ) (code : List ℕ) (at : ℕ) → length code ≤ at → with_front front base code at ≡ Ok front
unfolding instrs_from
at_end front base code at more = let none : length code - at ≡ 0 = omega arith in rw none (ap (λ v. Ok v) (append-nil front))

-- TARGETS

-- these targets, and those that are left
abbrev pub with_targets : List ℕ → ℕ → List ℕ → ℕ → ℕ → ℕ → List ℕ
with_targets front next code from index count = front ++ targets_at next code (from + 4 * index) (count - index)

pub one_target : (front : List ℕ) (next : ℕ) (code : List ℕ) (from index count : ℕ) → index < count
    → with_targets (front ++ target_of next 4 (number_at code (from + 4 * index) 4) ∷ []) next code from (index + 1) count ≡ with_targets front next code from index count
one_target front next code from index count less =
    let one : count - index ≡ suc (count - (index + 1)) = omega arith in
    let place : from + 4 * (index + 1) ≡ from + 4 * index + 4 = omega arith in
    rw (one, place) (append_assoc front (target_of next 4 (number_at code (from + 4 * index) 4) ∷ []) (targets_at next code (from + 4 * index + 4) (count - (index + 1))))

pub all_targets : (front : List ℕ) (next : ℕ) (code : List ℕ) (from index count : ℕ) → count ≤ index → with_targets front next code from index count ≡ front
all_targets front next code from index count most = let none : count - index ≡ 0 = omega arith in rw none (append-nil front)

-- CLAUSES

-- these clauses, and those that are left
abbrev pub with_clauses : List RawClause → List RawInstr → Bool → List ℕ → ℕ → ℕ → ℕ → Result (List RawClause) PlacedFault
with_clauses front instrs is_fat bytes from index count = onto front (clauses_at instrs is_fat bytes (from + clause_size is_fat * index) (count - index))

pub one_clause : (front : List RawClause) (instrs : List RawInstr) (is_fat : Bool) (bytes : List ℕ) (from index count : ℕ) (clause : RawClause) → index < count
    → clause_at instrs is_fat bytes (from + clause_size is_fat * index) ≡ Ok clause
    → with_clauses (front ++ clause ∷ []) instrs is_fat bytes from (index + 1) count ≡ with_clauses front instrs is_fat bytes from index count
one_clause front instrs is_fat bytes from index count clause less read =
    let size = clause_size is_fat in
    let one : count - index ≡ suc (count - (index + 1)) = omega arith in
    let place : from + size * (index + 1) ≡ from + size * index + size = omega arith in
    rw (one, place, read) (sym (shift front clause (clauses_at instrs is_fat bytes (from + size * index + size) (count - (index + 1)))))

pub clause_refused : (front : List RawClause) (instrs : List RawInstr) (is_fat : Bool) (bytes : List ℕ) (from index count : ℕ) (e : PlacedFault) → index < count
    → clause_at instrs is_fat bytes (from + clause_size is_fat * index) ≡ Err e → with_clauses front instrs is_fat bytes from index count ≡ Err e
clause_refused front instrs is_fat bytes from index count e less read =
    let one : count - index ≡ suc (count - (index + 1)) = omega arith in
    rw (one, read) refl

pub all_clauses : (front : List RawClause) (instrs : List RawInstr) (is_fat : Bool) (bytes : List ℕ) (from index count : ℕ) → count ≤ index
    → with_clauses front instrs is_fat bytes from index count ≡ Ok front
all_clauses front instrs is_fat bytes from index count most = let none : count - index ≡ 0 = omega arith in rw none (ap (λ v. Ok v) (append-nil front))
