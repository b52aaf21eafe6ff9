-- Instructions that were read follow each other.
use Rattle.std.proofs.Common.{◌≡◌, ◌≢◌, ℕ, suc, zero, ◌+◌, ◌*◌, ◌<◌, ◌≤◌, List, [], ◌∷◌, length, Option, Some, None, Result, Ok, Err, Bool, true, false, refl, sym, ap, ◌∙◌, subst, arith}
use Rattle.std.specs.Prelude.{nat_lt, nat_le, slice_index, not, ◌==◌, if◌then◌else◌}
use Rattle.std.proofs.lemmas.Bool.{lt-ltb, le-ltb}
use Rattle.px_code.specs.Reading.{PlacedFault}
use Rattle.px_reading.specs.Reading.{◌>>=◌}
use Rattle.px_code.specs.Body.{behind, instr_at, instr_by, instr_of, instrs_from, number_at, switch_at, Follow, Position}
use Rattle.px_code.specs.declared.body.Operand.{Operand}
use Rattle.px_code.specs.declared.body.Operand.TheVariants.{Number, Target, Switch}
use Rattle.px_code.specs.declared.body.RawInstr.{RawInstr}

pub bind_ok : {A B : Type 0} (r : Result A PlacedFault) (f : A → Result B PlacedFault) (y : B) → (r >>= f) ≡ Ok y → (x : A) × (r ≡ Ok x) × (f x ≡ Ok y)
bind_ok (Ok x) f y h = (x, refl, h)
bind_ok (Err e) f y h = absurd (cc)

pub guard_not : {A : Type 0} (b : Bool) (r : Result A PlacedFault) (e : PlacedFault) (y : A) → (if b then Err e else r) ≡ Ok y → (b ≡ false) × (r ≡ Ok y)
guard_not true r e y h = absurd (cc)
guard_not false r e y h = (refl, h)

-- an instruction that was read stands at its offset, and the next one behind it
stands : (b : Bool) (e : PlacedFault) (at size more : ℕ) (made i : RawInstr) → 0 < size → made.offset ≡ at → made.next ≡ at + size + more → (if b then Err e else Ok made) ≡ Ok i → (i.offset ≡ at) × (at < i.next)
stands b e at size more made i some here behind h =
    let p : (b ≡ false) × (Ok made ≡ Ok i) = guard_not b (Ok made) e i h in
    let same : made ≡ i = cc in
    (ap (λ j. j.offset) (sym same) ∙ here, omega (arith, ap (λ j. j.next) same, behind))

places : (o : Option Operand) (p : Position) (code : List ℕ) (i : RawInstr) → 0 < p.size → instr_of o p code ≡ Ok i → (i.offset ≡ p.at) × (p.at < i.next)
places None p code i some h = absurd (cc)
places (Some (Number size)) p code i some h = stands (nat_lt (length code) (behind p + size)) _ p.at p.size size _ i some refl refl h
places (Some (Target size)) p code i some h = stands (nat_lt (length code) (behind p + size)) _ p.at p.size size _ i some refl refl h
places (Some Switch) p code i some h =
    let count = number_at code (behind p) 4 in
    let q : (nat_lt (length code) (behind p + 4) ≡ false) × (switch_at p code count ≡ Ok i) = guard_not _ (switch_at p code count) _ i h in
    stands (nat_lt (length code) (behind p + (4 + 4 * count))) _ p.at p.size (4 + 4 * count) _ i some refl refl q.1

either : {A : Type 0} (P : A → Type 0) (b c : Bool) (e : PlacedFault) (one two : Result A PlacedFault) → ((i : A) → one ≡ Ok i → P i) → ((i : A) → two ≡ Ok i → P i)
    → (i : A) → (if b then one else if c then Err e else two) ≡ Ok i → P i
either P true c e one two first second i h = first i h
either P false true e one two first second i h = absurd (cc)
either P false false e one two first second i h = second i h

-- whether its opcode has one byte or two
pub placed_at : (base : ℕ) (code : List ℕ) (at : ℕ) (i : RawInstr) → instr_at base code at ≡ Ok i → (i.offset ≡ at) × (at < i.next)
unfolding instr_at
placed_at base code at i h =
    either (λ i. (i.offset ≡ at) × (at < i.next)) (not (slice_index code at == 0xFE)) (nat_le (length code) (at + 1)) _
    (instr_by base code at (slice_index code at) 1) (instr_by base code at (0xFE00 + slice_index code (at + 1)) 2)
    (λ i read. places _ (record { base = base; at = at; opcode = slice_index code at; size = 1 }) code i (omega arith) read)
    (λ i read. places _ (record { base = base; at = at; opcode = 0xFE00 + slice_index code (at + 1); size = 2 }) code i (omega arith) read)
    i h

-- the instructions from one on
abbrev pub rest_of : ℕ → ℕ → List ℕ → RawInstr → Result (List RawInstr) PlacedFault
rest_of n base code i = instrs_from n base code i.next >>= (λ rest. Ok (i ∷ rest))

-- what was read first, and then the rest
split : (n base : ℕ) (code : List ℕ) (at : ℕ) (xs : List RawInstr) → (instr_at base code at >>= rest_of n base code) ≡ Ok xs
    → (i : RawInstr) × (ys : List RawInstr) × (instr_at base code at ≡ Ok i) × (instrs_from n base code i.next ≡ Ok ys) × (xs ≡ i ∷ ys)
split n base code at xs h =
    let p : (i : RawInstr) × (instr_at base code at ≡ Ok i) × (rest_of n base code i ≡ Ok xs) = bind_ok (instr_at base code at) (rest_of n base code) xs h in
    let q : (ys : List RawInstr) × (instrs_from n base code p.0.next ≡ Ok ys) × (Ok (p.0 ∷ ys) ≡ Ok xs) = bind_ok (instrs_from n base code p.0.next) (λ rest. Ok (p.0 ∷ rest)) xs p.2 in
    (p.0, q.0, p.1, q.1, cc)

pub follows : (n base : ℕ) (code : List ℕ) (at : ℕ) (xs : List RawInstr) → instrs_from n base code at ≡ Ok xs → Follow at xs
unfolding instrs_from
follows zero base code at xs h = let e : [] ≡ xs = cc in subst (λ v. Follow at v) e tt
follows (suc n) base code at xs h = by_test (nat_lt at (length code)) refl (λ i ys read. follows n base code i.next ys read)
  where
    by_test : (b : Bool) → nat_lt at (length code) ≡ b → ((i : RawInstr) (ys : List RawInstr) → instrs_from n base code i.next ≡ Ok ys → Follow i.next ys) → Follow at xs
    by_test false e later = let empty : Result (List RawInstr) PlacedFault = Ok [] in let none : empty ≡ Ok xs = rw e at h in let f : [] ≡ xs = cc in subst (λ v. Follow at v) f tt
    by_test true e later =
        let p = split n base code at xs (rw e at h) in
        let here : (p.0.offset ≡ at) × (at < p.0.next) = placed_at base code at p.0 p.2 in
        subst (λ v. Follow at v) {x = p.0 ∷ p.1} (sym p.4) (here.0, here.1, later p.0 p.1 p.3)

-- some code has some instruction
pub some_of : (n base : ℕ) (code : List ℕ) (xs : List RawInstr) → 0 < n → 0 < length code → instrs_from n base code 0 ≡ Ok xs → xs ≢ []
unfolding instrs_from
some_of zero base code xs a b h e = absurd (omega arith)
some_of (suc n) base [] xs a b h e = absurd (omega arith)
some_of (suc n) base (c ∷ code) xs a b h e =
    let p = split n base (c ∷ code) 0 xs (rw (lt-ltb 0 (suc (length code)) (omega arith)) at h) in
    cc

-- what is read does not depend on how many instructions there may be, if there may be one for each byte
pub enough : (m n base : ℕ) (code : List ℕ) (at : ℕ) → length code ≤ at + n → n ≤ m → instrs_from m base code at ≡ instrs_from n base code at
unfolding instrs_from
enough zero zero base code at room le = refl
enough zero (suc n) base code at room le = absurd (omega arith)
enough (suc m) zero base code at room le = rw (le-ltb at (length code) (omega arith)) refl
enough (suc m) (suc n) base code at room le = by_test (nat_lt at (length code)) refl (λ i behind. enough m n base code i.next (omega (arith, behind)) (omega arith))
  where
    same : (r : Result RawInstr PlacedFault) → instr_at base code at ≡ r → ((i : RawInstr) → at < i.next → instrs_from m base code i.next ≡ instrs_from n base code i.next) → (r >>= rest_of m base code) ≡ (r >>= rest_of n base code)
    same (Ok i) e later = ap (λ r. r >>= (λ rest. Ok (i ∷ rest))) (later i ((placed_at base code at i e).1))
    same (Err e) is later = refl

    by_test : (b : Bool) → nat_lt at (length code) ≡ b → ((i : RawInstr) → at < i.next → instrs_from m base code i.next ≡ instrs_from n base code i.next) → instrs_from (suc m) base code at ≡ instrs_from (suc n) base code at
    by_test false e later = rw e refl
    by_test true e later = rw e (same (instr_at base code at) refl later)
