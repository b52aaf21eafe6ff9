-- A clause that is passed over is not the first one.
use Rattle.std.proofs.Common.{◌≡◌, ℕ, suc, ◌+◌, ◌<◌, ◌≤◌, List, [], ◌∷◌, Option, Bool, false, refl, sym, subst, ◌∙◌, length, drop, get_or, arith}
use Rattle.std.specs.Prelude.{◌&&◌, nat_le}
use Rattle.std.proofs.Math.Seq.{drop-cons}
use Rattle.px_program.specs.declared.program.Clause.{Clause}
use Rattle.px_verify_kinds.proofs.Lines.{by_bool}
use Rattle.px_unwind.specs.Clauses.{first_from}

fails : (after number : ℕ) (passes : Bool) → (after ≤ number → passes ≡ false) → (nat_le after number && passes) ≡ false
fails after number passes failing = by_bool (λ b. (b && passes) ≡ false) (nat_le after number) (λ from. failing (grind arith)) (λ before. refl)

-- what is first of those from one on is first of those behind it, where that one fails
pub passed : (test : Clause → Bool) (after number : ℕ) (clauses : List Clause) (other : Clause) (first : Option ℕ) → number < length clauses → (after ≤ number → test (get_or clauses number other) ≡ false)
    → first_from test after number (drop number clauses) ≡ first → first_from test after (number + 1) (drop (number + 1) clauses) ≡ first
passed test after number clauses other first less failing is =
    let here = drop-cons clauses number other less in
    let none : (nat_le after number && test (get_or clauses number other)) ≡ false = fails after number (test (get_or clauses number other)) failing in
    let step : first_from test after number (drop number clauses) ≡ first_from test after (suc number) (drop (suc number) clauses) = rw (here, none) refl in
    let behind : suc number ≡ number + 1 = omega arith in
    subst (λ at. first_from test after at (drop at clauses) ≡ first) behind (sym step ∙ is)

-- one numbered below where the search begins isn't it
pub passed_before : (test : Clause → Bool) (after number : ℕ) (clauses : List Clause) (first : Option ℕ) → number < length clauses → number < after
    → first_from test after number (drop number clauses) ≡ first → first_from test after (number + 1) (drop (number + 1) clauses) ≡ first
passed_before test after number [] first less before is = absurd (omega arith)
passed_before test after number (clause ∷ clauses) first less before is = passed test after number (clause ∷ clauses) clause first less (λ from. absurd (omega arith)) is
