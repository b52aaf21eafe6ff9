-- What holds of each number of an interval, holds of a number in it.
use Rattle.std.proofs.Common.{◌≡◌, ℕ, zero, suc, ◌+◌, ◌-◌, ◌<◌, ◌≤◌, true, sym, subst, inl, inr, ⊎_elim, arith}
use Rattle.std.specs.Prelude.{◌==◌, ◌⊎◌}
use Rattle.std.proofs.lemmas.Bool.{and_parts, cases_eq, cond_both, eqb-true, leb-true}
use Rattle.px_code.specs.Body.{is_from_to}
use Rattle.px_link_opcodes.specs.Opcodes.{short_form}

-- so many numbers from the first on
abbrev pub EachFrom : (ℕ → Type 0) → ℕ → ℕ → Type 0
EachFrom P first zero = Unit {0}
EachFrom P first (suc n) = P first × EachFrom P (first + 1) n

one_of : (P : ℕ → Type 0) (first n at : ℕ) → EachFrom P first n → first ≤ at → at < first + n → P at
one_of P first zero at each least less = absurd (omega arith)
one_of P first (suc n) at each least less =
    ⊎_elim
    (λ (e : at ≡ first). subst P (sym e) each.0)
    (λ apart. one_of P (first + 1) n at each.1 (omega (arith, least, apart)) (omega (arith, less)))
    (cases_eq at first)

pub bounds : (first last at : ℕ) → is_from_to first last at ≡ true → (first ≤ at) × (at ≤ last)
bounds first last at in_it =
    let parts = and_parts _ _ in_it in
    (leb-true first at parts.0, leb-true at last parts.1)

pub one_in : (P : ℕ → Type 0) (first last at n : ℕ) → first + n ≡ last + 1 → is_from_to first last at ≡ true → EachFrom P first n → P at
one_in P first last at n count in_it each =
    let b = bounds first last at in_it in
    one_of P first n at each b.0 (omega (arith, b.1, count))

-- the two opcodes of a branch
pub two_forms : (opcode short : ℕ) → (short_form opcode == short) ≡ true → (opcode ≡ short) ⊎ (opcode ≡ short + 0x0D)
two_forms opcode short e =
    cond_both (is_from_to 0x38 0x44 opcode) (opcode - 0x0D) opcode (λ n. (n ≡ short) → (opcode ≡ short) ⊎ (opcode ≡ short + 0x0D))
    (λ long same. let b = bounds 0x38 0x44 opcode long in inr (omega (arith, b.0, same)))
    (λ _ same. inl same)
    (eqb-true (short_form opcode) short e)
