-- The first levels of a trail: which variables they assign.
use Rattle.std.proofs.Common.{◌≡◌, ℕ, zero, suc, ◌+◌, ◌≤◌, Bool, true, false, cond, eqb, List, [], ◌∷◌, Option, Some, None, ap, subst, ⊎_elim, arith}
use Rattle.std.specs.Option.{option_map}
use Rattle.px_chain.specs.Clause.{has, variable_of}
use Rattle.px_trail.specs.declared.assignment.Known.{Known}
use Rattle.px_trail.specs.Trail.{IsAssignment, Step, known_from, known_of, level_of, literals_of, next_level, up_to}
use Rattle.px_trail.proofs.Lookups.{has-known, known-has, some_cond}

level_grows : (m : ℕ) (r : Option ℕ) → m ≤ next_level m r
level_grows m None = omega arith
level_grows m (Some n) = omega arith

-- a level counts the decisions that stood before the steps
pub level_at_least : (m : ℕ) (steps : List Step) (v : ℕ) (k : Known) → known_from m steps v ≡ Some k → m ≤ k.level
level_at_least m [] v k e = absurd (cc)
level_at_least m (s ∷ steps) v k e =
    ⊎_elim
    (λ here. omega (arith, level_grows m s.reason, ap (λ (j : Known). j.level) here.1))
    (λ later. omega (arith, level_grows m s.reason, level_at_least (next_level m s.reason) steps v k later))
    (some_cond (eqb (variable_of s.literal) v) (record { literal = s.literal; level = next_level m s.reason; reason = s.reason }) k (known_from (next_level m s.reason) steps v) e)

-- what the first levels assign has one of these levels
pub level_at_most : (m level : ℕ) (steps : List Step) (v : ℕ) (k : Known) → known_from m (up_to level steps) v ≡ Some k → k.level ≤ m + level
level_at_most m zero [] v k e = absurd (cc)
level_at_most m (suc level) [] v k e = absurd (cc)
level_at_most m zero (s ∷ steps) v k e =
    elim s.reason as (λ r. let t : Step = record { literal = s.literal; reason = r } in known_from m (up_to zero (t ∷ steps)) v ≡ Some k → k.level ≤ m + zero) [
      | None ↦ λ e. absurd (cc)
      | Some n ↦ λ e. ⊎_elim
          (λ here. omega (arith, ap (λ (j : Known). j.level) here.1))
          (λ later. level_at_most m zero steps v k later)
          (some_cond (eqb (variable_of s.literal) v) (record { literal = s.literal; level = m; reason = Some n }) k (known_from m (up_to zero steps) v) e)
    ] e
level_at_most m (suc level) (s ∷ steps) v k e =
    elim s.reason as (λ r. let t : Step = record { literal = s.literal; reason = r } in known_from m (up_to (suc level) (t ∷ steps)) v ≡ Some k → k.level ≤ m + suc level) [
      | None ↦ λ e. ⊎_elim
          (λ here. omega (arith, ap (λ (j : Known). j.level) here.1))
          (λ later. omega (arith, level_at_most (m + 1) level steps v k later))
          (some_cond (eqb (variable_of s.literal) v) (record { literal = s.literal; level = m + 1; reason = None }) k (known_from (m + 1) (up_to level steps) v) e)
      | Some n ↦ λ e. ⊎_elim
          (λ here. omega (arith, ap (λ (j : Known). j.level) here.1))
          (λ later. level_at_most m (suc level) steps v k later)
          (some_cond (eqb (variable_of s.literal) v) (record { literal = s.literal; level = m; reason = Some n }) k (known_from m (up_to (suc level) steps) v) e)
    ] e

cond_same : (b : Bool) (k j : Known) (x y : Option Known) → (x ≡ Some j → y ≡ Some j) → cond b (Some k) x ≡ Some j → cond b (Some k) y ≡ Some j
cond_same true k j x y keeps e = e
cond_same false k j x y keeps e = keeps e

-- what has one of the first levels is assigned by them
pub known-up_to : (m level : ℕ) (steps : List Step) (v : ℕ) (k : Known) → k.level ≤ m + level → known_from m steps v ≡ Some k → known_from m (up_to level steps) v ≡ Some k
known-up_to m zero [] v k le e = e
known-up_to m (suc level) [] v k le e = e
known-up_to m zero (s ∷ steps) v k le e =
    elim s.reason as (λ r. let t : Step = record { literal = s.literal; reason = r } in known_from m (t ∷ steps) v ≡ Some k → known_from m (up_to zero (t ∷ steps)) v ≡ Some k) [
      | None ↦ λ e. absurd (⊎_elim
          (λ here. let same = ap (λ (j : Known). j.level) here.1 in let bad : ⊥ = omega arith in bad)
          (λ later. let least = level_at_least (m + 1) steps v k later in let bad : ⊥ = omega arith in bad)
          (some_cond (eqb (variable_of s.literal) v) (record { literal = s.literal; level = m + 1; reason = None }) k (known_from (m + 1) steps v) e))
      | Some n ↦ λ e.
          cond_same (eqb (variable_of s.literal) v) (record { literal = s.literal; level = m; reason = Some n }) k (known_from m steps v) (known_from m (up_to zero steps) v)
          (λ later. known-up_to m zero steps v k le later) e
    ] e
known-up_to m (suc level) (s ∷ steps) v k le e =
    elim s.reason as (λ r. let t : Step = record { literal = s.literal; reason = r } in known_from m (t ∷ steps) v ≡ Some k → known_from m (up_to (suc level) (t ∷ steps)) v ≡ Some k) [
      | None ↦ λ e.
          cond_same (eqb (variable_of s.literal) v) (record { literal = s.literal; level = m + 1; reason = None }) k (known_from (m + 1) steps v) (known_from (m + 1) (up_to level steps) v)
          (λ later. known-up_to (m + 1) level steps v k (omega arith) later) e
      | Some n ↦ λ e.
          cond_same (eqb (variable_of s.literal) v) (record { literal = s.literal; level = m; reason = Some n }) k (known_from m steps v) (known_from m (up_to (suc level) steps) v)
          (λ later. known-up_to m (suc level) steps v k le later) e
    ] e

some_level : (o : Option Known) (k : Known) (n : ℕ) → o ≡ Some k → option_map (λ (j : Known). j.level) o ≡ Some n → k.level ≡ n
some_level None k n e f = absurd (cc)
some_level (Some j) k n e f = cc

-- A literal whose variable's level is one of the first stands among these.
pub has-up_to : (vars level : ℕ) (steps : List Step) (l n : ℕ) → IsAssignment vars steps → has (literals_of steps) l ≡ true → level_of steps (variable_of l) ≡ Some n → n ≤ level
    → has (literals_of (up_to level steps)) l ≡ true
has-up_to vars level steps l n is there of_level le =
    let w = has-known 0 steps l is.apart there in
    let at : w.0.level ≡ n = some_level (known_of steps (variable_of l)) w.0 n w.1 of_level in
    subst (λ m. has (literals_of (up_to level steps)) m ≡ true) w.2
    (known-has 0 (up_to level steps) (variable_of l) w.0 (known-up_to 0 level steps (variable_of l) w.0 (omega arith) w.1)).0
