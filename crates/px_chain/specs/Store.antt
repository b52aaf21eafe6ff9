-- Clauses one after another in a list of literals, with the place behind each.
use Rattle.std.specs.Prelude.{◌≡◌, ℕ, zero, suc, slice_index, ◌-◌, ◌≤◌, ◌^◌, List, [], ◌∷◌, length, take, drop}
use Rattle.px_chain.specs.Clause.{Formula, IsFormula}

-- the clauses between these ends, of which the first begins at a place
abbrev pub clauses_between : List ℕ → ℕ → List ℕ → List (List ℕ)
clauses_between literals start [] = []
clauses_between literals start (end ∷ ends) = take (end - start) (drop start literals) ∷ clauses_between literals end ends

abbrev pub formula_of : ℕ → List ℕ → List ℕ → Formula
formula_of vars literals ends = record { vars = vars; clauses = clauses_between literals 0 ends }

-- where the clause of a number begins
abbrev pub start_in : ℕ → List ℕ → ℕ → ℕ
start_in start ends zero = start
start_in start ends (suc n) = slice_index ends n

-- the ends ascend, from a place to the list's end
abbrev pub Ascend : ℕ → List ℕ → List ℕ → Type 0
Ascend start literals [] = start ≡ length literals
Ascend start literals (end ∷ ends) = (start ≤ end) × (end ≤ length literals) × Ascend end literals ends

pub record IsStored (vars : ℕ) (literals ends : List ℕ) : Type 0 where
  pub ends_ascend : Ascend 0 literals ends
  pub formula : IsFormula (formula_of vars literals ends)
  pub few : vars ≤ 2 ^ 31
