-- The assignments that meet a formula, each by the number of its bits: that of variable 0 has the lowest weight.
use Rattle.std.proofs.Common.{ℕ, zero, suc, ◌+◌, ◌/◌, ◌%◌, ◌^◌, ◌==◌, Bool, List, [], ◌∷◌}
use Rattle.std.specs.List.{filter, list_all}
use Rattle.px_chain.specs.Clause.{Formula, Valuation, meets}

-- the assignment of a number's bits
abbrev pub assignment : ℕ → Valuation
assignment bits variable = (bits / (2 ^ variable)) % 2 == 1

-- so many numbers from a first one
abbrev pub numbers_from : ℕ → ℕ → List ℕ
numbers_from first zero = []
numbers_from first (suc count) = first ∷ numbers_from (first + 1) count

-- whether the assignment of a number's bits meets every clause
abbrev pub is_met : Formula → ℕ → Bool
is_met f bits = list_all (meets (assignment bits)) f.clauses

-- the assignments that do
abbrev pub models : Formula → List ℕ
models f = filter (is_met f) (numbers_from 0 (2 ^ f.vars))
