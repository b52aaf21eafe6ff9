-- Sums: a full adder for each bit, that of lowest weight first, and the numbers that literals spell.
use Rattle.std.proofs.Common.{◌≡◌, ℕ, true, [], ◌∷◌, refl}
use Rattle.px_chain.specs.Clause.{Formula, holds}
use Rattle.px_gates.specs.declared.gate.Gate.TheVariants.{Xor, Majority}
use Rattle.px_gates.specs.Circuit.{Node, Input, Output, with_circuit}
use Rattle.px_gates.specs.Gate.{base}
use Rattle.px_gates.specs.Spelling.{complements, spelled}
use Rattle.px_gates.specs.Sum.{sum_bits, sum_carry, sum_circuit}
use Rattle.px_facts_solve.proofs.Assignments.{assignment, models}

-- variables 1 to 3 are inputs
abbrev three_inputs : Formula
three_inputs = with_circuit base (Input ∷ Input ∷ Input ∷ [])

-- A full adder, whose first gate has variable 4: the bits are variables 1 and 2, and the carry in is variable 3.
-- A body that takes the carry out of other bits has Majority 2 4 8 last.
gates_of_one_bit : sum_circuit 4 (2 ∷ []) (4 ∷ []) 6 ≡ Output (Xor 2 4) ∷ Output (Xor 8 6) ∷ Output (Majority 2 4 6) ∷ []
gates_of_one_bit = refl

-- its bit and its carry out
bits_of_one_bit : sum_bits 4 1 ≡ 10 ∷ []
bits_of_one_bit = refl

carry_of_one_bit : sum_carry 4 1 6 ≡ 12
carry_of_one_bit = refl

-- The assignments that meet its clauses: 1 for variable 0, 2, 4 and 8 for the inputs, 16 where one of both bits holds, 32 for the sum's bit and 64
-- for the carry out. A body that takes the carry of other bits has 115 and 117 in place of 51 and 53.
models_of_one_bit : models (with_circuit three_inputs (sum_circuit 4 (2 ∷ []) (4 ∷ []) 6)) ≡ 1 ∷ 41 ∷ 51 ∷ 53 ∷ 71 ∷ 91 ∷ 93 ∷ 111 ∷ []
models_of_one_bit = refl

-- Two bits: the second adder takes the carry of the first, 6. A body that doesn't pass it on has Xor 8 1 and Majority 0 1 1 in the second place.
gates_of_two_bits :
    sum_circuit 1 (0 ∷ 0 ∷ []) (0 ∷ 1 ∷ []) 1
    ≡ Output (Xor 0 0) ∷ Output (Xor 2 1) ∷ Output (Majority 0 0 1) ∷ Output (Xor 0 1) ∷ Output (Xor 8 6) ∷ Output (Majority 0 1 6) ∷ []
gates_of_two_bits = refl

bits_of_two_bits : sum_bits 1 2 ≡ 4 ∷ 10 ∷ []
bits_of_two_bits = refl

carry_of_two_bits : sum_carry 1 2 1 ≡ 12
carry_of_two_bits = refl

-- 3 and 1, of constants: one assignment meets the clauses, and in it the bits spell 0 and the carry holds
model_of_three_and_one : models (with_circuit base (sum_circuit 1 (0 ∷ 0 ∷ []) (0 ∷ 1 ∷ []) 1)) ≡ 89 ∷ []
model_of_three_and_one = refl

bits_of_three_and_one : spelled (assignment 89) (sum_bits 1 2) ≡ 0
bits_of_three_and_one = refl

carry_of_three_and_one : holds (assignment 89) (sum_carry 1 2 1) ≡ true
carry_of_three_and_one = refl

-- Numbers without bits have the carry in as their carry out, and take no variable.
no_gates : sum_circuit 4 [] [] 6 ≡ []
no_gates = refl

no_bits : sum_bits 4 0 ≡ []
no_bits = refl

carry_in_is_carry_out : sum_carry 4 0 6 ≡ 6
carry_in_is_carry_out = refl

-- The number that literals spell: variables 0, 2 and 3 hold in 13. A body that has the highest bit first gives 3 for the first.
spelled_by_variables : spelled (assignment 13) (2 ∷ 4 ∷ 6 ∷ []) ≡ 6
spelled_by_variables = refl

spelled_by_negated : spelled (assignment 13) (3 ∷ 4 ∷ 7 ∷ 0 ∷ []) ≡ 11
spelled_by_negated = refl

spelled_by_nothing : spelled (assignment 13) [] ≡ 0
spelled_by_nothing = refl

complements_of_literals : complements (2 ∷ 5 ∷ 6 ∷ []) ≡ 3 ∷ 4 ∷ 7 ∷ []
complements_of_literals = refl

spelled_by_complements : spelled (assignment 13) (complements (2 ∷ 4 ∷ 6 ∷ [])) ≡ 1
spelled_by_complements = refl
