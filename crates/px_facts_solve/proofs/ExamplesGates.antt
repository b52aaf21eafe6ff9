-- Gates: the clauses that each appends, and the one value that it has for each values of its inputs.
use Rattle.std.proofs.Common.{◌≡◌, ℕ, ◌+◌, ◌*◌, Bool, true, false, List, [], ◌∷◌, ◌++◌, map, refl}
use Rattle.px_chain.specs.Clause.{Formula}
use Rattle.px_gates.specs.declared.gate.Gate.{Gate}
use Rattle.px_gates.specs.declared.gate.Gate.TheVariants.{And, Xor, Mux, Majority}
use Rattle.px_gates.specs.Gate.{base, value_of, with_clauses, with_gate, with_variable}
use Rattle.px_facts_solve.proofs.Assignments.{assignment, models, numbers_from}

abbrev formula : ℕ → List (List ℕ) → Formula
formula vars clauses = record { vars = vars; clauses = clauses }

-- variables 1 to 3 are inputs
abbrev three_inputs : Formula
three_inputs = with_variable (with_variable (with_variable base))

-- the formula of a gate over the three inputs, after the clause of variable 0: the gate's literal is 8
abbrev with_clauses_of_gate : List (List ℕ) → Formula
with_clauses_of_gate clauses = formula 5 ((0 ∷ []) ∷ clauses)

-- a gate's values, where variable 0 is true and the bits of 0 to 7 are the inputs, that of variable 1 lowest
abbrev values : Gate → List Bool
values gate = map (λ (inputs : ℕ). value_of (assignment (1 + 2 * inputs)) gate) (numbers_from 0 8)

-- Variable 0 is true. A body that says the other sign has the clause 1 ∷ [].
constant_is_true : base ≡ formula 1 ((0 ∷ []) ∷ [])
constant_is_true = refl

-- A new variable, of which nothing is said. A body that doesn't take it leaves one variable.
input_takes_a_variable : with_variable base ≡ formula 2 ((0 ∷ []) ∷ [])
input_takes_a_variable = refl

-- A literal that is required: variable 1 doesn't hold. A body that requires the complement appends 2 ∷ [].
required_literal : with_clauses (with_variable base) ((3 ∷ []) ∷ []) ≡ formula 2 ((0 ∷ []) ∷ (3 ∷ []) ∷ [])
required_literal = refl

-- The clauses of each gate over variables 1 to 3, in order. A gate takes the next variable, 4: its literal is 8, and the complement 9.
-- A body with one wrong sign has 3 ∷ 4 ∷ 8 ∷ [] last; one that doesn't take the variable leaves four.
clauses_of_and : with_gate three_inputs (And 2 4) ≡ with_clauses_of_gate ((2 ∷ 9 ∷ []) ∷ (4 ∷ 9 ∷ []) ∷ (3 ∷ 5 ∷ 8 ∷ []) ∷ [])
clauses_of_and = refl

-- A body with one wrong sign has 2 ∷ 4 ∷ 8 ∷ [] last.
clauses_of_xor :
    with_gate three_inputs (Xor 2 4)
    ≡ with_clauses_of_gate ((2 ∷ 4 ∷ 9 ∷ []) ∷ (3 ∷ 5 ∷ 9 ∷ []) ∷ (3 ∷ 4 ∷ 8 ∷ []) ∷ (2 ∷ 5 ∷ 8 ∷ []) ∷ [])
clauses_of_xor = refl

-- A body with one wrong sign has 4 ∷ 6 ∷ 8 ∷ [] third.
clauses_of_mux :
    with_gate three_inputs (Mux 6 2 4)
    ≡ with_clauses_of_gate ((3 ∷ 7 ∷ 8 ∷ []) ∷ (2 ∷ 7 ∷ 9 ∷ []) ∷ (5 ∷ 6 ∷ 8 ∷ []) ∷ (4 ∷ 6 ∷ 9 ∷ []) ∷ [])
clauses_of_mux = refl

-- A body with one wrong sign has 4 ∷ 6 ∷ 8 ∷ [] last.
clauses_of_majority :
    with_gate three_inputs (Majority 2 4 6)
    ≡ with_clauses_of_gate
    ((3 ∷ 5 ∷ 8 ∷ []) ∷ (3 ∷ 7 ∷ 8 ∷ []) ∷ (5 ∷ 7 ∷ 8 ∷ []) ∷ (2 ∷ 4 ∷ 9 ∷ []) ∷ (2 ∷ 6 ∷ 9 ∷ []) ∷ (4 ∷ 6 ∷ 9 ∷ []) ∷ [])
clauses_of_majority = refl

-- neither variable 1 nor variable 2 holds
clauses_of_and_of_negated : with_gate three_inputs (And 3 5) ≡ with_clauses_of_gate ((3 ∷ 9 ∷ []) ∷ (5 ∷ 9 ∷ []) ∷ (2 ∷ 4 ∷ 8 ∷ []) ∷ [])
clauses_of_and_of_negated = refl

-- one input twice: its literals stand once in a clause, and no clause is left out
clauses_of_xor_of_one_input :
    with_gate three_inputs (Xor 2 2)
    ≡ with_clauses_of_gate ((2 ∷ 9 ∷ []) ∷ (3 ∷ 9 ∷ []) ∷ (2 ∷ 3 ∷ 8 ∷ []) ∷ (2 ∷ 3 ∷ 8 ∷ []) ∷ [])
clauses_of_xor_of_one_input = refl

clauses_of_and_of_complements : with_gate three_inputs (And 2 3) ≡ with_clauses_of_gate ((2 ∷ 9 ∷ []) ∷ (3 ∷ 9 ∷ []) ∷ (2 ∷ 3 ∷ 8 ∷ []) ∷ [])
clauses_of_and_of_complements = refl

-- constants: the choice is true, and the other input false
clauses_of_mux_of_constants :
    with_gate three_inputs (Mux 0 2 1)
    ≡ with_clauses_of_gate ((1 ∷ 3 ∷ 8 ∷ []) ∷ (1 ∷ 2 ∷ 9 ∷ []) ∷ (0 ∷ 8 ∷ []) ∷ (0 ∷ 1 ∷ 9 ∷ []) ∷ [])
clauses_of_mux_of_constants = refl

-- The value of each gate for all inputs.
values_of_and : values (And 2 4) ≡ false ∷ false ∷ false ∷ true ∷ false ∷ false ∷ false ∷ true ∷ []
values_of_and = refl

values_of_xor : values (Xor 2 4) ≡ false ∷ true ∷ true ∷ false ∷ false ∷ true ∷ true ∷ false ∷ []
values_of_xor = refl

values_of_mux : values (Mux 6 2 4) ≡ false ∷ false ∷ true ∷ true ∷ false ∷ true ∷ false ∷ true ∷ []
values_of_mux = refl

values_of_majority : values (Majority 2 4 6) ≡ false ∷ false ∷ false ∷ true ∷ false ∷ true ∷ true ∷ true ∷ []
values_of_majority = refl

values_of_and_of_negated : values (And 3 5) ≡ true ∷ false ∷ false ∷ false ∷ true ∷ false ∷ false ∷ false ∷ []
values_of_and_of_negated = refl

values_of_xor_of_one_input : values (Xor 2 2) ≡ false ∷ false ∷ false ∷ false ∷ false ∷ false ∷ false ∷ false ∷ []
values_of_xor_of_one_input = refl

values_of_and_of_complements : values (And 2 3) ≡ false ∷ false ∷ false ∷ false ∷ false ∷ false ∷ false ∷ false ∷ []
values_of_and_of_complements = refl

values_of_mux_of_constants : values (Mux 0 2 1) ≡ false ∷ true ∷ false ∷ true ∷ false ∷ true ∷ false ∷ true ∷ []
values_of_mux_of_constants = refl

-- The assignments that meet all clauses: 1 for variable 0, which is true in each, 2, 4 and 8 for the inputs, and 16 where the gate's variable holds.
-- There is one for each values of the inputs, and in it the gate's variable has the gate's value.
models_of_and : models (with_gate three_inputs (And 2 4)) ≡ 1 ∷ 3 ∷ 5 ∷ 9 ∷ 11 ∷ 13 ∷ 23 ∷ 31 ∷ []
models_of_and = refl

models_of_xor : models (with_gate three_inputs (Xor 2 4)) ≡ 1 ∷ 7 ∷ 9 ∷ 15 ∷ 19 ∷ 21 ∷ 27 ∷ 29 ∷ []
models_of_xor = refl

models_of_mux : models (with_gate three_inputs (Mux 6 2 4)) ≡ 1 ∷ 3 ∷ 9 ∷ 13 ∷ 21 ∷ 23 ∷ 27 ∷ 31 ∷ []
models_of_mux = refl

models_of_majority : models (with_gate three_inputs (Majority 2 4 6)) ≡ 1 ∷ 3 ∷ 5 ∷ 9 ∷ 23 ∷ 27 ∷ 29 ∷ 31 ∷ []
models_of_majority = refl

models_of_and_of_negated : models (with_gate three_inputs (And 3 5)) ≡ 3 ∷ 5 ∷ 7 ∷ 11 ∷ 13 ∷ 15 ∷ 17 ∷ 25 ∷ []
models_of_and_of_negated = refl

models_of_xor_of_one_input : models (with_gate three_inputs (Xor 2 2)) ≡ 1 ∷ 3 ∷ 5 ∷ 7 ∷ 9 ∷ 11 ∷ 13 ∷ 15 ∷ []
models_of_xor_of_one_input = refl

models_of_and_of_complements : models (with_gate three_inputs (And 2 3)) ≡ 1 ∷ 3 ∷ 5 ∷ 7 ∷ 9 ∷ 11 ∷ 13 ∷ 15 ∷ []
models_of_and_of_complements = refl

models_of_mux_of_constants : models (with_gate three_inputs (Mux 0 2 1)) ≡ 1 ∷ 5 ∷ 9 ∷ 13 ∷ 19 ∷ 23 ∷ 27 ∷ 31 ∷ []
models_of_mux_of_constants = refl
