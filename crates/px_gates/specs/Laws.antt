-- Laws of gates and circuits.
use Rattle.std.specs.Prelude.{◌≡◌, ℕ, ◌+◌, ◌*◌, ◌^◌, List, [], ◌∷◌, ◌++◌, length}
use Rattle.px_chain.specs.Clause.{Valuation, Formula, IsFormula, IsOver, MeetsAll, holds}
use Rattle.px_chain.specs.Resolution.{positive}
use Rattle.px_gates.specs.declared.gate.Gate.{Gate}
use Rattle.px_gates.specs.Circuit.{IsCircuit, Node, OneGoesOn, with_circuit}
use Rattle.px_gates.specs.Gate.{value_of, with_gate}
use Rattle.px_gates.specs.Spelling.{bit, complements, spelled}
use Rattle.px_gates.specs.Sum.{sum_bits, sum_carry, sum_circuit}

-- where an assignment meets the clauses, a gate's literal has the gate's value
abbrev pub GateHasItsValue : Type 0
GateHasItsValue = (f : Formula) (gate : Gate) (a : Valuation) → MeetsAll a (with_gate f gate).clauses → holds a (positive f.vars) ≡ value_of a gate

-- a circuit neither loses nor invents a solution: for each values of its inputs each assignment that meets the formula goes on in one way
abbrev pub CircuitHasOneModel : Type 0
CircuitHasOneModel = (f : Formula) (nodes : List Node) (old inputs : Valuation) → IsFormula f → IsCircuit f.vars nodes → MeetsAll old f.clauses
    → OneGoesOn f nodes old inputs

-- where an assignment meets the clauses of a sum, its bits and its carry spell the sum of the numbers and the carry
abbrev pub SumIsSum : Type 0
SumIsSum = (f : Formula) (xs ys : List ℕ) (carry : ℕ) (a : Valuation) → length xs ≡ length ys
    → MeetsAll a (with_circuit f (sum_circuit f.vars xs ys carry)).clauses
    → spelled a (sum_bits f.vars (length xs)) + 2 ^ length xs * bit (holds a (sum_carry f.vars (length xs) carry))
    ≡ spelled a xs + spelled a ys + bit (holds a carry)

-- a sum is a circuit over the variables of its numbers
abbrev pub SumIsCircuit : Type 0
SumIsCircuit = (n : ℕ) (xs ys : List ℕ) (carry : ℕ) → IsOver n xs → IsOver n ys → IsOver n (carry ∷ []) → IsCircuit n (sum_circuit n xs ys carry)

-- the number of two lists of literals, of which the second has the higher bits
abbrev pub SpelledOfAppend : Type 0
SpelledOfAppend = (a : Valuation) (xs ys : List ℕ) → spelled a (xs ++ ys) ≡ spelled a xs + 2 ^ length xs * spelled a ys

-- the number of the complements
abbrev pub SpelledOfComplements : Type 0
SpelledOfComplements = (a : Valuation) (xs : List ℕ) → spelled a (complements xs) + spelled a xs + 1 ≡ 2 ^ length xs
