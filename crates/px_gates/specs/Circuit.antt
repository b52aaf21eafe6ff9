-- Circuits: lists of inputs and gates, each of which takes the next variable.
use Rattle.std.specs.Prelude.{◌≡◌, ℕ, ◌+◌, ◌<◌, List, [], ◌∷◌}
use Rattle.px_chain.specs.Clause.{Valuation, Formula, IsOver, MeetsAll}
use Rattle.px_gates.specs.declared.gate.Gate.{Gate}
use Rattle.px_gates.specs.Gate.{inputs_of, with_gate, with_variable}

-- what takes a variable
pub data Node : Type 0 where
  Input : Node
  Output : Gate → Node

abbrev pub with_node : Formula → Node → Formula
with_node f Input = with_variable f
with_node f (Output gate) = with_gate f gate

-- a formula with a circuit's variables and clauses
abbrev pub with_circuit : Formula → List Node → Formula
with_circuit f [] = f
with_circuit f (node ∷ nodes) = with_circuit (with_node f node) nodes

-- each gate is over the variables before its own, of which the first has this number
abbrev pub IsCircuit : ℕ → List Node → Type 0
IsCircuit n [] = Unit {0}
IsCircuit n (Input ∷ nodes) = IsCircuit (n + 1) nodes
IsCircuit n (Output gate ∷ nodes) = IsOver n (inputs_of gate) × IsCircuit (n + 1) nodes

-- two assignments give the variables below a number the same values
abbrev pub Agree : ℕ → Valuation → Valuation → Type 0
Agree n a b = (v : ℕ) → v < n → a v ≡ b v

-- an assignment gives a circuit's inputs the values that another gives them
abbrev pub AgreeAtInputs : ℕ → List Node → Valuation → Valuation → Type 0
AgreeAtInputs n [] a b = Unit {0}
AgreeAtInputs n (Input ∷ nodes) a b = (a n ≡ b n) × AgreeAtInputs (n + 1) nodes a b
AgreeAtInputs n (Output gate ∷ nodes) a b = AgreeAtInputs (n + 1) nodes a b

-- the assignment goes on from one of the formula's variables, with these inputs, and meets the clauses of the formula and of the circuit
pub record GoesOn (f : Formula) (nodes : List Node) (old inputs a : Valuation) : Type 0 where
  pub same : Agree f.vars old a
  pub given : AgreeAtInputs f.vars nodes inputs a
  pub meets : MeetsAll a (with_circuit f nodes).clauses

-- one assignment goes on, and every other that does gives the same values
pub record OneGoesOn (f : Formula) (nodes : List Node) (old inputs : Valuation) : Type 0 where
  pub model : Valuation
  pub goes_on : GoesOn f nodes old inputs model
  pub no_other : (b : Valuation) → GoesOn f nodes old inputs b → Agree (with_circuit f nodes).vars model b
