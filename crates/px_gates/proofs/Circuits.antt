-- Circuits: their variables and clauses, circuits one after another, and that a circuit has one model for each values of its inputs.
use Rattle.std.proofs.Common.{◌≡◌, ℕ, suc, ◌+◌, ◌≤◌, Bool, cond, eqb, List, [], ◌∷◌, ◌++◌, length, map, refl, sym, ap, ◌∙◌, subst, ⊎_elim, arith}
use Rattle.std.proofs.lemmas.Bool.{eq-eqb, ne_eqb, cond-true, cond-false, cases_lt}
use Rattle.px_chain.specs.Clause.{Valuation, Formula, IsFormula, IsOver, MeetsAll, clause_of}
use Rattle.px_chain.specs.Resolution.{positive}
use Rattle.px_gates.specs.declared.gate.Gate.{Gate}
use Rattle.px_gates.specs.Circuit.{Agree, IsCircuit, Node, Input, Output, OneGoesOn, with_circuit, with_node}
use Rattle.px_gates.specs.Gate.{IsOfGates, KeepsFormula, inputs_of, literals_of, value_of, with_gate, with_variable}
use Rattle.px_gates.proofs.Formulas.{IsFormula-gate, IsFormula-variable, IsOfGates-kept, KeepsFormula-gate, KeepsFormula-same, KeepsFormula-trans, KeepsFormula-variable, MeetsAll-kept}
use Rattle.px_gates.proofs.Literals.{MeetsAll-agree, MeetsAll-append, MeetsAll-clauses, holds-positive}
use Rattle.px_gates.proofs.GateValues.{gate-met, gate-value, value_of-agree}

-- ---- circuits one after another

pub with_circuit-append : (f : Formula) (nodes more : List Node) → with_circuit f (nodes ++ more) ≡ with_circuit (with_circuit f nodes) more
with_circuit-append f [] more = refl
with_circuit-append f (node ∷ nodes) more = with_circuit-append (with_node f node) nodes more

vars-with_node : (f : Formula) (node : Node) → (with_node f node).vars ≡ f.vars + 1
vars-with_node f Input = refl
vars-with_node f (Output gate) = refl

pub vars-with_circuit : (f : Formula) (nodes : List Node) → (with_circuit f nodes).vars ≡ f.vars + length nodes
vars-with_circuit f [] = omega arith
vars-with_circuit f (node ∷ nodes) = let here = vars-with_node f node in let rest = vars-with_circuit (with_node f node) nodes in omega arith

-- gates over the variables before their own, one circuit after another
pub IsCircuit-append : (n : ℕ) (nodes more : List Node) → IsCircuit n nodes → IsCircuit (n + length nodes) more → IsCircuit n (nodes ++ more)
IsCircuit-append n [] more front back = let same : n + 0 ≡ n = omega arith in subst (λ k. IsCircuit k more) same back
IsCircuit-append n (Input ∷ nodes) more front back =
    let same : n + suc (length nodes) ≡ n + 1 + length nodes = omega arith in IsCircuit-append (n + 1) nodes more front (subst (λ k. IsCircuit k more) same back)
IsCircuit-append n (Output gate ∷ nodes) more front back =
    let same : n + suc (length nodes) ≡ n + 1 + length nodes = omega arith in
    (front.0, IsCircuit-append (n + 1) nodes more front.1 (subst (λ k. IsCircuit k more) same back))

pub IsCircuit-front : (n : ℕ) (nodes more : List Node) → IsCircuit n (nodes ++ more) → IsCircuit n nodes
IsCircuit-front n [] more circuit = tt
IsCircuit-front n (Input ∷ nodes) more circuit = IsCircuit-front (n + 1) nodes more circuit
IsCircuit-front n (Output gate ∷ nodes) more circuit = (circuit.0, IsCircuit-front (n + 1) nodes more circuit.1)

-- ---- what is kept

KeepsFormula-node : (f : Formula) (node : Node) → KeepsFormula f (with_node f node)
KeepsFormula-node f Input = KeepsFormula-variable f
KeepsFormula-node f (Output gate) = KeepsFormula-gate f gate

-- a circuit keeps the formula that it goes on from
pub KeepsFormula-circuit : (f : Formula) (nodes : List Node) → KeepsFormula f (with_circuit f nodes)
KeepsFormula-circuit f [] = KeepsFormula-same f
KeepsFormula-circuit f (node ∷ nodes) = KeepsFormula-trans f (with_node f node) (with_circuit (with_node f node) nodes) (KeepsFormula-node f node) (KeepsFormula-circuit (with_node f node) nodes)

-- what meets a circuit meets the formula that it goes on from
pub MeetsAll-before : (a : Valuation) (f : Formula) (nodes : List Node) → MeetsAll a (with_circuit f nodes).clauses → MeetsAll a f.clauses
MeetsAll-before a f nodes = MeetsAll-kept a f (with_circuit f nodes) (KeepsFormula-circuit f nodes)

-- what meets a circuit meets its front
pub MeetsAll-circuit_front : (a : Valuation) (f : Formula) (nodes more : List Node) → MeetsAll a (with_circuit f (nodes ++ more)).clauses
    → MeetsAll a (with_circuit f nodes).clauses
MeetsAll-circuit_front a f nodes more met =
    MeetsAll-before a (with_circuit f nodes) more (subst (λ (g : Formula). MeetsAll a g.clauses) (with_circuit-append f nodes more) met)

pub IsFormula-circuit : (f : Formula) (nodes : List Node) → IsCircuit f.vars nodes → IsFormula f → IsFormula (with_circuit f nodes)
IsFormula-circuit f [] circuit is = is
IsFormula-circuit f (Input ∷ nodes) circuit is = IsFormula-circuit (with_variable f) nodes circuit (IsFormula-variable f is)
IsFormula-circuit f (Output gate ∷ nodes) circuit is = IsFormula-circuit (with_gate f gate) nodes circuit.1 (IsFormula-gate f gate circuit.0 is)

pub IsOfGates-circuit : (f : Formula) (nodes : List Node) → IsCircuit f.vars nodes → IsOfGates f → IsOfGates (with_circuit f nodes)
IsOfGates-circuit f nodes circuit is =
    IsOfGates-kept f (with_circuit f nodes) (KeepsFormula-circuit f nodes) (IsFormula-circuit f nodes circuit is.formula) is

-- ---- one model

-- an assignment with another value at one variable
abbrev with_value : Valuation → ℕ → Bool → Valuation
with_value a v value w = cond (eqb w v) value (a w)

with_value-here : (a : Valuation) (v : ℕ) (value : Bool) → with_value a v value v ≡ value
with_value-here a v value = cond-true (eqb v v) value (a v) (eq-eqb v v refl)

with_value-before : (a : Valuation) (v : ℕ) (value : Bool) → Agree v a (with_value a v value)
with_value-before a v value w lt = sym (cond-false (eqb w v) value (a w) (ne_eqb w v (λ e. omega arith)))

pub Agree-sym : (n : ℕ) (a b : Valuation) → Agree n a b → Agree n b a
Agree-sym n a b agree v lt = sym (agree v lt)

pub Agree-trans : (n : ℕ) (a b c : Valuation) → Agree n a b → Agree n b c → Agree n a c
Agree-trans n a b c front back v lt = front v lt ∙ back v lt

pub Agree-fewer : (n more : ℕ) (a b : Valuation) → n ≤ more → Agree more a b → Agree n a b
Agree-fewer n more a b le agree v lt = agree v (omega arith)

-- one variable more
pub Agree-more : (n : ℕ) (a b : Valuation) → Agree n a b → a n ≡ b n → Agree (n + 1) a b
Agree-more n a b agree here v lt = ⊎_elim (λ before. agree v before) (λ past. let e : v ≡ n = omega arith in ap a e ∙ here ∙ ap b (sym e)) (cases_lt v n)

-- an assignment that meets the formula, with the gate's value at the next variable, meets the gate's clauses
pub gate-extends : (f : Formula) (gate : Gate) (a b : Valuation) → IsFormula f → IsOver f.vars (inputs_of gate) → MeetsAll a f.clauses → Agree f.vars a b
    → b f.vars ≡ value_of a gate → MeetsAll b (with_gate f gate).clauses
gate-extends f gate a b is over met agree value =
    let own = holds-positive b f.vars ∙ value ∙ value_of-agree f.vars a b agree gate over in
    let literals = literals_of (positive f.vars) gate in
    MeetsAll-append b f.clauses (map clause_of literals) (MeetsAll-agree f.vars a b agree f.clauses is met)
    (MeetsAll-clauses b literals (gate-met b (positive f.vars) gate own))

-- an input more before a circuit that has one model
one-input : (f : Formula) (nodes : List Node) (old inputs next : Valuation) → Agree f.vars old next → next f.vars ≡ inputs f.vars
    → OneGoesOn (with_variable f) nodes next inputs → OneGoesOn f (Input ∷ nodes) old inputs
one-input f nodes old inputs next before here one = record {
  model = one.model;
  goes_on = record {
    same = Agree-trans f.vars old next one.model before (Agree-fewer f.vars (f.vars + 1) next one.model (omega arith) one.goes_on.same);
    given = (sym here ∙ one.goes_on.same f.vars (omega arith), one.goes_on.given);
    meets = one.goes_on.meets;
  };
  no_other = λ b goes. one.no_other b (record {
    same = Agree-more f.vars next b (Agree-trans f.vars next old b (Agree-sym f.vars old next before) goes.same) (here ∙ goes.given.0);
    given = goes.given.1;
    meets = goes.meets;
  });
}

-- a gate more before a circuit that has one model
one-output : (f : Formula) (gate : Gate) (nodes : List Node) (old inputs next : Valuation) → IsOver f.vars (inputs_of gate) → Agree f.vars old next
    → next f.vars ≡ value_of old gate → OneGoesOn (with_gate f gate) nodes next inputs → OneGoesOn f (Output gate ∷ nodes) old inputs
one-output f gate nodes old inputs next over before here one = record {
  model = one.model;
  goes_on = record {
    same = Agree-trans f.vars old next one.model before (Agree-fewer f.vars (f.vars + 1) next one.model (omega arith) one.goes_on.same);
    given = one.goes_on.given;
    meets = one.goes_on.meets;
  };
  no_other = λ b goes.
      let value = gate-value f gate b (MeetsAll-before b (with_gate f gate) nodes goes.meets) in
      let there : b f.vars ≡ value_of old gate = sym (holds-positive b f.vars) ∙ value ∙ sym (value_of-agree f.vars old b goes.same gate over) in
      one.no_other b (record {
        same = Agree-more f.vars next b (Agree-trans f.vars next old b (Agree-sym f.vars old next before) goes.same) (here ∙ sym there);
        given = goes.given;
        meets = goes.meets;
      });
}

-- for each values of its inputs an assignment that meets the formula goes on over a circuit in one way
pub one-model : (f : Formula) (nodes : List Node) (old inputs : Valuation) → IsFormula f → IsCircuit f.vars nodes → MeetsAll old f.clauses → OneGoesOn f nodes old inputs
one-model f [] old inputs is circuit met = record {
  model = old;
  goes_on = record { same = λ v lt. refl; given = tt; meets = met };
  no_other = λ b goes. goes.same;
}
one-model f (Input ∷ nodes) old inputs is circuit met =
    let next = with_value old f.vars (inputs f.vars) in
    let before = with_value-before old f.vars (inputs f.vars) in
    one-input f nodes old inputs next before (with_value-here old f.vars (inputs f.vars))
    (one-model (with_variable f) nodes next inputs (IsFormula-variable f is) circuit (MeetsAll-agree f.vars old next before f.clauses is met))
one-model f (Output gate ∷ nodes) old inputs is circuit met =
    let next = with_value old f.vars (value_of old gate) in
    let before = with_value-before old f.vars (value_of old gate) in
    let here = with_value-here old f.vars (value_of old gate) in
    one-output f gate nodes old inputs next circuit.0 before here
    (one-model (with_gate f gate) nodes next inputs (IsFormula-gate f gate circuit.0 is) circuit.1 (gate-extends f gate old next is circuit.0 met before here))
