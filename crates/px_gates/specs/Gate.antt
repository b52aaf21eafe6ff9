-- Gates over literals: a gate takes the next variable, and its clauses say that this has the gate's value.
use Rattle.std.specs.Prelude.{◌≡◌, ℕ, ◌+◌, ◌≤◌, List, [], ◌∷◌, ◌++◌, map, Bool, not, ◌&&◌, ◌||◌, if◌then◌else◌, slice_get, Some}
use Rattle.px_chain.specs.Clause.{Valuation, Formula, IsFormula, clause_of, complement, holds}
use Rattle.px_chain.specs.Resolution.{positive}
use Rattle.px_gates.specs.declared.gate.Gate.{Gate}
use Rattle.px_gates.specs.declared.gate.Gate.TheVariants.{And, Xor, Mux, Majority}

-- what a gate gives for the values of its inputs
abbrev pub value_of : Valuation → Gate → Bool
value_of a (And x y) = holds a x && holds a y
value_of a (Xor x y) = if holds a x then not (holds a y) else holds a y
value_of a (Mux choice x y) = if holds a choice then holds a x else holds a y
value_of a (Majority x y c) = (holds a x && holds a y) || (holds a x && holds a c) || (holds a y && holds a c)

-- the literals of a gate's clauses, in order, where z is the gate's own literal
abbrev pub literals_of : ℕ → Gate → List (List ℕ)
literals_of z (And x y) =
    (complement z ∷ x ∷ []) ∷ (complement z ∷ y ∷ []) ∷ (z ∷ complement x ∷ complement y ∷ []) ∷ []
literals_of z (Xor x y) =
    (complement z ∷ x ∷ y ∷ []) ∷ (complement z ∷ complement x ∷ complement y ∷ []) ∷ (z ∷ complement x ∷ y ∷ []) ∷ (z ∷ x ∷ complement y ∷ []) ∷ []
literals_of z (Mux choice x y) =
    (complement choice ∷ complement x ∷ z ∷ []) ∷ (complement choice ∷ x ∷ complement z ∷ [])
    ∷ (choice ∷ complement y ∷ z ∷ []) ∷ (choice ∷ y ∷ complement z ∷ []) ∷ []
literals_of z (Majority x y c) =
    (complement x ∷ complement y ∷ z ∷ []) ∷ (complement x ∷ complement c ∷ z ∷ []) ∷ (complement y ∷ complement c ∷ z ∷ [])
    ∷ (x ∷ y ∷ complement z ∷ []) ∷ (x ∷ c ∷ complement z ∷ []) ∷ (y ∷ c ∷ complement z ∷ []) ∷ []

-- the literals that a gate names
abbrev pub inputs_of : Gate → List ℕ
inputs_of (And x y) = x ∷ y ∷ []
inputs_of (Xor x y) = x ∷ y ∷ []
inputs_of (Mux choice x y) = choice ∷ x ∷ y ∷ []
inputs_of (Majority x y c) = x ∷ y ∷ c ∷ []

-- a formula with more clauses
abbrev pub with_clauses : Formula → List (List ℕ) → Formula
with_clauses f literals = record { vars = f.vars; clauses = f.clauses ++ map clause_of literals }

-- a formula with one more variable, which nothing is said of
abbrev pub with_variable : Formula → Formula
with_variable f = record { vars = f.vars + 1; clauses = f.clauses }

-- a formula with a gate, whose variable is the next
abbrev pub with_gate : Formula → Gate → Formula
with_gate f gate = with_clauses (with_variable f) (literals_of (positive f.vars) gate)

-- variable 0 is true, as the first clause says
abbrev pub base : Formula
base = record { vars = 1; clauses = (positive 0 ∷ []) ∷ [] }

-- a formula of gates: variable 0 is true
pub record IsOfGates (f : Formula) : Type 0 where
  pub formula : IsFormula f
  pub some : 1 ≤ f.vars
  pub first : slice_get f.clauses 0 ≡ Some (positive 0 ∷ [])

-- the second formula has the variables and clauses of the first, in their places, and maybe more
pub record KeepsFormula (old new : Formula) : Type 0 where
  pub vars : old.vars ≤ new.vars
  pub more : List (List ℕ)
  pub clauses : new.clauses ≡ old.clauses ++ more
