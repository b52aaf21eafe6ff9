-- Literals, clauses and formulas, and the assignments that meet them.
-- A literal is twice its variable, and one more where it is negated.
use Rattle.std.specs.Prelude.{◌≡◌, ℕ, ◌+◌, ◌-◌, ◌/◌, ◌%◌, ◌<◌, ◌==◌, not, nat_lt, List, [], ◌∷◌, Bool, true, if◌then◌else◌}
use Rattle.std.specs.List.{AllByRecursion, list_any}

abbrev pub variable_of : ℕ → ℕ
variable_of l = l / 2

abbrev pub is_negated : ℕ → Bool
is_negated l = l % 2 == 1

-- the literal that holds exactly where the other doesn't
abbrev pub complement : ℕ → ℕ
complement l = if is_negated l then l - 1 else l + 1

-- the literal stands in the clause
abbrev pub has : List ℕ → ℕ → Bool
has clause l = list_any (λ m. m == l) clause

-- a literal put into a clause whose literals ascend, once
abbrev pub with_literal : ℕ → List ℕ → List ℕ
with_literal l [] = l ∷ []
with_literal l (m ∷ clause) =
    if nat_lt l m then l ∷ m ∷ clause
    else if l == m then m ∷ clause
    else m ∷ with_literal l clause

-- the literals of a list in ascending order, each once: the clause that the list stands for
abbrev pub clause_of : List ℕ → List ℕ
clause_of [] = []
clause_of (l ∷ literals) = with_literal l (clause_of literals)

-- the clause's variables are below a number
abbrev pub IsOver : ℕ → List ℕ → Type 0
IsOver vars clause = AllByRecursion (λ l. variable_of l < vars) clause

-- the literals ascend, and so no two are one
abbrev pub Ascends : List ℕ → Type 0
Ascends [] = Unit {0}
Ascends (l ∷ clause) = AllByRecursion (λ m. l < m) clause × Ascends clause

-- a formula: its number of variables, and its clauses by number
pub record Formula : Type 0 where
  pub vars : ℕ
  pub clauses : List (List ℕ)

-- each clause ascends and is over the formula's variables
abbrev pub IsFormula : Formula → Type 0
IsFormula f = AllByRecursion (λ clause. Ascends clause × IsOver f.vars clause) f.clauses

-- an assignment has a truth value for each variable
abbrev pub Valuation : Type 0
Valuation = ℕ → Bool

abbrev pub holds : Valuation → ℕ → Bool
holds a l = if is_negated l then not (a (variable_of l)) else a (variable_of l)

-- some literal of the clause holds
abbrev pub meets : Valuation → List ℕ → Bool
meets a clause = list_any (holds a) clause

-- the assignment meets every clause
abbrev pub MeetsAll : Valuation → List (List ℕ) → Type 0
MeetsAll a clauses = AllByRecursion (λ clause. meets a clause ≡ true) clauses
