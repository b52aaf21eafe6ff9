-- Resolution (Robinson, 1965), and refutations: lists of chains that end with the empty clause.
use Rattle.std.specs.Prelude.{◌≡◌, ℕ, ◌+◌, ◌*◌, ◌==◌, ◌&&◌, not, List, [], ◌∷◌, ◌++◌, if◌then◌else◌, filter, Option, Some, None, Result, Ok, Err, slice_get}
use Rattle.std.specs.Str.{bytes_eq}
use Rattle.px_chain.specs.declared.chain.Chain.{Chain}
use Rattle.px_chain.specs.declared.chain.Why.{Why}
use Rattle.px_chain.specs.declared.chain.Why.TheVariants as whys
use Rattle.px_chain.specs.Clause.{clause_of, has}

abbrev pub positive : ℕ → ℕ
positive variable = 2 * variable

abbrev pub negative : ℕ → ℕ
negative variable = 2 * variable + 1

abbrev pub without : List ℕ → ℕ → List ℕ
without clause l = filter (λ m. not (m == l)) clause

-- what two clauses with a literal and its complement give: both without these
abbrev pub joined : List ℕ → ℕ → List ℕ → ℕ → List ℕ
joined a l c m = clause_of (without a l ++ without c m)

-- The resolvent of a and c on a variable that stands positive in the one and negative in the other; a's positive literal comes first.
abbrev pub resolvent : List ℕ → ℕ → List ℕ → Option (List ℕ)
resolvent a variable c =
    if has a (positive variable) && has c (negative variable) then Some (joined a (positive variable) c (negative variable))
    else if has a (negative variable) && has c (positive variable) then Some (joined a (negative variable) c (positive variable))
    else None

abbrev pub resolved_by : Option (List ℕ) → ℕ → Result (List ℕ) Why
resolved_by None variable = Err (whys.NoPivot variable)
resolved_by (Some clause) variable = Ok clause

-- one step of a chain: resolves on a variable with the clause of a number, where there is one
abbrev pub step_with : List ℕ → ℕ → ℕ → Option (List ℕ) → Result (List ℕ) Why
step_with a variable number None = Err (whys.NoClause number)
step_with a variable number (Some c) = resolved_by (resolvent a variable c) variable

-- the remaining steps of a chain, from what was resolved so far
abbrev pub steps_from : List (List ℕ) → Result (List ℕ) Why → List (ℕ × ℕ) → Result (List ℕ) Why
steps_from clauses (Err why) steps = Err why
steps_from clauses (Ok a) [] = Ok a
steps_from clauses (Ok a) (step ∷ steps) = steps_from clauses (step_with a step.0 step.1 (slice_get clauses step.1)) steps

abbrev pub start_of : Option (List ℕ) → ℕ → Result (List ℕ) Why
start_of None number = Err (whys.NoClause number)
start_of (Some clause) number = Ok clause

-- what a chain resolves to over clauses, or its first fault
unfoldable pub derived : List (List ℕ) → Chain → Result (List ℕ) Why
derived clauses chain = steps_from clauses (start_of (slice_get clauses chain.first) chain.first) chain.rest

-- the chain resolves to exactly its claim
abbrev pub Derives : List (List ℕ) → Chain → Type 0
Derives clauses chain = derived clauses chain ≡ Ok (clause_of chain.claim)

-- each chain resolves clauses and earlier claims to its claim, and the last claim is empty
abbrev pub Refutes : List (List ℕ) → List Chain → Type 0
Refutes clauses [] = ⊥
Refutes clauses (chain ∷ []) = Derives clauses chain × (chain.claim ≡ [])
Refutes clauses (chain ∷ next ∷ chains) = Derives clauses chain × Refutes (clauses ++ clause_of chain.claim ∷ []) (next ∷ chains)

-- what is wrong with a chain
abbrev pub fault_in : Result (List ℕ) Why → List ℕ → Option Why
fault_in (Err why) claimed = Some why
fault_in (Ok resolved) claimed = if bytes_eq resolved claimed then None else Some (whys.Claim claimed resolved)

abbrev pub fault_of : List (List ℕ) → Chain → Option Why
fault_of clauses chain = fault_in (derived clauses chain) (clause_of chain.claim)

-- a fault with the number of its chain
abbrev pub StepFault : Type 0
StepFault = ℕ × Why

abbrev pub last_fault : ℕ → List ℕ → Option StepFault
last_fault step [] = None
last_fault step (l ∷ claim) = Some (step, whys.NotEmpty)

abbrev pub fault_or : ℕ → Option Why → Option StepFault → Option StepFault
fault_or step None rest = rest
fault_or step (Some why) rest = Some (step, why)

-- the first fault of chains, of which the first has this number
abbrev pub first_fault : ℕ → List (List ℕ) → List Chain → Option StepFault
first_fault step clauses [] = Some (step, whys.NotEmpty)
first_fault step clauses (chain ∷ []) = fault_or step (fault_of clauses chain) (last_fault step chain.claim)
first_fault step clauses (chain ∷ next ∷ chains) =
    fault_or step (fault_of clauses chain) (first_fault (step + 1) (clauses ++ clause_of chain.claim ∷ []) (next ∷ chains))
