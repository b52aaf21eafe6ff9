-- The trail of a search (Davis, Logemann and Loveland, 1962; Marques-Silva and Sakallah, 1996): the literals that were assigned, in order.
use Rattle.std.specs.Prelude.{◌≡◌, ◌≢◌, ◌↔◌, ℕ, zero, suc, ◌+◌, ◌<◌, ◌==◌, not, Bool, false, true, if◌then◌else◌, List, [], ◌∷◌, ◌++◌, map, Contains, Option, Some, None, option_map, MatchOption, nat_eq, slice_get}
use Rattle.std.specs.List.{AllByRecursion, IsDistinct}
use Rattle.px_chain.specs.Clause.{complement, has, is_negated, variable_of}
use Rattle.px_chain.specs.Propagation.{Closed, IsConflict}
use Rattle.px_trail.specs.declared.assignment.Known.{Known}

-- a literal that was assigned, and the number of the clause that it follows from; a decision has none
pub record Step : Type 0 where
  pub literal : ℕ
  pub reason : Option ℕ

-- what a trail is over, the formula's clauses with those that were learnt after them, and its steps
pub record View : Type 0 where
  pub vars : ℕ
  pub clauses : List (List ℕ)
  pub steps : List Step

abbrev pub literals_of : List Step → List ℕ
literals_of steps = map (λ (s : Step). s.literal) steps

abbrev pub variables_of : List Step → List ℕ
variables_of steps = map (λ (s : Step). variable_of s.literal) steps

abbrev pub decision_of : ℕ → Option ℕ → List ℕ
decision_of literal None = literal ∷ []
decision_of literal (Some reason) = []

-- the literals that were decided
abbrev pub decisions_of : List Step → List ℕ
decisions_of [] = []
decisions_of (s ∷ steps) = decision_of s.literal s.reason ++ decisions_of steps

abbrev pub next_level : ℕ → Option ℕ → ℕ
next_level level None = level + 1
next_level level (Some reason) = level

-- what is known of a variable from steps before which `level` decisions stood: its literal and the reason of that, and how many decisions
-- stood when it came, a decision counting itself
abbrev pub known_from : ℕ → List Step → ℕ → Option Known
known_from level [] variable = None
known_from level (s ∷ steps) variable =
    let now = next_level level s.reason in
    if variable_of s.literal == variable then Some (record { literal = s.literal; level = now; reason = s.reason }) else known_from now steps variable

abbrev pub known_of : List Step → ℕ → Option Known
known_of steps variable = known_from 0 steps variable

-- the value that a variable has: that of its literal
abbrev pub value_of : List Step → ℕ → Option Bool
value_of steps variable = option_map (λ (k : Known). not (is_negated k.literal)) (known_of steps variable)

abbrev pub level_of : List Step → ℕ → Option ℕ
level_of steps variable = option_map (λ (k : Known). k.level) (known_of steps variable)

abbrev pub reason_in : Option Known → Option ℕ
reason_in None = None
reason_in (Some k) = k.reason

-- the clause from which a variable's literal follows
abbrev pub reason_of : List Step → ℕ → Option ℕ
reason_of steps variable = reason_in (known_of steps variable)

-- whether a step is a decision, by its reason
abbrev pub is_decision : Option ℕ → Bool
is_decision None = true
is_decision (Some reason) = false

-- the first so many decisions, each with the steps up to the next one
abbrev pub up_to : ℕ → List Step → List Step
up_to level [] = []
up_to zero (s ∷ steps) = if is_decision s.reason then [] else s ∷ up_to zero steps
up_to (suc level) (s ∷ steps) = if is_decision s.reason then s ∷ up_to level steps else s ∷ up_to (suc level) steps

-- every literal of a clause is false
abbrev pub AllFalse : List ℕ → List ℕ → Type 0
AllFalse literals clause = (m : ℕ) → has clause m ≡ true → has literals (complement m) ≡ true

-- every literal of a clause but one is false
abbrev pub OthersFalse : List ℕ → List ℕ → ℕ → Type 0
OthersFalse literals clause l = (m : ℕ) → has clause m ≡ true → m ≢ l → has literals (complement m) ≡ true

-- a clause from which a literal follows: it holds the literal, and the complements of its other literals are there
pub record IsReason (clauses : List (List ℕ)) (before : List ℕ) (l number : ℕ) : Type 0 where
  pub clause : List ℕ
  pub there : slice_get clauses number ≡ Some clause
  pub within : has clause l ≡ true
  pub others : OthersFalse before clause l

-- each step that is no decision follows from those before it
abbrev pub FollowFrom : List (List ℕ) → List ℕ → List Step → Type 0
FollowFrom clauses before [] = Unit {0}
FollowFrom clauses before (s ∷ steps) =
    MatchOption s.reason (Unit {0}) (IsReason clauses before s.literal) × FollowFrom clauses (before ++ s.literal ∷ []) steps

-- steps over variables below a number, of which no two have one variable
pub record IsAssignment (vars : ℕ) (steps : List Step) : Type 0 where
  pub over : AllByRecursion (λ variable. variable < vars) (variables_of steps)
  pub apart : IsDistinct nat_eq (variables_of steps)

pub record IsTrail (v : View) : Type 0 where
  pub assignment : IsAssignment v.vars v.steps
  pub follow : FollowFrom v.clauses [] v.steps

-- A variable's literal follows from the clause of a number: the clause holds the literal, and the complements of its other literals stand before that.
pub record Explains (v : View) (variable number : ℕ) : Type 0 where
  pub literal : ℕ
  pub of_variable : variable_of literal ≡ variable
  pub front : List Step
  pub back : List Step
  pub steps : v.steps ≡ front ++ record { literal = literal; reason = Some number } ∷ back
  pub reason : IsReason v.clauses (literals_of front) literal number

-- a clause all of whose literals are false
pub record IsFalseClause (v : View) (number : ℕ) : Type 0 where
  pub clause : List ℕ
  pub there : slice_get v.clauses number ≡ Some clause
  pub all : AllFalse (literals_of v.steps) clause

abbrev pub IsUnassigned : List ℕ → ℕ → Type 0
IsUnassigned literals l = (has literals l ≡ false) × (has literals (complement l) ≡ false)

-- a clause that has all literals but one false, and that one unassigned
pub record IsUnit (literals clause : List ℕ) (l : ℕ) : Type 0 where
  pub within : has clause l ≡ true
  pub unassigned : IsUnassigned literals l
  pub others : OthersFalse literals clause l

-- Nothing more follows: the trail has exactly the literals that unit propagation gives of its decisions, these are no conflict, and no clause is unit.
pub record IsQuiet (v : View) : Type 0 where
  pub closure : (l : ℕ) → (has (literals_of v.steps) l ≡ true) ↔ Closed v.clauses (decisions_of v.steps) l
  pub no_conflict : IsConflict v.clauses (decisions_of v.steps) → ⊥
  pub no_unit : (clause : List ℕ) (l : ℕ) → Contains v.clauses clause → IsUnit (literals_of v.steps) clause l → ⊥

-- the second trail goes on from the first by steps that follow
pub record GoesOn (old new : View) : Type 0 where
  pub vars : new.vars ≡ old.vars
  pub clauses : new.clauses ≡ old.clauses
  pub more : List Step
  pub steps : new.steps ≡ old.steps ++ more
  pub decisions : decisions_of new.steps ≡ decisions_of old.steps
