-- Refutations: chains that `check` accepts, and the first chain that is wrong with what is wrong with it.
use Rattle.std.proofs.Common.{◌≡◌, ℕ, List, [], ◌∷◌, Some, refl}
use Rattle.px_chain.specs.declared.chain.Chain.{Chain}
use Rattle.px_chain.specs.declared.chain.Why.TheVariants.{NoClause, NoPivot, Claim, NotEmpty}
use Rattle.px_chain.specs.Clause.{clause_of}
use Rattle.px_chain.specs.Resolution.{Refutes, derived, first_fault}

-- a chain: its claim, the number of its first clause, and each variable on which it resolves with the number of the other clause
abbrev chain : List ℕ → ℕ → List (ℕ × ℕ) → Chain
chain claim first rest = record { claim = claim; first = first; rest = rest }

-- variable 1 holds, and variable 1 doesn't
abbrev signs : List (List ℕ)
signs = (2 ∷ []) ∷ (3 ∷ []) ∷ []

-- each sign of variable 1 with each of variable 2
abbrev all_signs : List (List ℕ)
all_signs = (2 ∷ 4 ∷ []) ∷ (2 ∷ 5 ∷ []) ∷ (3 ∷ 4 ∷ []) ∷ (3 ∷ 5 ∷ []) ∷ []

-- variable 0 or variable 1, and variable 2 where variable 0 holds
abbrev choice : List (List ℕ)
choice = (0 ∷ 2 ∷ []) ∷ (1 ∷ 4 ∷ []) ∷ []

-- Chains that refute: each resolves to its claim, and the last claim is empty.
positive_first : Refutes signs (chain [] 0 ((1, 1) ∷ []) ∷ [])
unfolding derived
positive_first = (refl, refl)

negated_first : Refutes signs (chain [] 1 ((1, 0) ∷ []) ∷ [])
unfolding derived
negated_first = (refl, refl)

-- the second chain names the first one's claim, which has number 2
names_an_earlier_claim : Refutes signs (chain (2 ∷ []) 0 [] ∷ chain [] 2 ((1, 1) ∷ []) ∷ [])
unfolding derived
names_an_earlier_claim = (refl, (refl, refl))

literal_given_twice : Refutes (clause_of (2 ∷ 2 ∷ []) ∷ (3 ∷ []) ∷ []) (chain [] 0 ((1, 1) ∷ []) ∷ [])
unfolding derived
literal_given_twice = (refl, refl)

empty_clause_by_itself : Refutes ([] ∷ []) (chain [] 0 [] ∷ [])
unfolding derived
empty_clause_by_itself = (refl, refl)

three_chains : Refutes all_signs (chain (2 ∷ []) 0 ((2, 1) ∷ []) ∷ chain (3 ∷ []) 2 ((2, 3) ∷ []) ∷ chain [] 4 ((1, 5) ∷ []) ∷ [])
unfolding derived
three_chains = (refl, (refl, (refl, refl)))

-- The last claim isn't empty, or there is no chain.
no_chains : first_fault 0 signs [] ≡ Some (0, NotEmpty)
unfolding derived
no_chains = refl

-- A body that doesn't look at the last claim accepts this one.
claim_not_empty : first_fault 0 signs (chain (2 ∷ []) 0 [] ∷ []) ≡ Some (0, NotEmpty)
unfolding derived
claim_not_empty = refl

-- A body that counts chains from 1 gives Some (2, NotEmpty); one that stops at the first empty claim accepts this.
empty_claim_before_the_last : first_fault 0 signs (chain [] 0 ((1, 1) ∷ []) ∷ chain (2 ∷ []) 0 [] ∷ []) ≡ Some (1, NotEmpty)
unfolding derived
empty_claim_before_the_last = refl

-- a claim in another order, with a literal twice, is the clause that the chain resolves to
claim_in_another_order : first_fault 0 choice (chain (4 ∷ 2 ∷ 4 ∷ []) 0 ((0, 1) ∷ []) ∷ []) ≡ Some (0, NotEmpty)
unfolding derived
claim_in_another_order = refl

-- There is no clause of a number.
-- A body that counts chains from 1 gives Some (1, NoClause 5), and one that doesn't check the first chain accepts this.
first_clause_past_all : first_fault 0 signs (chain [] 5 [] ∷ []) ≡ Some (0, NoClause 5)
unfolding derived
first_clause_past_all = refl

names_its_own_claim : first_fault 0 signs (chain [] 0 ((1, 2) ∷ []) ∷ []) ≡ Some (0, NoClause 2)
unfolding derived
names_its_own_claim = refl

names_a_later_claim : first_fault 0 signs (chain (2 ∷ []) 0 [] ∷ chain [] 3 [] ∷ []) ≡ Some (1, NoClause 3)
unfolding derived
names_a_later_claim = refl

-- The variable doesn't stand with one sign in the one clause and with the other in the other.
variable_stands_in_neither : first_fault 0 signs (chain [] 0 ((2, 1) ∷ []) ∷ []) ≡ Some (0, NoPivot 2)
unfolding derived
variable_stands_in_neither = refl

-- A body that resolves a clause with itself accepts this.
equal_signs : first_fault 0 signs (chain [] 0 ((1, 0) ∷ []) ∷ []) ≡ Some (0, NoPivot 1)
unfolding derived
equal_signs = refl

largest_variable : first_fault 0 signs (chain [] 0 ((4294967295, 1) ∷ []) ∷ []) ≡ Some (0, NoPivot 4294967295)
unfolding derived
largest_variable = refl

-- the first step that is wrong is told, and not the clause past all that the second step names
first_of_two_faults : first_fault 0 signs (chain [] 0 ((2, 1) ∷ (1, 9) ∷ []) ∷ []) ≡ Some (0, NoPivot 2)
unfolding derived
first_of_two_faults = refl

empty_clause_resolves_with_nothing : first_fault 0 ([] ∷ []) (chain [] 0 ((0, 0) ∷ []) ∷ []) ≡ Some (0, NoPivot 0)
unfolding derived
empty_clause_resolves_with_nothing = refl

-- The chain resolves to another clause than it claims: first the claim, then what came.
claims_a_literal_of_neither : first_fault 0 signs (chain (4 ∷ []) 0 ((1, 1) ∷ []) ∷ []) ≡ Some (0, Claim (4 ∷ []) [])
unfolding derived
claims_a_literal_of_neither = refl

-- A body that doesn't check the first chain gives Some (1, NoClause 9).
first_of_two_chains : first_fault 0 signs (chain (4 ∷ []) 0 [] ∷ chain [] 9 [] ∷ []) ≡ Some (0, Claim (4 ∷ []) (2 ∷ []))
unfolding derived
first_of_two_chains = refl

-- A body that compares lengths alone gives Some (0, NotEmpty).
claims_another_literal : first_fault 0 choice (chain (6 ∷ 2 ∷ []) 0 ((0, 1) ∷ []) ∷ []) ≡ Some (0, Claim (2 ∷ 6 ∷ []) (2 ∷ 4 ∷ []))
unfolding derived
claims_another_literal = refl

claims_one_literal_too_few : first_fault 0 choice (chain (2 ∷ []) 0 ((0, 1) ∷ []) ∷ []) ≡ Some (0, Claim (2 ∷ []) (2 ∷ 4 ∷ []))
unfolding derived
claims_one_literal_too_few = refl

clause_with_both_signs : first_fault 0 ((2 ∷ 3 ∷ []) ∷ (2 ∷ []) ∷ []) (chain [] 0 ((1, 1) ∷ []) ∷ []) ≡ Some (0, Claim [] (2 ∷ []))
unfolding derived
clause_with_both_signs = refl

-- The chain resolves the claim of the first with clause 3, and not with the claim of the second: a body that leaves the literal on which it resolves
-- gives Some (0, Claim (2 ∷ []) (2 ∷ 4 ∷ [])).
resolves_with_another_clause :
    first_fault 0 all_signs (chain (2 ∷ []) 0 ((2, 1) ∷ []) ∷ chain (3 ∷ []) 2 ((2, 3) ∷ []) ∷ chain [] 4 ((1, 3) ∷ []) ∷ []) ≡ Some (2, Claim [] (5 ∷ []))
unfolding derived
resolves_with_another_clause = refl
