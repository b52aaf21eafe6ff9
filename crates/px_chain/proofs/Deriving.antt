-- The steps of a chain, one after another.
use Rattle.std.proofs.Common.{◌≡◌, ℕ, ◌+◌, ◌<◌, List, length, get_or, drop, Some, None, Ok, Err, refl, ap, ◌∙◌, add-one, drop-cons, ◌≤◌, drop_of_length-le}
use Rattle.std.specs.List.{slice_get}
use Rattle.px_chain.specs.declared.chain.Chain.{Chain}
use Rattle.px_chain.specs.declared.chain.Why.{Why}
use Rattle.px_chain.specs.declared.chain.Why.TheVariants as whys
use Rattle.px_chain.specs.Resolution.{derived, start_of, step_with, steps_from}

-- how far a chain has come
pub record HasCome (clauses : List (List ℕ)) (chain : Chain) (steps : List (ℕ × ℕ)) (i : ℕ) (clause : List ℕ) : Type 0 where
  pub so_far : derived clauses chain ≡ steps_from clauses (Ok clause) (drop i steps)

pub begun : (clauses : List (List ℕ)) (chain : Chain) (clause : List ℕ) → slice_get clauses chain.first ≡ Some clause → HasCome clauses chain chain.rest 0 clause
unfolding derived
begun clauses chain clause e = record { so_far = ap (λ o. steps_from clauses (start_of o chain.first) chain.rest) e }

pub not_begun : (clauses : List (List ℕ)) (chain : Chain) → slice_get clauses chain.first ≡ None → derived clauses chain ≡ Err (whys.NoClause chain.first)
unfolding derived
not_begun clauses chain e = ap (λ o. steps_from clauses (start_of o chain.first) chain.rest) e ∙ failed clauses (whys.NoClause chain.first) chain.rest
  where
    failed : (clauses : List (List ℕ)) (why : Why) (steps : List (ℕ × ℕ)) → steps_from clauses (Err why) steps ≡ Err why
    failed clauses why steps = refl

-- the next step
next_step : (clauses : List (List ℕ)) (clause : List ℕ) (steps : List (ℕ × ℕ)) (i : ℕ) → i < length steps
    → steps_from clauses (Ok clause) (drop i steps) ≡ steps_from clauses (step_with clause (get_or steps i (0, 0)).0 (get_or steps i (0, 0)).1 (slice_get clauses (get_or steps i (0, 0)).1)) (drop (i + 1) steps)
next_step clauses clause steps i lt = rw add-one (ap (λ rest. steps_from clauses (Ok clause) rest) (drop-cons steps i (0, 0) lt))

pub went_on : (clauses : List (List ℕ)) (chain : Chain) (steps : List (ℕ × ℕ)) (i : ℕ) (clause next : List ℕ) → i < length steps → HasCome clauses chain steps i clause
    → step_with clause (get_or steps i (0, 0)).0 (get_or steps i (0, 0)).1 (slice_get clauses (get_or steps i (0, 0)).1) ≡ Ok next → HasCome clauses chain steps (i + 1) next
went_on clauses chain steps i clause next lt come e = record { so_far = come.so_far ∙ next_step clauses clause steps i lt ∙ ap (λ r. steps_from clauses r (drop (i + 1) steps)) e }

pub stopped : (clauses : List (List ℕ)) (chain : Chain) (steps : List (ℕ × ℕ)) (i : ℕ) (clause : List ℕ) (why : Why) → i < length steps → HasCome clauses chain steps i clause
    → step_with clause (get_or steps i (0, 0)).0 (get_or steps i (0, 0)).1 (slice_get clauses (get_or steps i (0, 0)).1) ≡ Err why → derived clauses chain ≡ Err why
stopped clauses chain steps i clause why lt come e = come.so_far ∙ next_step clauses clause steps i lt ∙ ap (λ r. steps_from clauses r (drop (i + 1) steps)) e

pub ended : (clauses : List (List ℕ)) (chain : Chain) (steps : List (ℕ × ℕ)) (i : ℕ) (clause : List ℕ) → length steps ≤ i → HasCome clauses chain steps i clause → derived clauses chain ≡ Ok clause
ended clauses chain steps i clause le come = come.so_far ∙ ap (λ rest. steps_from clauses (Ok clause) rest) (drop_of_length-le steps le)
