-- What a set of the literals that follow shows of an entry of a log.
use Rattle.std.proofs.Common.{◌≡◌, ◌↔◌, ℕ, zero, suc, Bool, true, false, not, ◌||◌, eqb, List, [], ◌∷◌, get_or, replicate, refl, sym, ◌∙◌, subst, inl, inr, ⊎_elim}
use Rattle.std.specs.Prelude.{IsTrue}
use Rattle.std.specs.List.{AllByRecursion, Contains}
use Rattle.std.proofs.lemmas.Bool.{true≢false, false≢true, cases_eq, or_cases, or_left, or_right}
use Rattle.px_chain.specs.declared.chain.LogEntry.{LogEntry}
use Rattle.px_chain.specs.declared.propagation.Open.TheVariants as opens
use Rattle.px_chain.specs.Clause.{complement, has}
use Rattle.px_chain.specs.Closure.{Adds, Has, HasFalse, IsClosure, IsSound, MeetsConflict, CountsOpen}
use Rattle.px_chain.specs.Propagation.{Closed, Given, Follows, HasOneOpen, IsFalse, IsGenuine, IsUnassigned}
use Rattle.px_chain.specs.Resolution.{Derives}
use Rattle.px_chain.proofs.Closures.{Contains-has, IsSound-marked, has-Contains}
use Rattle.px_chain.proofs.Members.{all_from_has}

-- from more literals as much follows
pub Closed-more : (clauses : List (List ℕ)) (given more : List ℕ) → ((l : ℕ) → Contains given l → Contains more l) → {l : ℕ} → Closed clauses given l → Closed clauses more l
Closed-more clauses given more keeps (Given l there) = Given l (keeps l there)
Closed-more clauses given more keeps (Follows clause l in_clauses within others) =
    Follows clause l in_clauses within (λ m there ne. Closed-more clauses given more keeps (others m there ne))

-- literals that are added, once they are marked
module _ (clauses : List (List ℕ)) (given : List ℕ) (old new : List Bool) (literals : List ℕ) (is : (k : ℕ) → get_or new k false ≡ (get_or old k false || has literals k)) (adds : Adds clauses given old literals) where
  pub added-all : AllByRecursion (Has new) given
  added-all = all_from_has (Has new) given (λ l h.
      ⊎_elim (λ before. is l ∙ or_left (get_or old l false) (has literals l) before) (λ here. is l ∙ or_right (get_or old l false) (has literals l) here) (adds.all l h))

  pub added-sound : IsSound clauses given new
  added-sound = IsSound-marked old new literals is clauses given adds.sound (λ l h. Given l (Contains-has given l (adds.are_given l h)))

-- one more decision
pub Adds-decision : (clauses : List (List ℕ)) (given : List ℕ) (marks : List Bool) (last : ℕ) → IsClosure clauses given marks → Adds clauses (last ∷ given) marks (last ∷ [])
Adds-decision clauses given marks last is = record {
  sound = λ l h. Closed-more clauses given (last ∷ given) (λ k there. Contains-has (last ∷ given) k (or_right (eqb last k) (has given k) (has-Contains given k there))) ((is l).0 h);
  are_given = λ l h. ⊎_elim (λ e. or_left (eqb last l) (has given l) e) (λ none. absurd (false≢true none)) (or_cases (eqb last l) false h);
  all = λ l h. ⊎_elim (λ e. inr (or_left (eqb last l) false e)) (λ there. inl ((is l).1 (Given l (Contains-has given l there)))) (or_cases (eqb last l) (has given l) h);
}

none_marked : (n l : ℕ) → get_or (replicate n false) l false ≡ false
none_marked zero l = refl
none_marked (suc n) zero = refl
none_marked (suc n) (suc l) = none_marked n l

-- the first decisions
pub Adds-decisions : (clauses : List (List ℕ)) (n : ℕ) (decisions : List ℕ) → Adds clauses decisions (replicate n false) decisions
Adds-decisions clauses n decisions = record {
  sound = λ l h. absurd (true≢false (sym h ∙ none_marked n l));
  are_given = λ l h. h;
  all = λ l h. inr h;
}

-- whether one literal is open
module _ (clauses : List (List ℕ)) (given : List ℕ) (marks : List Bool) (clause : List ℕ) (is : IsClosure clauses given marks) where
  pub one_open-single : (l : ℕ) → CountsOpen marks clause (opens.Single l) → (Has marks l → ⊥) → HasOneOpen clauses given clause
  one_open-single l tells not_marked = record {
    literal = l;
    within = Contains-has clause l tells.0;
    is_open = record { literal = λ c. not_marked ((is l).1 c); complement_too = λ c. tells.1 ((is (complement l)).1 c) };
    others = λ m there ne. (is (complement m)).0 (tells.2 m (has-Contains clause m there) ne);
  }

  pub one_open-marked : (l : ℕ) → CountsOpen marks clause (opens.Single l) → Has marks l → HasOneOpen clauses given clause → ⊥
  one_open-marked l tells marked one =
      ⊎_elim
      (λ e. one.is_open.literal (subst (Closed clauses given) e ((is l).0 marked)))
      (λ ne. tells.1 ((is (complement l)).1 (one.others l (Contains-has clause l tells.0) ne)))
      (cases_eq l one.literal)

  pub one_open-nothing : CountsOpen marks clause opens.Nothing → HasOneOpen clauses given clause → ⊥
  one_open-nothing tells one = one.is_open.complement_too ((is (complement one.literal)).0 (tells one.literal (has-Contains clause one.literal one.within)))

  pub one_open-several : CountsOpen marks clause opens.Several → HasOneOpen clauses given clause → ⊥
  one_open-several tells one =
      ⊎_elim
      (λ e. tells.6 ((is (complement tells.1)).1 (one.others tells.1 (Contains-has clause tells.1 tells.3) (λ f. tells.4 (e ∙ sym f)))))
      (λ ne. tells.5 ((is (complement tells.0)).1 (one.others tells.0 (Contains-has clause tells.0 tells.2) ne)))
      (cases_eq tells.0 one.literal)

  -- whether a literal is open
  pub is_open-from : (l : ℕ) → (Has marks l → ⊥) × (HasFalse marks l → ⊥) → IsUnassigned clauses given l
  is_open-from l w = record { literal = λ c. w.0 ((is l).1 c); complement_too = λ c. w.1 ((is (complement l)).1 c) }

  pub from-is_open : (l : ℕ) → IsUnassigned clauses given l → (Has marks l → ⊥) × (HasFalse marks l → ⊥)
  from-is_open l u = (λ h. u.literal ((is l).0 h), λ h. u.complement_too ((is (complement l)).0 h))

  -- whether all literals of a clause are false
  pub all_false-from : (claim : List ℕ) → AllByRecursion (HasFalse marks) claim → AllByRecursion (IsFalse clauses given) claim
  all_false-from [] all = tt
  all_false-from (l ∷ claim) all = ((is (complement l)).0 all.0, all_false-from claim all.1)

  pub from-all_false : (claim : List ℕ) → AllByRecursion (IsFalse clauses given) claim → AllByRecursion (HasFalse marks) claim
  from-all_false [] all = tt
  from-all_false (l ∷ claim) all = ((is (complement l)).1 all.0, from-all_false claim all.1)

-- a test that is the negation of another
pub not_iff : (b : Bool) (P : Type 0) → (b ≡ false → P) → (b ≡ true → P → ⊥) → IsTrue (not b) ↔ P
not_iff true P from against = (λ e. absurd (false≢true e), λ p. absurd (against refl p))
not_iff false P from against = (λ _. from refl, λ _. refl)

-- an entry is genuine where it meets its conflict and its chain derives the claim
pub genuine-from : (vars : ℕ) (clauses : List (List ℕ)) (entry : LogEntry) → MeetsConflict vars clauses entry → Derives clauses entry.chain → IsGenuine vars clauses entry
genuine-from vars clauses entry meets derives = record {
  decisions_over = meets.decisions_over;
  last_over = meets.last_over;
  claim_over = meets.claim_over;
  quiet = meets.before.quiet;
  last_open = meets.before.last_open;
  clash = meets.after.clash;
  learnt_false = meets.after.learnt_false;
  one_open = meets.before.one_open;
  derives = derives;
}

pub from-genuine : (vars : ℕ) (clauses : List (List ℕ)) (entry : LogEntry) → IsGenuine vars clauses entry → MeetsConflict vars clauses entry
from-genuine vars clauses entry is = record {
  decisions_over = is.decisions_over;
  last_over = is.last_over;
  claim_over = is.claim_over;
  before = record { quiet = is.quiet; last_open = is.last_open; one_open = is.one_open };
  after = record { clash = is.clash; learnt_false = is.learnt_false };
}
