-- A scan of a clause: how its first literals stand.
use Rattle.std.proofs.Common.{◌≡◌, ◌≢◌, ℕ, ◌+◌, ◌<◌, ◌≤◌, true, List, [], ◌∷◌, ◌++◌, length, get_or, take, drop, Option, Some, None, sym, ◌∙◌, subst, ⊎_elim, take-append-drop}
use Rattle.std.proofs.lemmas.Bool.{both_ways, cases_eq}
use Rattle.std.proofs.lemmas.List.{drop_more, take_all, take_more}
use Rattle.px_chain.specs.Clause.{complement, has}
use Rattle.px_trail.specs.Propagation.{IsSettled}
use Rattle.px_trail.specs.Trail.{AllFalse, IsAssignment, IsUnassigned, IsUnit, Step, literals_of}
use Rattle.px_trail.proofs.Lookups.{never_both}
use Rattle.px_trail.proofs.Trails.{has_after, has_before, has_here, has_push}

-- the literals of a front are false, or all but one that is unassigned
abbrev pub Opens : List ℕ → List ℕ → Option ℕ → Type 0
Opens literals front None = AllFalse literals front
Opens literals front (Some l) = IsUnit literals front l

front_more : (clause : List ℕ) (i : ℕ) → i < length clause → take (i + 1) clause ≡ take i clause ++ get_or clause i 0 ∷ []
front_more clause i lt = take_more clause i 0 lt

pub has_at : (clause : List ℕ) (i : ℕ) → i < length clause → has clause (get_or clause i 0) ≡ true
has_at clause i lt =
    subst (λ c. has c (get_or clause i 0) ≡ true) (take-append-drop i clause)
    (has_after (take i clause) (drop i clause) (get_or clause i 0)
    (subst (λ c. has c (get_or clause i 0) ≡ true) (sym (drop_more clause i 0 lt)) (has_here (get_or clause i 0) (drop (i + 1) clause))))

has_front : (clause : List ℕ) (i l : ℕ) → has (take i clause) l ≡ true → has clause l ≡ true
has_front clause i l h = subst (λ c. has c l ≡ true) (take-append-drop i clause) (has_before (take i clause) (drop i clause) l h)

-- one literal more that is false
more_false : (literals front : List ℕ) (y : ℕ) (first : Option ℕ) → has literals (complement y) ≡ true → Opens literals front first → Opens literals (front ++ y ∷ []) first
more_false literals front y None fails is = λ m h. ⊎_elim (is m) (λ e. subst (λ k. has literals (complement k) ≡ true) e fails) (has_push front y m h)
more_false literals front y (Some l) fails is = record {
  within = has_before front (y ∷ []) l is.within;
  unassigned = is.unassigned;
  others = λ m h ne. ⊎_elim (λ before. is.others m before ne) (λ e. subst (λ k. has literals (complement k) ≡ true) e fails) (has_push front y m h);
}

module _ (steps : List Step) (clause : List ℕ) (i : ℕ) (lt : i < length clause) where
  pub Opens-false : (first : Option ℕ) → has (literals_of steps) (complement (get_or clause i 0)) ≡ true → Opens (literals_of steps) (take i clause) first → Opens (literals_of steps) (take (i + 1) clause) first
  Opens-false first fails is =
      subst (λ front. Opens (literals_of steps) front first) (sym (front_more clause i lt)) (more_false (literals_of steps) (take i clause) (get_or clause i 0) first fails is)

  pub Opens-first : IsUnassigned (literals_of steps) (get_or clause i 0) → AllFalse (literals_of steps) (take i clause) → IsUnit (literals_of steps) (take (i + 1) clause) (get_or clause i 0)
  Opens-first free is =
      subst (λ front. IsUnit (literals_of steps) front (get_or clause i 0)) (sym (front_more clause i lt)) (record {
        within = has_after (take i clause) (get_or clause i 0 ∷ []) (get_or clause i 0) (has_here (get_or clause i 0) []);
        unassigned = free;
        others = λ m h ne. ⊎_elim (is m) (λ e. absurd (ne (sym e))) (has_push (take i clause) (get_or clause i 0) m h);
      })

  pub Opens-again : (l : ℕ) → l ≡ get_or clause i 0 → IsUnit (literals_of steps) (take i clause) l → IsUnit (literals_of steps) (take (i + 1) clause) l
  Opens-again l same is =
      subst (λ front. IsUnit (literals_of steps) front l) (sym (front_more clause i lt)) (record {
        within = has_before (take i clause) (get_or clause i 0 ∷ []) l is.within;
        unassigned = is.unassigned;
        others = λ m h ne. ⊎_elim (λ before. is.others m before ne) (λ e. absurd (ne (sym e ∙ sym same))) (has_push (take i clause) (get_or clause i 0) m h);
      })

  -- a literal holds
  pub settled-true : (vars : ℕ) → IsAssignment vars steps → has (literals_of steps) (get_or clause i 0) ≡ true → IsSettled (literals_of steps) clause
  settled-true vars is holds = record {
    not_false = λ all. never_both vars steps (get_or clause i 0) is holds (all (get_or clause i 0) (has_at clause i lt));
    not_unit = λ l unit.
        ⊎_elim
        (λ e. both_ways (has (literals_of steps) l) unit.unassigned.0 (subst (λ k. has (literals_of steps) k ≡ true) e holds))
        (λ ne. never_both vars steps (get_or clause i 0) is holds (unit.others (get_or clause i 0) (has_at clause i lt) ne))
        (cases_eq (get_or clause i 0) l);
  }

  -- two literals are unassigned
  pub settled-two : (l : ℕ) → l ≢ get_or clause i 0 → IsUnassigned (literals_of steps) (get_or clause i 0) → IsUnit (literals_of steps) (take i clause) l → IsSettled (literals_of steps) clause
  settled-two l ne free is = record {
    not_false = λ all. both_ways (has (literals_of steps) (complement l)) is.unassigned.1 (all l (has_front clause i l is.within));
    not_unit = λ k unit.
        ⊎_elim
        (λ e. both_ways (has (literals_of steps) (complement (get_or clause i 0))) free.1 (unit.others (get_or clause i 0) (has_at clause i lt) (λ f. ne (e ∙ sym f))))
        (λ other. both_ways (has (literals_of steps) (complement l)) is.unassigned.1 (unit.others l (has_front clause i l is.within) other))
        (cases_eq l k);
  }

-- the whole clause
pub Opens-all : (literals clause : List ℕ) (i : ℕ) (first : Option ℕ) → length clause ≤ i → Opens literals (take i clause) first → Opens literals clause first
Opens-all literals clause i first le is = subst (λ front. Opens literals front first) (take_all i clause le) is
