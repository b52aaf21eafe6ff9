-- A table of marks as a clause: which literals it holds, and what a mark more or less makes of it.
use Rattle.std.proofs.Common.{◌≡◌, ℕ, zero, suc, ◌+◌, ◌*◌, ◌<◌, Bool, true, false, ◌||◌, cond, eqb, List, [], ◌∷◌, ◌++◌, length, get_or, set, replicate, take, refl, ap, sym, ◌∙◌, subst, ⊎_elim, ◌⊎◌, inl, inr, arith, append-nil, drop, drop_of_length-le, take_all, length-set, get_or-set_other}
use Rattle.std.specs.List.{AllByRecursion}
use Rattle.std.proofs.lemmas.Bool.{eq-eqb, ne_eqb, true≢false, cases_eq, cases_lt, cases_Bool}
use Rattle.std.proofs.lemmas.Bool.Decides.{nat_tests}
use Rattle.std.proofs.lemmas.List.{take_more, get_or_past, length-replicate}
use Rattle.std.proofs.lemmas.Grind.{get_or-set_at}
use Rattle.px_chain.specs.Clause.{has, clause_of, Ascends, IsOver, variable_of}
use Rattle.px_chain.specs.Resolution.{joined, without}
use Rattle.px_chain.specs.Marks.{marked, marked_from, IsMarked, Unmarks}
use Rattle.px_chain.proofs.Stores.{all_push}
use Rattle.px_chain.proofs.Members.{all_from_has, has-append, has-clause_of, has-without, same_clause, clause_of-unique}

above_from : (l : ℕ) (marks : List Bool) (k : ℕ) → k < l → AllByRecursion (λ m. k < m) (marked_from l marks)
above_from l [] k lt = tt
above_from l (true ∷ marks) k lt = (lt, above_from (l + 1) marks k (omega arith))
above_from l (false ∷ marks) k lt = above_from (l + 1) marks k (omega arith)

Ascends-marked_from : (l : ℕ) (marks : List Bool) → Ascends (marked_from l marks)
Ascends-marked_from l [] = tt
Ascends-marked_from l (true ∷ marks) = (above_from (l + 1) marks l (omega arith), Ascends-marked_from (l + 1) marks)
Ascends-marked_from l (false ∷ marks) = Ascends-marked_from (l + 1) marks

not_before : (l : ℕ) (marks : List Bool) (k : ℕ) → k < l → has (marked_from l marks) k ≡ false
not_before l [] k lt = refl
not_before l (true ∷ marks) k lt = let ne : eqb l k ≡ false = ne_eqb l k (λ e. omega arith) in grind (arith, ne, not_before (l + 1) marks k (omega arith))
not_before l (false ∷ marks) k lt = not_before (l + 1) marks k (omega arith)

has-marked_from : (l : ℕ) (marks : List Bool) (j k : ℕ) → k ≡ l + j → has (marked_from l marks) k ≡ get_or marks j false
has-marked_from l [] j k e = refl
has-marked_from l (true ∷ marks) zero k e = let here : eqb l k ≡ true = eq-eqb l k (omega arith) in grind (arith, here)
has-marked_from l (false ∷ marks) zero k e = not_before (l + 1) marks k (omega arith)
has-marked_from l (true ∷ marks) (suc j) k e = let ne : eqb l k ≡ false = ne_eqb l k (λ f. omega arith) in grind (arith, ne, has-marked_from (l + 1) marks j k (omega arith))
has-marked_from l (false ∷ marks) (suc j) k e = has-marked_from (l + 1) marks j k (omega arith)

-- a literal stands in the clause where its mark is set
pub has-marked : (marks : List Bool) (l : ℕ) → has (marked marks) l ≡ get_or marks l false
unfolding marked
has-marked marks l = has-marked_from 0 marks l l (omega arith)

pub Ascends-marked : (marks : List Bool) → Ascends (marked marks)
unfolding marked
Ascends-marked marks = Ascends-marked_from 0 marks

pub marked-unique : (marks : List Bool) (c : List ℕ) → Ascends c → ((l : ℕ) → get_or marks l false ≡ has c l) → marked marks ≡ c
marked-unique marks c up same = same_clause (marked marks) c (Ascends-marked marks) up (λ l. has-marked marks l ∙ same l)

-- a mark that is set
pub has-marked-set : (marks : List Bool) (l : ℕ) (mark : Bool) (k : ℕ) → l < length marks → has (marked (set marks l mark)) k ≡ cond (eqb l k) mark (has (marked marks) k)
has-marked-set marks l mark k lt =
    ⊎_elim
    (λ e. let here : eqb l k ≡ true = eq-eqb l k e in
    grind (arith, here, get_or-set_at marks l k mark false (sym e) lt, has-marked (set marks l mark) k))
    (λ ne. let other : eqb l k ≡ false = ne_eqb l k ne in
    grind (arith, other, get_or-set_other marks l k mark false (λ e. ne (sym e)), has-marked (set marks l mark) k, has-marked marks k))
    (cases_eq l k)

-- no literal is marked
marked_from-replicate : (l n : ℕ) → marked_from l (replicate n false) ≡ []
marked_from-replicate l zero = refl
marked_from-replicate l (suc n) = marked_from-replicate (l + 1) n

pub marked-replicate : (n : ℕ) → marked (replicate n false) ≡ []
unfolding marked
marked-replicate n = marked_from-replicate 0 n

-- what a call wrote into all of a table
pub all_written : {X : Type 0} (xs ys : List X) (n : ℕ) → n ≡ length xs → length ys ≡ length xs → take n (ys ++ drop (length ys) xs) ≡ ys
all_written xs ys n all same =
    let rest : drop (length ys) xs ≡ [] = drop_of_length-le xs (omega arith) in
    rw (rest, append-nil) (take_all n ys (omega arith))

-- a clause joined with no literal of another
pub joined_none : (marks : List Bool) → marked marks ≡ clause_of (marked marks ++ [])
joined_none marks = rw append-nil (clause_of-unique (marked marks) (marked marks) (Ascends-marked marks) (λ k. refl))

-- a clause joined with the first literals of another
pub joined_more : (old : List ℕ) (clause : List ℕ) (i : ℕ) (marks : List Bool) → i < length clause → get_or clause i 0 < length marks
    → marked marks ≡ clause_of (old ++ take i clause) → marked (set marks (get_or clause i 0) true) ≡ clause_of (old ++ take (i + 1) clause)
joined_more old clause i marks lt below is =
    let l = get_or clause i 0 in
    clause_of-unique (old ++ take (i + 1) clause) (marked (set marks l true)) (Ascends-marked (set marks l true)) (λ k.
    let so_far : has (marked marks) k ≡ has (old ++ take i clause) k = ap (λ c. has c k) is ∙ has-clause_of (old ++ take i clause) k in
    let more = ap (λ c. has c k) (take_more clause i 0 lt) in
    grind (arith, nat_tests, has-marked-set marks l true k below, so_far, more, has-append old (take i clause) k, has-append old (take (i + 1) clause) k, has-append (take i clause) (l ∷ []) k))

pub joined_same : (old : List ℕ) (clause : List ℕ) (i : ℕ) (marks : List Bool) → i < length clause → get_or marks (get_or clause i 0) false ≡ true
    → marked marks ≡ clause_of (old ++ take i clause) → marked marks ≡ clause_of (old ++ take (i + 1) clause)
joined_same old clause i marks lt mark is =
    let l = get_or clause i 0 in
    clause_of-unique (old ++ take (i + 1) clause) (marked marks) (Ascends-marked marks) (λ k.
    let so_far : has (marked marks) k ≡ has (old ++ take i clause) k = ap (λ c. has c k) is ∙ has-clause_of (old ++ take i clause) k in
    let more = ap (λ c. has c k) (take_more clause i 0 lt) in
    let here = has-marked marks l ∙ mark in
    grind (arith, nat_tests, so_far, here, more, has-append old (take i clause) k, has-append old (take (i + 1) clause) k, has-append (take i clause) (l ∷ []) k))

-- a table in which no literal is marked
pub IsMarked-empty : (vars : ℕ) (marks : List Bool) → length marks ≡ 2 * vars → marked marks ≡ [] → IsMarked vars marks []
IsMarked-empty vars marks size none = record {
  size = size;
  within = tt;
  listed = λ l h. let same = ap (λ c. has c l) none in grind (arith, same, h);
}

-- in a new table no literal is marked
pub IsMarked-none : (vars n : ℕ) → n ≡ 2 * vars → IsMarked vars (replicate n false) []
IsMarked-none vars n e = IsMarked-empty vars (replicate n false) (length-replicate n false ∙ e) (marked-replicate n)

-- one more literal that is marked and listed
pub IsMarked-more : (vars : ℕ) (marks : List Bool) (touched : List ℕ) (l : ℕ) → l < length marks → IsMarked vars marks touched → IsMarked vars (set marks l true) (touched ++ l ∷ [])
IsMarked-more vars marks touched l lt is = record {
  size = length-set marks l true ∙ is.size;
  within = rw length-set (all_push (λ m. m < length marks) touched l is.within lt);
  listed = λ k h. grind (arith, nat_tests, has-marked-set marks l true k lt, is.listed k, has-append touched (l ∷ []) k, h);
}

-- a mark less
pub IsMarked-less : (vars : ℕ) (marks : List Bool) (touched : List ℕ) (l : ℕ) → l < length marks → IsMarked vars marks touched → IsMarked vars (set marks l false) touched
IsMarked-less vars marks touched l lt is = record {
  size = length-set marks l false ∙ is.size;
  within = rw length-set is.within;
  listed = λ k h. grind (arith, nat_tests, has-marked-set marks l false k lt, is.listed k, h);
}

-- literals over so many variables have a mark
pub marks_of_over : (vars : ℕ) (clause : List ℕ) → IsOver vars clause → AllByRecursion (λ l. l < 2 * vars) clause
marks_of_over vars [] over = tt
marks_of_over vars (l ∷ clause) over = (omega (arith, over.0), marks_of_over vars clause over.1)

-- a literal that is marked has a mark
pub marked-within : (marks : List Bool) (l : ℕ) → get_or marks l false ≡ true → l < length marks
marked-within marks l here =
    ⊎_elim (λ lt. lt) (λ past. absurd (true≢false (sym here ∙ get_or_past marks l false past))) (cases_lt l (length marks))

-- a literal's mark is set, where the literal is listed
pub IsMarked-set : (vars : ℕ) (marks : List Bool) (touched : List ℕ) (l : ℕ) (mark : Bool) → l < length marks → (mark ≡ true → has touched l ≡ true)
    → IsMarked vars marks touched → IsMarked vars (set marks l mark) touched
IsMarked-set vars marks touched l mark lt there is = record {
  size = length-set marks l mark ∙ is.size;
  within = rw length-set is.within;
  listed = λ k h. ⊎_elim
      (λ e. let here : eqb l k ≡ true = eq-eqb l k e in subst (λ j. has touched j ≡ true) e (there (grind (arith, here, has-marked-set marks l mark k lt, h))))
      (λ ne. let other : eqb l k ≡ false = ne_eqb l k ne in is.listed k (grind (arith, other, has-marked-set marks l mark k lt, h)))
      (cases_eq l k);
}

-- one literal taken out, a clause joined, and the mark of another as it was
module _ (old : List Bool) (own other : ℕ) (clause : List ℕ) (marks : List Bool) (had : Bool)
    (own_in : own < length old) (other_in : other < length marks) (apart : own ≡ other → ⊥) (as_was : had ≡ get_or old other false)
    (is : marked marks ≡ clause_of (marked (set old own false) ++ clause)) where
  joined_at : (k : ℕ) → has (marked marks) k ≡ (cond (eqb own k) false (has (marked old) k) || has clause k)
  joined_at k =
      let all = ap (λ c. has c k) is ∙ has-clause_of (marked (set old own false) ++ clause) k ∙ has-append (marked (set old own false)) clause k in
      grind (arith, all, has-marked-set old own false k own_in)

  pub marked-replaced : marked (set marks other had) ≡ joined (marked old) own clause other
  marked-replaced =
      clause_of-unique (without (marked old) own ++ without clause other) (marked (set marks other had)) (Ascends-marked (set marks other had)) (λ k.
      let was : had ≡ has (marked old) other = as_was ∙ sym (has-marked old other) in
      let apart' : eqb own other ≡ false = ne_eqb own other apart in
      grind (arith, nat_tests, has-marked-set marks other had k other_in, joined_at k, was, apart', has-append (without (marked old) own) (without clause other) k, has-without (marked old) own k, has-without clause other k))

  pub other_listed : (touched : List ℕ) → ((l : ℕ) → has (marked marks) l ≡ true → has touched l ≡ true) → had ≡ true → has touched other ≡ true
  other_listed touched listed mark =
      let was : had ≡ has (marked old) other = as_was ∙ sym (has-marked old other) in
      let apart' : eqb own other ≡ false = ne_eqb own other apart in
      listed other (grind (arith, joined_at other, was, mark, apart'))

-- the marks of no literal are taken away
pub Unmarks-none : (marks : List Bool) (out : List ℕ) → Unmarks marks marks [] out out
Unmarks-none marks out = record { left = λ k. grind arith; out = λ k. grind arith }

-- a literal that is not marked
pub Unmarks-same : (old marks : List Bool) (literals : List ℕ) (i : ℕ) (before out : List ℕ) → i < length literals → get_or marks (get_or literals i 0) false ≡ false
    → Unmarks old marks (take i literals) before out → Unmarks old marks (take (i + 1) literals) before out
Unmarks-same old marks literals i before out lt mark is =
    let l = get_or literals i 0 in
    let here = has-marked marks l ∙ mark in
    let more = λ (k : ℕ). ap (λ c. has c k) (take_more literals i 0 lt) ∙ has-append (take i literals) (l ∷ []) k in
    record {
      left = λ k. grind (arith, nat_tests, is.left k, is.left l, here, more k);
      out = λ k. grind (arith, nat_tests, is.left l, is.out k, is.out l, here, more k);
    }

-- a literal that is marked
pub Unmarks-more : (old marks : List Bool) (literals : List ℕ) (i : ℕ) (before out : List ℕ) → i < length literals → get_or marks (get_or literals i 0) false ≡ true
    → Unmarks old marks (take i literals) before out → Unmarks old (set marks (get_or literals i 0) false) (take (i + 1) literals) before (out ++ get_or literals i 0 ∷ [])
Unmarks-more old marks literals i before out lt mark is =
    let l = get_or literals i 0 in
    let here = has-marked marks l ∙ mark in
    let below = marked-within marks l mark in
    let more = λ (k : ℕ). ap (λ c. has c k) (take_more literals i 0 lt) ∙ has-append (take i literals) (l ∷ []) k in
    record {
      left = λ k. grind (arith, nat_tests, is.left k, has-marked-set marks l false k below, more k);
      out = λ k. grind (arith, nat_tests, is.left l, is.out k, here, has-append out (l ∷ []) k, more k);
    }

-- when all that are listed are taken away, no literal is marked, and all that were are out
pub unmarked : (vars : ℕ) (old marks : List Bool) (touched out : List ℕ) → IsMarked vars old touched → Unmarks old marks touched [] out
    → (marked marks ≡ []) × (clause_of out ≡ marked old)
unmarked vars old marks touched out is un =
    let listed : (k : ℕ) → ((has (marked old) k ≡ false) ⊎ (has touched k ≡ true)) = λ k.
    ⊎_elim (λ yes. inr (is.listed k yes)) (λ no. inl no) (cases_Bool (has (marked old) k)) in (
      same_clause (marked marks) [] (Ascends-marked marks) tt (λ k. grind (arith, un.left k, listed k)),
      sym (clause_of-unique out (marked old) (Ascends-marked old) (λ k. grind (arith, un.out k, listed k))),
    )

-- a marked literal is over the variables
pub marked-over : (vars : ℕ) (marks : List Bool) → length marks ≡ 2 * vars → IsOver vars (marked marks)
marked-over vars marks size =
    all_from_has (λ l. variable_of l < vars) (marked marks) (λ l there. let lt = marked-within marks l (sym (has-marked marks l) ∙ there) in omega arith)
