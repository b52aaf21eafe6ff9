-- What genuine conflicts learn: new clauses without a repeated variable, of which there are few.
use Rattle.std.proofs.Common.{ap, ◌≡◌, ◌≢◌, ℕ, zero, suc, ◌+◌, ◌*◌, ◌/◌, ◌^◌, ◌<◌, ◌≤◌, Bool, true, false, cond, eqb, List, [], ◌∷◌, ◌++◌, length, get_or, map, refl, sym, ◌∙◌, subst, ⊎_elim, arith}
use Rattle.std.specs.List.{AllByRecursion, AllPairs, Contains, IsDistinct, list_any}
use Rattle.std.proofs.Math.Nat.{pow-succ'}
use Rattle.std.proofs.lemmas.Bool.{cases_eq, cases_lt, cond_both, eq-eqb, eqb-true, false_from_ne_true, false≢true, ne_eqb, or_cases, or_left, or_right}
use Rattle.std.proofs.lemmas.List.{length-map}
use Rattle.std.proofs.lemmas.List.Elements.{Contains-append_left, Contains-push}
use Rattle.std.proofs.lemmas.Map.Steps.{length-le_from_distinct_below}
use Rattle.px_chain.specs.declared.chain.LogEntry.{LogEntry}
use Rattle.px_chain.specs.Clause.{Ascends, IsOver, clause_of, complement, has, variable_of}
use Rattle.px_chain.specs.Laws.{HoldsNoVariableTwice, learnt_by}
use Rattle.px_chain.specs.Propagation.{Both, Closed, Follows, GenuineFrom, IsGenuine}
use Rattle.px_chain.proofs.Closures.{Contains-has, by_variable, complement-even, complement-other, complement-twice, has-Contains}
use Rattle.px_chain.proofs.Members.{Ascends-clause_of, IsOver-clause_of, all_from_has, has-clause_of, has_from_all, same_clause}
use Rattle.px_chain.proofs.Stores.{all_mapped}

-- what a genuine conflict learns
module _ (vars : ℕ) (clauses : List (List ℕ)) (entry : LogEntry) (is : IsGenuine vars clauses entry) where
  is_false : (m : ℕ) → has (clause_of entry.chain.claim) m ≡ true → m ≢ is.one_open.literal → Closed clauses entry.decisions (complement m)
  is_false m h ne = is.one_open.others m (Contains-has entry.chain.claim m (sym (has-clause_of entry.chain.claim m) ∙ h)) ne

  -- its open literal would follow from a clause that is there
  is_new : Contains clauses (clause_of entry.chain.claim) → ⊥
  is_new there = is.one_open.is_open.literal (Follows (clause_of entry.chain.claim) is.one_open.literal there
      (Contains-has (clause_of entry.chain.claim) is.one_open.literal (has-clause_of entry.chain.claim is.one_open.literal ∙ has-Contains entry.chain.claim is.one_open.literal is.one_open.within))
      (λ m within ne. is_false m (has-Contains (clause_of entry.chain.claim) m within) ne))

  -- of a literal and its complement, one that isn't open is false, and the other one is in the set
  never_both : (m : ℕ) → has (clause_of entry.chain.claim) m ≡ true → has (clause_of entry.chain.claim) (complement m) ≡ true → ⊥
  never_both m here other =
      ⊎_elim
      (λ e. is.one_open.is_open.literal (subst (Closed clauses entry.decisions) (complement-twice m ∙ e) (is_false (complement m) other (λ f. complement-other m (f ∙ sym e)))))
      (λ ne.
      ⊎_elim
      (λ e. is.one_open.is_open.literal (subst (Closed clauses entry.decisions) e (is_false m here ne)))
      (λ ne'. is.quiet (Both m (subst (Closed clauses entry.decisions) (complement-twice m) (is_false (complement m) other ne')) (is_false m here ne)))
      (cases_eq (complement m) is.one_open.literal))
      (cases_eq m is.one_open.literal)

-- no clause that is learnt is there before
all_new : (vars : ℕ) (clauses : List (List ℕ)) (log : List LogEntry) → GenuineFrom vars clauses log → AllByRecursion (λ c. Contains clauses c → ⊥) (learnt_by log)
all_new vars clauses [] all = tt
all_new vars clauses (entry ∷ log) all =
    let claim = clause_of entry.chain.claim in (
      is_new vars clauses entry all.0,
      all_mapped (λ c. Contains (clauses ++ claim ∷ []) c → ⊥) (λ c. Contains clauses c → ⊥) (learnt_by log)
          (λ c absent there. absent (Contains-append_left clauses (claim ∷ []) c there)) (all_new vars (clauses ++ claim ∷ []) log all.1),
    )

later_differ : (vars : ℕ) (clauses : List (List ℕ)) (entry : LogEntry) (log : List LogEntry) → GenuineFrom vars clauses (entry ∷ log)
    → AllByRecursion (λ c. clause_of entry.chain.claim ≢ c) (learnt_by log)
later_differ vars clauses entry log all =
    let claim = clause_of entry.chain.claim in
    all_mapped (λ c. Contains (clauses ++ claim ∷ []) c → ⊥) (λ c. claim ≢ c) (learnt_by log)
    (λ c absent e. absent (subst (Contains (clauses ++ claim ∷ [])) e (Contains-push clauses claim))) (all_new vars (clauses ++ claim ∷ []) log all.1)

all_get : {X : Type 0} (P : X → Type 0) (xs : List X) (i : ℕ) (d : X) → AllByRecursion P xs → i < length xs → P (get_or xs i d)
all_get P [] i d all lt = absurd (omega arith)
all_get P (x ∷ xs) zero d all lt = all.0
all_get P (x ∷ xs) (suc i) d all lt = all_get P xs i d all.1 (omega arith)

AllPairs-cons : {X : Type 0} (R : X → X → Type 0) (x : X) (xs : List X) → AllByRecursion (R x) xs → AllPairs R xs → AllPairs R (x ∷ xs)
AllPairs-cons R x xs first rest zero zero d lt within = absurd (omega arith)
AllPairs-cons R x xs first rest zero (suc j) d lt within = all_get (R x) xs j d first (omega arith)
AllPairs-cons R x xs first rest (suc i) zero d lt within = absurd (omega arith)
AllPairs-cons R x xs first rest (suc i) (suc j) d lt within = rest i j d (omega arith) (omega arith)

pub learnt-differ : (vars : ℕ) (clauses : List (List ℕ)) (log : List LogEntry) → GenuineFrom vars clauses log → AllPairs (λ c d. c ≢ d) (learnt_by log)
learnt-differ vars clauses [] all = λ i j d lt within. absurd (omega arith)
learnt-differ vars clauses (entry ∷ log) all =
    AllPairs-cons (λ c d. c ≢ d) (clause_of entry.chain.claim) (learnt_by log) (later_differ vars clauses entry log all)
    (learnt-differ vars (clauses ++ clause_of entry.chain.claim ∷ []) log all.1)

-- an ascending clause over variables that never holds both a literal and its complement
record IsPlain (vars : ℕ) (clause : List ℕ) : Type 0 where
  ascends : Ascends clause
  over : IsOver vars clause
  never_both : (m : ℕ) → has clause m ≡ true → has clause (complement m) ≡ true → ⊥

plain : (vars : ℕ) (clauses : List (List ℕ)) (entry : LogEntry) → IsGenuine vars clauses entry → IsPlain vars (clause_of entry.chain.claim)
plain vars clauses entry is = record {
  ascends = Ascends-clause_of entry.chain.claim;
  over = IsOver-clause_of vars entry.chain.claim is.claim_over;
  never_both = never_both vars clauses entry is;
}

all_plain : (vars : ℕ) (clauses : List (List ℕ)) (log : List LogEntry) → GenuineFrom vars clauses log → AllByRecursion (IsPlain vars) (learnt_by log)
all_plain vars clauses [] all = tt
all_plain vars clauses (entry ∷ log) all = (plain vars clauses entry all.0, all_plain vars (clauses ++ clause_of entry.chain.claim ∷ []) log all.1)

-- a greater literal of the same variable is the complement
next_is_complement : (l m : ℕ) → l < m → variable_of l ≡ variable_of m → m ≡ complement l
next_is_complement l m lt same = ⊎_elim (λ e. omega arith) (λ e. absurd (omega arith)) (by_variable l)

apart : (clause : List ℕ) → Ascends clause → ((m : ℕ) → has clause m ≡ true → has clause (complement m) ≡ true → ⊥) → HoldsNoVariableTwice clause
apart [] up never = λ i j d lt within. absurd (omega arith)
apart (l ∷ clause) up never =
    AllPairs-cons (λ a b. variable_of a ≢ variable_of b) l clause
    (all_from_has (λ k. variable_of l ≢ variable_of k) clause (λ k h same.
    never l (or_left (eqb l l) (has clause l) (eq-eqb l l refl))
    (subst (λ m. has (l ∷ clause) m ≡ true) (next_is_complement l k (has_from_all (λ m. l < m) clause up.0 k h) same) (or_right (eqb l k) (has clause k) h))))
    (apart clause up.1 (λ m here other. never m (or_right (eqb l m) (has clause m) here) (or_right (eqb l (complement m)) (has clause (complement m)) other)))

pub learnt-no_variable_twice : (vars : ℕ) (clauses : List (List ℕ)) (log : List LogEntry) → GenuineFrom vars clauses log → AllByRecursion HoldsNoVariableTwice (learnt_by log)
learnt-no_variable_twice vars clauses log all =
    all_mapped (IsPlain vars) HoldsNoVariableTwice (learnt_by log) (λ c is. apart c is.ascends is.never_both) (all_plain vars clauses log all)

-- the place of a clause among those that hold no variable twice: a digit tells of a variable that it doesn't stand there, or with which sign
abbrev digit_of : Bool → Bool → ℕ
digit_of positive negative = cond positive 1 (cond negative 2 0)

digit : List ℕ → ℕ → ℕ
digit clause v = digit_of (has clause (2 * v)) (has clause (2 * v + 1))

code : ℕ → List ℕ → ℕ
code zero clause = 0
code (suc v) clause = 3 * code v clause + digit clause v

digit-small : (clause : List ℕ) (v : ℕ) → digit clause v < 3
unfolding digit
digit-small clause v =
    cond_both (has clause (2 * v)) 1 (cond (has clause (2 * v + 1)) 2 0) (λ n. n < 3) (λ _. omega arith)
    (λ _. cond_both (has clause (2 * v + 1)) 2 0 (λ n. n < 3) (λ _. omega arith) (λ _. omega arith))

code-small : (vars : ℕ) (clause : List ℕ) → code vars clause < 3 ^ vars
unfolding code
code-small zero clause = omega arith
code-small (suc v) clause = rw (pow-succ' 3 v) (omega (arith, code-small v clause, digit-small clause v))

same_parts : (a b x y : ℕ) → 3 * a + x ≡ 3 * b + y → x < 3 → y < 3 → (a ≡ b) × (x ≡ y)
same_parts a b x y e small small' = (omega arith, omega arith)

code-same : (vars : ℕ) (c d : List ℕ) → code vars c ≡ code vars d → (v : ℕ) → v < vars → digit c v ≡ digit d v
unfolding code
code-same zero c d e v lt = absurd (omega arith)
code-same (suc n) c d e v lt =
    let parts = same_parts (code n c) (code n d) (digit c n) (digit d n) e (digit-small c n) (digit-small d n) in
    ⊎_elim (λ same. subst (λ w. digit c w ≡ digit d w) (sym same) parts.1) (λ ne. code-same n c d parts.0 v (omega arith)) (cases_eq v n)

signs : (p q r s : Bool) → (p ≡ true → q ≡ true → ⊥) → (r ≡ true → s ≡ true → ⊥) → digit_of p q ≡ digit_of r s → (p ≡ r) × (q ≡ s)
signs true true r s one other e = absurd (one refl refl)
signs true false true true one other e = absurd (other refl refl)
signs true false true false one other e = (refl, refl)
signs true false false true one other e = absurd (omega arith)
signs true false false false one other e = absurd (omega arith)
signs false true true true one other e = absurd (other refl refl)
signs false true true false one other e = absurd (omega arith)
signs false true false true one other e = (refl, refl)
signs false true false false one other e = absurd (omega arith)
signs false false true true one other e = absurd (other refl refl)
signs false false true false one other e = absurd (omega arith)
signs false false false true one other e = absurd (omega arith)
signs false false false false one other e = (refl, refl)

past : (vars : ℕ) (clause : List ℕ) (l : ℕ) → IsOver vars clause → vars ≤ l / 2 → has clause l ≡ false
past vars clause l over ge =
    false_from_ne_true (has clause l) (λ h. let lt : l / 2 < vars = has_from_all (λ m. variable_of m < vars) clause over l h in omega arith)

never_both_signs : (vars : ℕ) (clause : List ℕ) (v : ℕ) → IsPlain vars clause → has clause (2 * v) ≡ true → has clause (2 * v + 1) ≡ true → ⊥
never_both_signs vars clause v is here other = is.never_both (2 * v) here (subst (λ m. has clause m ≡ true) (sym (complement-even v)) other)

same_literals : (vars : ℕ) (c d : List ℕ) → IsPlain vars c → IsPlain vars d → code vars c ≡ code vars d → (l : ℕ) → has c l ≡ has d l
unfolding digit
same_literals vars c d is is' e l =
    let w = l / 2 in
    ⊎_elim
    (λ lt.
    let both = signs (has c (2 * w)) (has c (2 * w + 1)) (has d (2 * w)) (has d (2 * w + 1)) (never_both_signs vars c w is) (never_both_signs vars d w is') (code-same vars c d e w lt) in
    ⊎_elim (λ f. subst (λ k. has c k ≡ has d k) (sym f.0) both.0) (λ f. subst (λ k. has c k ≡ has d k) (sym f.0) both.1) (by_variable l))
    (λ ge. past vars c l is.over ge ∙ sym (past vars d l is'.over ge))
    (cases_lt w vars)

code-apart : (vars : ℕ) (c d : List ℕ) → IsPlain vars c → IsPlain vars d → c ≢ d → eqb (code vars c) (code vars d) ≡ false
code-apart vars c d is is' ne =
    ne_eqb (code vars c) (code vars d) (λ e. ne (same_clause c d is.ascends is'.ascends (same_literals vars c d is is' e)))

all_both : {X : Type 0} (P Q : X → Type 0) (xs : List X) → AllByRecursion P xs → AllByRecursion Q xs → AllByRecursion (λ x. P x × Q x) xs
all_both P Q [] p q = tt
all_both P Q (x ∷ xs) p q = ((p.0, q.0), all_both P Q xs p.1 q.1)

all_map : {X Y : Type 0} (f : X → Y) (P : X → Type 0) (Q : Y → Type 0) (xs : List X) → ((x : X) → P x → Q (f x)) → AllByRecursion P xs → AllByRecursion Q (map f xs)
all_map f P Q [] g all = tt
all_map f P Q (x ∷ xs) g all = (g x all.0, all_map f P Q xs g all.1)

codes-distinct : (vars : ℕ) (clauses : List (List ℕ)) (log : List LogEntry) → GenuineFrom vars clauses log → IsDistinct eqb (map (code vars) (learnt_by log))
unfolding IsDistinct
codes-distinct vars clauses [] all = tt
codes-distinct vars clauses (entry ∷ log) all =
    let claim = clause_of entry.chain.claim in (
      all_map (code vars) (λ c. (claim ≢ c) × IsPlain vars c) (λ n. eqb (code vars claim) n ≡ false) (learnt_by log) (λ c is. code-apart vars claim c (plain vars clauses entry all.0) is.1 is.0)
          (all_both (λ c. claim ≢ c) (IsPlain vars) (learnt_by log) (later_differ vars clauses entry log all) (all_plain vars (clauses ++ claim ∷ []) log all.1)),
      codes-distinct vars (clauses ++ claim ∷ []) log all.1,
    )

codes-small : (vars : ℕ) (clauses : List (List ℕ)) (n : ℕ) → list_any (eqb n) (map (code vars) clauses) ≡ true → n < 3 ^ vars
codes-small vars [] n h = absurd (false≢true h)
codes-small vars (c ∷ clauses) n h =
    ⊎_elim (λ e. subst (λ m. m < 3 ^ vars) (sym (eqb-true n (code vars c) e)) (code-small vars c)) (λ later. codes-small vars clauses n later)
    (or_cases (eqb n (code vars c)) (list_any (eqb n) (map (code vars) clauses)) h)

-- nor is it empty, since it has its open literal
not_empty : (vars : ℕ) (clauses : List (List ℕ)) (entry : LogEntry) → IsGenuine vars clauses entry → [] ≢ clause_of entry.chain.claim
not_empty vars clauses entry is e =
    let l = is.one_open.literal in
    false≢true (ap (λ c. has c l) e ∙ has-clause_of entry.chain.claim l ∙ has-Contains entry.chain.claim l is.one_open.within)

all_not_empty : (vars : ℕ) (clauses : List (List ℕ)) (log : List LogEntry) → GenuineFrom vars clauses log → AllByRecursion (λ c. [] ≢ c) (learnt_by log)
all_not_empty vars clauses [] all = tt
all_not_empty vars clauses (entry ∷ log) all = (not_empty vars clauses entry all.0, all_not_empty vars (clauses ++ clause_of entry.chain.claim ∷ []) log all.1)

none_plain : (vars : ℕ) → IsPlain vars []
none_plain vars = record { ascends = tt; over = tt; never_both = λ m here other. false≢true here }

-- the codes of the empty clause and of those that are learnt
all_codes-distinct : (vars : ℕ) (clauses : List (List ℕ)) (log : List LogEntry) → GenuineFrom vars clauses log → IsDistinct eqb (map (code vars) ([] ∷ learnt_by log))
unfolding IsDistinct
all_codes-distinct vars clauses log all = (
  all_map (code vars) (λ c. ([] ≢ c) × IsPlain vars c) (λ n. eqb (code vars []) n ≡ false) (learnt_by log) (λ c is. code-apart vars [] c (none_plain vars) is.1 is.0)
      (all_both (λ c. [] ≢ c) (IsPlain vars) (learnt_by log) (all_not_empty vars clauses log all) (all_plain vars clauses log all)),
  codes-distinct vars clauses log all,
)

-- so many clauses beside the empty one have so many codes
pub log-short : (vars : ℕ) (clauses : List (List ℕ)) (log : List LogEntry) → GenuineFrom vars clauses log → length log < 3 ^ vars
log-short vars clauses log all =
    let count = length-le_from_distinct_below (map (code vars) ([] ∷ learnt_by log)) (3 ^ vars) (all_codes-distinct vars clauses log all) (codes-small vars ([] ∷ learnt_by log)) in
    let learnt = length-map log (λ (entry : LogEntry). clause_of entry.chain.claim) in
    let coded = length-map (learnt_by log) (code vars) in
    omega (arith, count, learnt, coded)
