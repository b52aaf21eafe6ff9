-- What a search has learnt, and what its answers say.
use Rattle.std.proofs.Common.{◌≡◌, ℕ, suc, ◌<◌, true, false, not, List, [], ◌∷◌, ◌++◌, length, Option, Some, None, refl, ap, ap₂, sym, ◌∙◌, subst, ⊎_elim, arith}
use Rattle.std.specs.Prelude.{IsSome, unwrap_or}
use Rattle.std.specs.List.{AllByRecursion, Contains}
use Rattle.std.specs.Option.{option_map}
use Rattle.std.proofs.lemmas.Bool.{both_ways, cases_Bool, cond-false, cond-true, false_from_ne_true, true≢false}
use Rattle.std.proofs.lemmas.List.Elements.{All-contains, All-from_recursion, Contains-append_left}
use Rattle.px_chain.specs.declared.chain.Chain.{Chain}
use Rattle.px_chain.specs.declared.chain.LogEntry.{LogEntry}
use Rattle.px_chain.specs.Clause.{Ascends, Valuation, Formula, IsFormula, IsOver, MeetsAll, clause_of, complement, has, holds, is_negated, meets, variable_of}
use Rattle.px_chain.specs.Propagation.{GenuineFrom, IsGenuine}
use Rattle.px_chain.specs.Resolution.{Derives, Refutes}
use Rattle.px_chain.proofs.Logs.{GenuineFrom-push, grown, grown-push}
use Rattle.px_chain.proofs.Members.{has_from_all}
use Rattle.px_chain.proofs.Refuting.{AllDerive, AllDerive-push, Refutes-last, grown as grown_by}
use Rattle.px_chain.proofs.Soundness.{meets_by}
use Rattle.px_trail.specs.declared.assignment.Known.{Known}
use Rattle.px_trail.specs.Trail.{IsQuiet, View, decisions_of, known_of, literals_of, value_of}
use Rattle.px_trail.proofs.Lookups.{known-has, same_variable}
use Rattle.px_trail.proofs.Trails.{false-conflict}
use Rattle.px_sat.specs.Descent.{IsWhole}
use Rattle.px_sat.specs.Search.{chains_of, formula_over}

-- How far a search has come: what was learnt is genuine, the trail is over it, and nothing is decided.
pub record HasLearnt (f : Formula) (log : List LogEntry) (v : View) : Type 0 where
  pub genuine : GenuineFrom f.vars f.clauses log
  pub clauses : v.clauses ≡ grown f.clauses log
  pub vars : v.vars ≡ f.vars
  pub undecided : decisions_of v.steps ≡ []

pub none_decided : (ds : List ℕ) → length ds ≡ 0 → ds ≡ []
none_decided [] e = refl
none_decided (d ∷ ds) e = absurd (omega arith)

pub learnt-start : (f : Formula) (log : List LogEntry) (v : View) → log ≡ [] → v.vars ≡ f.vars → v.clauses ≡ f.clauses → v.steps ≡ [] → HasLearnt f log v
learnt-start f log v none vars clauses steps = record {
  genuine = subst (GenuineFrom f.vars f.clauses) (sym none) tt;
  clauses = clauses ∙ ap (grown f.clauses) (sym none);
  vars = vars;
  undecided = ap decisions_of steps;
}

-- one entry more
pub learnt-push : (f : Formula) (log : List LogEntry) (start down end : View) (entry : LogEntry) → HasLearnt f log start → down.vars ≡ start.vars → down.clauses ≡ start.clauses
    → IsGenuine down.vars down.clauses entry → end.vars ≡ down.vars → end.clauses ≡ down.clauses ++ clause_of entry.chain.claim ∷ [] → decisions_of end.steps ≡ []
    → HasLearnt f (log ++ entry ∷ []) end
learnt-push f log start down end entry has_learnt vars clauses genuine vars' clauses' none =
    let here : IsGenuine f.vars (grown f.clauses log) entry =
    subst (λ n. IsGenuine n (grown f.clauses log) entry) (vars ∙ has_learnt.vars) (subst (λ cs. IsGenuine down.vars cs entry) (clauses ∙ has_learnt.clauses) genuine) in
    record {
      genuine = GenuineFrom-push f.vars f.clauses log entry has_learnt.genuine here;
      clauses = clauses' ∙ ap (λ cs. cs ++ clause_of entry.chain.claim ∷ []) (clauses ∙ has_learnt.clauses) ∙ sym (grown-push f.clauses log entry);
      vars = vars' ∙ vars ∙ has_learnt.vars;
      undecided = none;
    }

-- the formula's clauses stay
grown-keeps : (clauses : List (List ℕ)) (log : List LogEntry) (c : List ℕ) → Contains clauses c → Contains (grown clauses log) c
grown-keeps clauses [] c there = there
grown-keeps clauses (entry ∷ log) c there =
    grown-keeps (clauses ++ clause_of entry.chain.claim ∷ []) log c (Contains-append_left clauses (clause_of entry.chain.claim ∷ []) c there)

all_from_contains : (P : List ℕ → Type 0) (xs : List (List ℕ)) → ((x : List ℕ) → Contains xs x → P x) → AllByRecursion P xs
all_from_contains P [] each = tt
all_from_contains P (x ∷ xs) each = (each x (0, omega arith, refl), all_from_contains P xs (λ y there. each y (suc there.0, omega (arith, there.1), there.2)))

-- the literal that a variable with a value has
value-known : (o : Option Known) → IsSome (option_map (λ (k : Known). not (is_negated k.literal)) o)
    → (k : Known) × (o ≡ Some k) × (unwrap_or (option_map (λ (k : Known). not (is_negated k.literal)) o) false ≡ not (is_negated k.literal))
value-known None is = absurd (true≢false (sym is))
value-known (Some k) is = (k, refl, refl)

-- a literal of which the variable has its value holds
holds-stood : (a : Valuation) (l : ℕ) → a (variable_of l) ≡ not (is_negated l) → holds a l ≡ true
holds-stood a l e =
    ⊎_elim
    (λ yes. cond-true (is_negated l) (not (a (variable_of l))) (a (variable_of l)) yes ∙ ap not (e ∙ ap not yes))
    (λ no_sign. cond-false (is_negated l) (not (a (variable_of l))) (a (variable_of l)) no_sign ∙ e ∙ ap not no_sign)
    (cases_Bool (is_negated l))

-- a literal that doesn't hold is false on the trail
fails-false : (v : View) (a : Valuation) (l : ℕ) → IsSome (value_of v.steps (variable_of l)) → a (variable_of l) ≡ unwrap_or (value_of v.steps (variable_of l)) false → holds a l ≡ false
    → has (literals_of v.steps) (complement l) ≡ true
fails-false v a l is same fails =
    let w = value-known (known_of v.steps (variable_of l)) is in
    let there = known-has 0 v.steps (variable_of l) w.0 w.1 in
    ⊎_elim
    (λ e. absurd (both_ways (holds a l) fails (holds-stood a l (same ∙ w.2 ∙ ap (λ m. not (is_negated m)) e))))
    (λ e. subst (λ m. has (literals_of v.steps) m ≡ true) e there.0)
    (same_variable l w.0.literal there.1)

-- where nothing more follows and each variable has a value, every clause is met
pub meets-whole : (f : Formula) (log : List LogEntry) (v : View) (a : Valuation) → IsFormula f → v.clauses ≡ grown f.clauses log → v.vars ≡ f.vars → IsQuiet v → IsWhole v
    → ((variable : ℕ) → variable < v.vars → a variable ≡ unwrap_or (value_of v.steps variable) false) → MeetsAll a f.clauses
meets-whole f log v a formed clauses vars quiet whole values =
    all_from_contains (λ clause. meets a clause ≡ true) f.clauses (λ clause there.
    ⊎_elim
    (λ met. met)
    (λ unmet.
    let over : IsOver f.vars clause = (All-contains (λ c. Ascends c × IsOver f.vars c) f.clauses clause (All-from_recursion (λ c. Ascends c × IsOver f.vars c) f.clauses formed) there).1 in
    let here : Contains v.clauses clause = subst (λ (cs : List (List ℕ)). Contains cs clause) (sym clauses) (grown-keeps f.clauses log clause there) in
    absurd (quiet.no_conflict (false-conflict v.clauses (decisions_of v.steps) clause here (λ l h.
    let below : variable_of l < v.vars = (let lt : variable_of l < f.vars = has_from_all (λ m. variable_of m < f.vars) clause over l h in omega arith) in
    (quiet.closure (complement l)).0
    (fails-false v a l (whole (variable_of l) below) (values (variable_of l) below)
    (false_from_ne_true (holds a l) (λ held. both_ways (meets a clause) unmet (meets_by a clause l h held))))))))
    (cases_Bool (meets a clause)))

-- the chains of a genuine log derive what it learns
logs-derive : (vars : ℕ) (clauses : List (List ℕ)) (log : List LogEntry) → GenuineFrom vars clauses log → AllDerive clauses (chains_of log)
logs-derive vars clauses [] all = tt
logs-derive vars clauses (entry ∷ log) all = (all.0.derives, logs-derive vars (clauses ++ clause_of entry.chain.claim ∷ []) log all.1)

grown-chains : (clauses : List (List ℕ)) (log : List LogEntry) → grown_by clauses (chains_of log) ≡ grown clauses log
grown-chains clauses [] = refl
grown-chains clauses (entry ∷ log) = grown-chains (clauses ++ clause_of entry.chain.claim ∷ []) log

-- a chain to the empty clause makes a refutation of them
pub refutes-by : (vars : ℕ) (clauses : List (List ℕ)) (log : List LogEntry) (chain : Chain) → GenuineFrom vars clauses log → Derives (grown clauses log) chain → chain.claim ≡ []
    → Refutes clauses (chains_of log ++ chain ∷ [])
refutes-by vars clauses log chain all here empty =
    Refutes-last clauses (chains_of log) chain
    (AllDerive-push clauses (chains_of log) chain (logs-derive vars clauses log all) (subst (λ cs. Derives cs chain) (sym (grown-chains clauses log)) here)) empty

-- the formula that a trail is over, by its parts
pub over-same : (f : Formula) (v : View) → v.vars ≡ f.vars → v.clauses ≡ f.clauses → formula_over v ≡ f
over-same f v vars clauses = ap₂ (λ (n : ℕ) (cs : List (List ℕ)). let g : Formula = record { vars = n; clauses = cs } in g) vars clauses
