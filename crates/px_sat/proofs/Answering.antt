-- What a search has learnt makes each of its answers right.
use Rattle.std.proofs.Common.{◌≡◌, ℕ, ◌^◌, ◌<◌, ◌≤◌, List, [], ◌∷◌, ◌++◌, Bool, length, ap, sym, ◌∙◌, subst, arith, length-append}
use Rattle.std.proofs.lemmas.List.{length-map}
use Rattle.px_chain.specs.declared.chain.Chain.{Chain}
use Rattle.px_chain.specs.declared.chain.LogEntry.{LogEntry}
use Rattle.px_chain.specs.Clause.{Formula, IsFormula}
use Rattle.px_chain.specs.Resolution.{Derives, Refutes}
use Rattle.px_chain.proofs.Learning.{log-short}
use Rattle.px_chain.proofs.Logs.{grown}
use Rattle.px_trail.specs.Trail.{View}
use Rattle.px_sat.specs.declared.answer.Answer.TheVariants.{Found, Refutation, Spent}
use Rattle.px_sat.specs.Answer.{Settles, assignment_of}
use Rattle.px_sat.specs.declared.turn.Turn.TheVariants.{Met, Refuted}
use Rattle.px_sat.specs.Search.{chains_of}
use Rattle.px_sat.specs.Turn.{TurnsTo}
use Rattle.px_sat.proofs.Settling.{HasLearnt, meets-whole, refutes-by}

pub found_settles : (f : Formula) (log : List LogEntry) (start v : View) (values : List Bool) (budget : ℕ) → IsFormula f → HasLearnt f log start → v.vars ≡ start.vars
    → v.clauses ≡ start.clauses → TurnsTo v (Met values) → Settles f budget (Found values)
found_settles f log start v values budget formed learnt vars clauses turn = (
  turn.2.size ∙ vars ∙ learnt.vars,
  meets-whole f log v (assignment_of values) formed (clauses ∙ learnt.clauses) (vars ∙ learnt.vars) turn.0 turn.1 turn.2.each,
)

pub refutation_settles : (f : Formula) (log : List LogEntry) (start v : View) (chain : Chain) (chains : List Chain) (conflict budget : ℕ) → HasLearnt f log start → v.clauses ≡ start.clauses
    → TurnsTo v (Refuted chain) → chains ≡ chains_of log ++ chain ∷ [] → length log ≡ conflict → conflict < budget → Settles f budget (Refutation chains)
refutation_settles f log start v chain chains conflict budget learnt clauses turn are count more =
    let here : Derives (grown f.clauses log) chain = subst (λ cs. Derives cs chain) (clauses ∙ learnt.clauses) turn.0 in
    let size = ap length are ∙ length-append (chains_of log) (chain ∷ []) in
    let same = length-map log (λ (entry : LogEntry). entry.chain) in (
      subst (Refutes f.clauses) (sym are) (refutes-by f.vars f.clauses log chain learnt.genuine here turn.1),
      omega arith,
    )

pub spent_settles : (f : Formula) (log items : List LogEntry) (v : View) (conflict budget : ℕ) → HasLearnt f log v → items ≡ log → length log ≡ conflict → conflict ≡ budget → Settles f budget (Spent items)
spent_settles f log items v conflict budget learnt are count all =
    subst (λ (l : List LogEntry). Settles f budget (Spent l)) (sym are) (learnt.genuine, count ∙ all)

-- a budget that is large enough isn't spent
pub never_spent : (f : Formula) (log : List LogEntry) (v : View) (conflict budget : ℕ) → HasLearnt f log v → length log ≡ conflict → conflict ≡ budget → 3 ^ f.vars ≤ budget → ⊥
never_spent f log v conflict budget learnt count all enough = let short = log-short f.vars f.clauses log learnt.genuine in omega arith
