-- Entries of a log one after another: what the first that isn't genuine makes of all.
use Rattle.std.proofs.Common.{◌≡◌, ℕ, suc, ◌+◌, ◌≤◌, ◌<◌, List, [], ◌∷◌, ◌++◌, length, get_or, take, drop, refl, ap, sym, ◌∙◌, subst, inl, inr, ⊎_elim, arith, length-take, take_all}
use Rattle.px_chain.specs.declared.chain.LogEntry.{LogEntry}
use Rattle.px_chain.specs.declared.chain.LogFault.TheVariants as log_faults
use Rattle.px_chain.specs.Clause.{Formula, clause_of}
use Rattle.px_chain.specs.Propagation.{FirstBad, GenuineFrom, IsGenuine, IsGenuineLog}
use Rattle.px_chain.specs.Verdict.{BlamesEntry}
use Rattle.px_chain.proofs.Refuting.{one_more, split_at}

-- clauses with those that a log learns
abbrev pub grown : List (List ℕ) → List LogEntry → List (List ℕ)
grown clauses [] = clauses
grown clauses (entry ∷ log) = grown (clauses ++ clause_of entry.chain.claim ∷ []) log

pub grown-push : (clauses : List (List ℕ)) (log : List LogEntry) (entry : LogEntry) → grown clauses (log ++ entry ∷ []) ≡ grown clauses log ++ clause_of entry.chain.claim ∷ []
grown-push clauses [] entry = refl
grown-push clauses (e ∷ log) entry = grown-push (clauses ++ clause_of e.chain.claim ∷ []) log entry

-- one entry more
pub GenuineFrom-push : (vars : ℕ) (clauses : List (List ℕ)) (log : List LogEntry) (entry : LogEntry) → GenuineFrom vars clauses log → IsGenuine vars (grown clauses log) entry
    → GenuineFrom vars clauses (log ++ entry ∷ [])
GenuineFrom-push vars clauses [] entry all here = (here, tt)
GenuineFrom-push vars clauses (e ∷ log) entry all here = (all.0, GenuineFrom-push vars (clauses ++ clause_of e.chain.claim ∷ []) log entry all.1 here)

-- the first entry that isn't genuine
FirstBad-at : (k n vars : ℕ) (clauses : List (List ℕ)) (front : List LogEntry) (entry : LogEntry) (back : List LogEntry) → n ≡ k + length front → GenuineFrom vars clauses front
    → (IsGenuine vars (grown clauses front) entry → ⊥) → FirstBad k vars clauses (front ++ entry ∷ back) n
FirstBad-at k n vars clauses [] entry back number all bad = inl (omega arith, bad)
FirstBad-at k n vars clauses (e ∷ front) entry back number all bad =
    inr (all.0, FirstBad-at (k + 1) n vars (clauses ++ clause_of e.chain.claim ∷ []) front entry back (omega arith) all.1 bad)

-- a log with such an entry isn't genuine
not_genuine : (k n vars : ℕ) (clauses : List (List ℕ)) (log : List LogEntry) → FirstBad k vars clauses log n → GenuineFrom vars clauses log → ⊥
not_genuine k n vars clauses [] bad all = bad
not_genuine k n vars clauses (entry ∷ log) bad all =
    ⊎_elim (λ here. here.1 all.0) (λ later. not_genuine (k + 1) n vars (clauses ++ clause_of entry.chain.claim ∷ []) log later.1 all.1) bad

-- how far the entries were genuine
pub record AreGenuine (f : Formula) (log : List LogEntry) (i : ℕ) (premises : Formula) : Type 0 where
  pub genuine : GenuineFrom f.vars f.clauses (take i log)
  pub all : premises.clauses ≡ grown f.clauses (take i log)
  pub vars : premises.vars ≡ f.vars

pub AreGenuine-none : (f : Formula) (log : List LogEntry) (premises : Formula) → premises.vars ≡ f.vars → premises.clauses ≡ f.clauses → AreGenuine f log 0 premises
AreGenuine-none f log premises vars e = record { genuine = tt; all = e; vars = vars }

pub AreGenuine-more : (f : Formula) (log : List LogEntry) (i : ℕ) (premises more : Formula) (entry : LogEntry) → i < length log → entry ≡ get_or log i entry
    → AreGenuine f log i premises → IsGenuine premises.vars premises.clauses entry → more.vars ≡ premises.vars → more.clauses ≡ premises.clauses ++ clause_of entry.chain.claim ∷ []
    → AreGenuine f log (i + 1) more
AreGenuine-more f log i premises more entry lt is so_far here vars added =
    let front = one_more log i entry lt is in
    let genuine : IsGenuine f.vars (grown f.clauses (take i log)) entry =
    subst (λ n. IsGenuine n (grown f.clauses (take i log)) entry) so_far.vars (subst (λ p. IsGenuine premises.vars p entry) so_far.all here) in
    record {
      genuine = rw front (GenuineFrom-push f.vars f.clauses (take i log) entry so_far.genuine genuine);
      all = added ∙ ap (λ p. p ++ clause_of entry.chain.claim ∷ []) so_far.all ∙ sym (grown-push f.clauses (take i log) entry) ∙ ap (grown f.clauses) (sym front);
      vars = vars ∙ so_far.vars;
    }

pub AreGenuine-bad : (f : Formula) (log : List LogEntry) (i : ℕ) (premises : Formula) (entry : LogEntry) → i < length log → entry ≡ get_or log i entry
    → AreGenuine f log i premises → (IsGenuine premises.vars premises.clauses entry → ⊥) → BlamesEntry f log (log_faults.BadEntry i)
AreGenuine-bad f log i premises entry lt is so_far bad =
    let bad_there = λ (here : IsGenuine f.vars (grown f.clauses (take i log)) entry).
    bad (subst (λ n. IsGenuine n premises.clauses entry) (sym so_far.vars) (subst (λ p. IsGenuine f.vars p entry) (sym so_far.all) here)) in
    let first : FirstBad 0 f.vars f.clauses log i =
    subst (λ (l : List LogEntry). FirstBad 0 f.vars f.clauses l i) (sym (split_at log i entry lt is))
    (FirstBad-at 0 i f.vars f.clauses (take i log) entry (drop (suc i) log) (omega (arith, length-take i log)) so_far.genuine bad_there) in
    (first, not_genuine 0 i f.vars f.clauses log first)

pub AreGenuine-all : (f : Formula) (log : List LogEntry) (i : ℕ) (premises : Formula) → AreGenuine f log i premises → length log ≤ i → IsGenuineLog f log
AreGenuine-all f log i premises so_far whole = subst (GenuineFrom f.vars f.clauses) (take_all i log whole) so_far.genuine
