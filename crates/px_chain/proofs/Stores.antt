-- The list of clauses in a store: its length, each clause, and one more.
use Rattle.std.proofs.Common.{◌≡◌, ℕ, zero, suc, ◌+◌, ◌-◌, ◌<◌, ◌≤◌, ◌^◌, List, [], ◌∷◌, ◌++◌, length, take, drop, get_or, Some, refl, ap, ap₂, ◌∙◌, subst, arith, length-append, length-drop}
use Rattle.std.proofs.Math.Seq.{drop-append_seam, take-length}
use Rattle.std.proofs.lemmas.List.{drop-append-le, take-append-le}
use Rattle.std.specs.List.{AllByRecursion, slice_get}
use Rattle.px_chain.specs.Clause.{Ascends, IsOver, clause_of}
use Rattle.px_chain.specs.Store.{clauses_between, Ascend, IsStored, start_in}
use Rattle.px_chain.proofs.Members.{IsOver-clause_of, Ascends-clause_of}

pub length-clauses_between : (literals : List ℕ) (start : ℕ) (ends : List ℕ) → length (clauses_between literals start ends) ≡ length ends
length-clauses_between literals start [] = refl
length-clauses_between literals start (end ∷ ends) = ap suc (length-clauses_between literals end ends)

-- one clause more, at the end of the store
pub clauses_between-push : (literals more : List ℕ) (start : ℕ) (ends : List ℕ) (end : ℕ) → Ascend start literals ends → end ≡ length literals + length more
    → clauses_between (literals ++ more) start (ends ++ end ∷ []) ≡ clauses_between literals start ends ++ more ∷ []
clauses_between-push literals more start [] end up e =
    let front : drop start (literals ++ more) ≡ more = rw up (drop-append_seam literals more) in
    let size : end - start ≡ length more = omega arith in
    ap (λ c. c ∷ []) (ap₂ take size front ∙ take-length more)
clauses_between-push literals more start (e₁ ∷ ends) end up e =
    let front : take (e₁ - start) (drop start (literals ++ more)) ≡ take (e₁ - start) (drop start literals) =
    let within : start ≤ length literals = omega (arith, up.0, up.1) in
    rw (drop-append-le start literals more within) (take-append-le (e₁ - start) (drop start literals) more (omega (arith, length-drop start literals, up.1))) in
    ap₂ (λ c cs. c ∷ cs) front (clauses_between-push literals more e₁ ends end up.2 e)

pub Ascend-push : (literals more : List ℕ) (start : ℕ) (ends : List ℕ) (end : ℕ) → Ascend start literals ends → end ≡ length literals + length more
    → Ascend start (literals ++ more) (ends ++ end ∷ [])
Ascend-push literals more start [] end up e = let n = length-append literals more in (omega arith, omega arith, omega arith)
Ascend-push literals more start (e₁ ∷ ends) end up e = let n = length-append literals more in (up.0, omega (arith, up.1), Ascend-push literals more e₁ ends end up.2 e)

pub clauses_between-at : (literals : List ℕ) (start : ℕ) (ends : List ℕ) (n : ℕ) → n < length ends
    → slice_get (clauses_between literals start ends) n ≡ Some (take (get_or ends n 0 - start_in start ends n) (drop (start_in start ends n) literals))
clauses_between-at literals start [] n lt = absurd (omega arith)
clauses_between-at literals start (end ∷ ends) zero lt = refl
clauses_between-at literals start (end ∷ ends) (suc zero) lt = clauses_between-at literals end ends zero (omega arith)
clauses_between-at literals start (end ∷ ends) (suc (suc n)) lt = clauses_between-at literals end ends (suc n) (omega arith)

pub Ascend-at : (literals : List ℕ) (start : ℕ) (ends : List ℕ) (n : ℕ) → Ascend start literals ends → n < length ends
    → (start_in start ends n ≤ get_or ends n 0) × (get_or ends n 0 ≤ length literals)
Ascend-at literals start [] n up lt = absurd (omega arith)
Ascend-at literals start (end ∷ ends) zero up lt = (up.0, up.1)
Ascend-at literals start (end ∷ ends) (suc zero) up lt = Ascend-at literals end ends zero up.2 (omega arith)
Ascend-at literals start (end ∷ ends) (suc (suc n)) up lt = Ascend-at literals end ends (suc n) up.2 (omega arith)

-- a fact of all clauses is one of the clause of a number
pub all_at : {X : Type 0} (P : X → Type 0) (xs : List X) (n : ℕ) (x : X) → AllByRecursion P xs → slice_get xs n ≡ Some x → P x
all_at P [] n x all e = absurd (cc)
all_at P (y ∷ xs) zero x all e = let s : y ≡ x = cc in subst P s all.0
all_at P (y ∷ xs) (suc n) x all e = all_at P xs n x all.1 e

pub all_push : {X : Type 0} (P : X → Type 0) (xs : List X) (x : X) → AllByRecursion P xs → P x → AllByRecursion P (xs ++ x ∷ [])
all_push P [] x all here = (here, tt)
all_push P (y ∷ xs) x all here = (all.0, all_push P xs x all.1 here)

-- what follows from a fact of each element
pub all_mapped : {X : Type 0} (P Q : X → Type 0) (xs : List X) → ((x : X) → P x → Q x) → AllByRecursion P xs → AllByRecursion Q xs
all_mapped P Q [] f all = tt
all_mapped P Q (y ∷ xs) f all = (f y all.0, all_mapped P Q xs f all.1)

abbrev pub IsClause : ℕ → List ℕ → Type 0
IsClause vars clause = Ascends clause × IsOver vars clause

recursion_widen : (vars wider : ℕ) (clause : List ℕ) → vars ≤ wider → IsOver vars clause → IsOver wider clause
recursion_widen vars wider [] le over = tt
recursion_widen vars wider (l ∷ clause) le over = (omega (arith, over.0), recursion_widen vars wider clause le over.1)

-- a clause more
pub IsStored-push : (vars : ℕ) (literals ends clause : List ℕ) → IsStored vars literals ends → IsOver vars clause
    → IsStored vars (literals ++ clause_of clause) (ends ++ length (literals ++ clause_of clause) ∷ [])
IsStored-push vars literals ends clause stored over =
    let more = clause_of clause in
    let e = length-append literals more in
    record {
      ends_ascend = Ascend-push literals more 0 ends (length (literals ++ more)) stored.ends_ascend e;
      formula = rw (clauses_between-push literals more 0 ends (length (literals ++ more)) stored.ends_ascend e)
          (all_push (IsClause vars) (clauses_between literals 0 ends) more stored.formula (Ascends-clause_of clause, IsOver-clause_of vars clause over));
      few = stored.few;
    }

-- more variables
pub IsStored-widen : (vars wider : ℕ) (literals ends : List ℕ) → IsStored vars literals ends → vars ≤ wider → wider ≤ 2 ^ 31 → IsStored wider literals ends
IsStored-widen vars wider literals ends stored le limit = record {
  ends_ascend = stored.ends_ascend;
  formula = all_mapped (IsClause vars) (IsClause wider) (clauses_between literals 0 ends)
      (λ clause is. (is.0, recursion_widen vars wider clause le is.1)) stored.formula;
  few = limit;
}
