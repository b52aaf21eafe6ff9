-- Chains one after another: what the first that fails makes of all, and the last claim.
use Rattle.std.proofs.Common.{Ok, Err, ◌≡◌, ◌≢◌, ℕ, zero, suc, ◌+◌, ◌-◌, ◌≤◌, subst, take-append-drop, drop-cons, length-take, take_all, ◌<◌, true, List, [], ◌∷◌, ◌++◌, length, get_or, take, drop, Option, Some, None, refl, ap, ap₂, sym, ◌∙◌, arith}
use Rattle.std.proofs.lemmas.Bool.{cond-true}
use Rattle.std.proofs.lemmas.List.{take_more}
use Rattle.std.proofs.lemmas.Slice.Eq.{bytes_eq-Decides}
use Rattle.std.specs.Prelude.{option_map, IfErr, OnErr, Result}
use Rattle.std.specs.List.{slice_get}
use Rattle.std.specs.Str.{bytes_eq}
use Rattle.px_chain.specs.declared.chain.Chain.{Chain}
use Rattle.px_chain.specs.declared.chain.ChainFault.{ChainFault}
use Rattle.px_chain.specs.declared.chain.ChainFault.TheVariants as chain_faults
use Rattle.px_chain.specs.declared.chain.Refuted.{Refuted}
use Rattle.px_chain.specs.declared.chain.Why.{Why}
use Rattle.px_chain.specs.declared.chain.Why.TheVariants as whys
use Rattle.px_chain.specs.declared.fault.Fault.TheVariants as faults
use Rattle.px_chain.specs.declared.fault.Fault.{Fault}
use Rattle.px_chain.specs.Clause.{clause_of}
use Rattle.px_chain.specs.Fault.{IsBlamed, blamed}
use Rattle.px_chain.specs.Verdict.{Blames, last_claim}
use Rattle.px_chain.specs.Resolution.{Derives, Refutes, StepFault, fault_in, fault_of, fault_or, first_fault, last_fault}

-- each chain resolves clauses and earlier claims to its claim
abbrev pub AllDerive : List (List ℕ) → List Chain → Type 0
AllDerive clauses [] = Unit {0}
AllDerive clauses (chain ∷ chains) = Derives clauses chain × AllDerive (clauses ++ clause_of chain.claim ∷ []) chains

-- clauses with the claims of chains
abbrev pub grown : List (List ℕ) → List Chain → List (List ℕ)
grown clauses [] = clauses
grown clauses (chain ∷ chains) = grown (clauses ++ clause_of chain.claim ∷ []) chains

pub grown-push : (clauses : List (List ℕ)) (chains : List Chain) (chain : Chain) → grown clauses (chains ++ chain ∷ []) ≡ grown clauses chains ++ clause_of chain.claim ∷ []
grown-push clauses [] chain = refl
grown-push clauses (c ∷ chains) chain = grown-push (clauses ++ clause_of c.claim ∷ []) chains chain

pub AllDerive-push : (clauses : List (List ℕ)) (chains : List Chain) (chain : Chain) → AllDerive clauses chains → Derives (grown clauses chains) chain → AllDerive clauses (chains ++ chain ∷ [])
AllDerive-push clauses [] chain all here = (here, tt)
AllDerive-push clauses (c ∷ chains) chain all here = (all.0, AllDerive-push (clauses ++ clause_of c.claim ∷ []) chains chain all.1 here)

-- a chain that derives its claim has no fault
no_fault : (clauses : List (List ℕ)) (chain : Chain) → Derives clauses chain → fault_of clauses chain ≡ None
no_fault clauses chain is =
    let same : bytes_eq (clause_of chain.claim) (clause_of chain.claim) ≡ true = (bytes_eq-Decides (clause_of chain.claim) (clause_of chain.claim)).1 refl in
    ap (λ r. fault_in r (clause_of chain.claim)) is ∙ cond-true (bytes_eq (clause_of chain.claim) (clause_of chain.claim)) None (Some (whys.Claim (clause_of chain.claim) (clause_of chain.claim))) same

fault_here : (k n : ℕ) (fault : Option Why) (rest : Option StepFault) (why : Why) → n ≡ k → fault ≡ Some why → fault_or k fault rest ≡ Some (n, why)
fault_here k n fault rest why number e = ap₂ (λ o m. fault_or m o rest) e (sym number)

fault_later : (k : ℕ) (fault : Option Why) (rest last : Option StepFault) → fault ≡ None → rest ≡ last → fault_or k fault rest ≡ last
fault_later k fault rest last none e = ap (λ o. fault_or k o rest) none ∙ e

-- the first chain that has a fault
pub first_fault-at : (k n : ℕ) (clauses : List (List ℕ)) (front : List Chain) (chain : Chain) (back : List Chain) (why : Why) → n ≡ k + length front → AllDerive clauses front
    → fault_of (grown clauses front) chain ≡ Some why → first_fault k clauses (front ++ chain ∷ back) ≡ Some (n, why)
first_fault-at k n clauses [] chain [] why number all e = fault_here k n (fault_of clauses chain) _ why (omega arith) e
first_fault-at k n clauses [] chain (next ∷ back) why number all e = fault_here k n (fault_of clauses chain) _ why (omega arith) e
first_fault-at k n clauses (c ∷ []) chain back why number all e =
    fault_later k (fault_of clauses c) _ _ (no_fault clauses c all.0) (first_fault-at (k + 1) n (clauses ++ clause_of c.claim ∷ []) [] chain back why (omega arith) tt e)
first_fault-at k n clauses (c ∷ d ∷ front) chain back why number all e =
    fault_later k (fault_of clauses c) _ _ (no_fault clauses c all.0) (first_fault-at (k + 1) n (clauses ++ clause_of c.claim ∷ []) (d ∷ front) chain back why (omega arith) all.1 e)

last_fault-at : (k n : ℕ) (claim : List ℕ) → n ≡ k → claim ≢ [] → last_fault k claim ≡ Some (n, whys.NotEmpty)
last_fault-at k n [] number ne = absurd (ne refl)
last_fault-at k n (l ∷ claim) number ne = ap (λ m. Some (m, whys.NotEmpty)) (sym number)

-- where the last claim isn't empty
pub first_fault-last : (k n : ℕ) (clauses : List (List ℕ)) (front : List Chain) (chain : Chain) → n ≡ k + length front → AllDerive clauses (front ++ chain ∷ []) → chain.claim ≢ []
    → first_fault k clauses (front ++ chain ∷ []) ≡ Some (n, whys.NotEmpty)
first_fault-last k n clauses [] chain number all ne = fault_later k (fault_of clauses chain) _ _ (no_fault clauses chain all.0) (last_fault-at k n chain.claim (omega arith) ne)
first_fault-last k n clauses (c ∷ []) chain number all ne =
    fault_later k (fault_of clauses c) _ _ (no_fault clauses c all.0) (first_fault-last (k + 1) n (clauses ++ clause_of c.claim ∷ []) [] chain (omega arith) all.1 ne)
first_fault-last k n clauses (c ∷ d ∷ front) chain number all ne =
    fault_later k (fault_of clauses c) _ _ (no_fault clauses c all.0) (first_fault-last (k + 1) n (clauses ++ clause_of c.claim ∷ []) (d ∷ front) chain (omega arith) all.1 ne)

pub Refutes-last : (clauses : List (List ℕ)) (front : List Chain) (chain : Chain) → AllDerive clauses (front ++ chain ∷ []) → chain.claim ≡ [] → Refutes clauses (front ++ chain ∷ [])
Refutes-last clauses [] chain all e = (all.0, e)
Refutes-last clauses (c ∷ []) chain all e = (all.0, Refutes-last (clauses ++ clause_of c.claim ∷ []) [] chain all.1 e)
Refutes-last clauses (c ∷ d ∷ front) chain all e = (all.0, Refutes-last (clauses ++ clause_of c.claim ∷ []) (d ∷ front) chain all.1 e)

-- chains with a fault refute nothing
pub no_refutation : (k : ℕ) (clauses : List (List ℕ)) (chains : List Chain) (fault : StepFault) → first_fault k clauses chains ≡ Some fault → Refutes clauses chains → ⊥
no_refutation k clauses [] fault e is = is
no_refutation k clauses (chain ∷ []) fault e is =
    let none = fault_later k (fault_of clauses chain) (last_fault k chain.claim) None (no_fault clauses chain is.0) (ap (λ claim. last_fault k claim) is.1) in cc
no_refutation k clauses (chain ∷ next ∷ chains) fault e is =
    let later = fault_later k (fault_of clauses chain) (first_fault (k + 1) (clauses ++ clause_of chain.claim ∷ []) (next ∷ chains)) _ (no_fault clauses chain is.0) refl in
    no_refutation (k + 1) (clauses ++ clause_of chain.claim ∷ []) (next ∷ chains) fault (sym later ∙ e) is.1

-- a list up to an element, and that one
pub split_at : {X : Type 0} (xs : List X) (i : ℕ) (x : X) → i < length xs → x ≡ get_or xs i x → xs ≡ take i xs ++ x ∷ drop (suc i) xs
split_at xs i x lt is =
    sym (take-append-drop i xs) ∙ ap (λ back. take i xs ++ back) (drop-cons xs i x lt ∙ ap (λ y. y ∷ drop (suc i) xs) (sym is))

pub one_more : {X : Type 0} (xs : List X) (i : ℕ) (x : X) → i < length xs → x ≡ get_or xs i x → take (i + 1) xs ≡ take i xs ++ x ∷ []
one_more xs i x lt is = take_more xs i x lt ∙ ap (λ y. take i xs ++ y ∷ []) (sym is)

-- how far the chains were accepted
pub record AreAccepted (clauses : List (List ℕ)) (chains : List Chain) (i : ℕ) (premises : List (List ℕ)) : Type 0 where
  pub derive : AllDerive clauses (take i chains)
  pub all : premises ≡ grown clauses (take i chains)

pub AreAccepted-more : (clauses : List (List ℕ)) (chains : List Chain) (i : ℕ) (premises more : List (List ℕ)) (chain : Chain) → i < length chains → chain ≡ get_or chains i chain
    → AreAccepted clauses chains i premises → Derives premises chain → more ≡ premises ++ clause_of chain.claim ∷ [] → AreAccepted clauses chains (i + 1) more
AreAccepted-more clauses chains i premises more chain lt is so_far here added =
    let front = one_more chains i chain lt is in
    record {
      derive = rw front (AllDerive-push clauses (take i chains) chain so_far.derive (subst (λ p. Derives p chain) so_far.all here));
      all = added ∙ ap (λ p. p ++ clause_of chain.claim ∷ []) so_far.all ∙ sym (grown-push clauses (take i chains) chain) ∙ ap (grown clauses) (sym front);
    }

pub AreAccepted-fault : (clauses : List (List ℕ)) (chains : List Chain) (i : ℕ) (premises : List (List ℕ)) (chain : Chain) (fault : Fault) → i < length chains → chain ≡ get_or chains i chain
    → AreAccepted clauses chains i premises → IsBlamed (fault_of premises chain) fault → Blames clauses chains (blamed i fault)
AreAccepted-fault clauses chains i premises chain faults.Memory lt is so_far here = tt
AreAccepted-fault clauses chains i premises chain (faults.Chain why) lt is so_far here =
    let first = first_fault-at 0 i clauses (take i chains) chain (drop (suc i) chains) why (omega (arith, length-take i chains)) so_far.derive (subst (λ p. fault_of p chain ≡ Some why) so_far.all here) in
    let e : first_fault 0 clauses chains ≡ Some (i, why) = ap (first_fault 0 clauses) (split_at chains i chain lt is) ∙ first in
    (e, no_refutation 0 clauses chains (i, why) e)

pub AreAccepted-none : (clauses : List (List ℕ)) (chains : List Chain) (premises : List (List ℕ)) → premises ≡ clauses → AreAccepted clauses chains 0 premises
AreAccepted-none clauses chains premises e = record { derive = tt; all = e }

-- a list up to its last element
up_to_last : (chains : List Chain) (n : ℕ) (last : Chain) → length chains ≡ suc n → slice_get chains n ≡ Some last → chains ≡ take n chains ++ last ∷ []
up_to_last [] n last size e = absurd (omega arith)
up_to_last (c ∷ []) zero last size e = let same : c ≡ last = cc in ap (λ d. d ∷ []) same
up_to_last (c ∷ d ∷ chains) zero last size e = absurd (omega arith)
up_to_last (c ∷ chains) (suc n) last size e = ap (λ back. c ∷ back) (up_to_last chains n last (omega arith) e)

-- chains that all derive their claims, up to the last
module _ (clauses : List (List ℕ)) (chains : List Chain) (derive : AllDerive clauses chains) (last : Chain) (ends : slice_get chains (length chains - 1) ≡ Some last) where
  size : length chains ≡ suc (length chains - 1)
  size = elim chains as (λ cs. slice_get cs (length cs - 1) ≡ Some last → length cs ≡ suc (length cs - 1)) [ [] ↦ λ e. absurd (cc) | ◌∷◌ c cs ↦ λ e. omega arith ] ends

  split : chains ≡ take (length chains - 1) chains ++ last ∷ []
  split = up_to_last chains (length chains - 1) last size ends

  refutes_by : last.claim ≡ [] → Refutes clauses chains
  refutes_by empty =
      subst (Refutes clauses) (sym split) (Refutes-last clauses (take (length chains - 1) chains) last (subst (AllDerive clauses) split derive) empty)

  fault_by : last.claim ≢ [] → first_fault 0 clauses chains ≡ Some (length chains - 1, whys.NotEmpty)
  fault_by ne =
      ap (first_fault 0 clauses) split ∙ first_fault-last 0 (length chains - 1) clauses (take (length chains - 1) chains) last (omega (arith, length-take (length chains - 1) chains)) (subst (AllDerive clauses) split derive) ne

claim_at : (o : Option Chain) (claim : List ℕ) → option_map (λ (chain : Chain). chain.claim) o ≡ Some claim → (last : Chain) × (o ≡ Some last) × (last.claim ≡ claim)
claim_at None claim e = absurd (cc)
claim_at (Some last) claim e = (last, refl, cc)

-- where all chains are accepted, an empty last claim refutes
pub AreAccepted-refutes : (clauses : List (List ℕ)) (chains : List Chain) (i : ℕ) (premises : List (List ℕ)) → AreAccepted clauses chains i premises → length chains ≤ i
    → last_claim chains ≡ Some [] → Refutes clauses chains
AreAccepted-refutes clauses chains i premises so_far whole empty =
    let w = claim_at (slice_get chains (length chains - 1)) [] empty in
    refutes_by clauses chains (subst (AllDerive clauses) (take_all i chains whole) so_far.derive) w.0 w.1 w.2

there_is : (chains : List Chain) (n : ℕ) → n < length chains → slice_get chains n ≡ None → ⊥
there_is [] n lt e = omega arith
there_is (c ∷ chains) zero lt e = cc
there_is (c ∷ chains) (suc n) lt e = there_is chains n (omega arith) e

not_empty : (clauses : List (List ℕ)) (chains : List Chain) → AllDerive clauses chains → (found : Option Chain) → slice_get chains (length chains - 1) ≡ found
    → option_map (λ (chain : Chain). chain.claim) found ≢ Some [] → first_fault 0 clauses chains ≡ Some (length chains - 1, whys.NotEmpty)
not_empty clauses [] derive found e ne = refl
not_empty clauses (c ∷ chains) derive None e ne = absurd (there_is (c ∷ chains) (length (c ∷ chains) - 1) (omega arith) e)
not_empty clauses (c ∷ chains) derive (Some last) e ne = fault_by clauses (c ∷ chains) derive last e (λ empty. ne (ap Some empty))

-- and one that isn't empty is the last chain's fault
pub AreAccepted-not_empty : (clauses : List (List ℕ)) (chains : List Chain) (i : ℕ) (premises : List (List ℕ)) → AreAccepted clauses chains i premises → length chains ≤ i
    → last_claim chains ≢ Some [] → Blames clauses chains (chain_faults.BadStep (length chains - 1) whys.NotEmpty)
AreAccepted-not_empty clauses chains i premises so_far whole ne =
    let e = not_empty clauses chains (subst (AllDerive clauses) (take_all i chains whole) so_far.derive) (slice_get chains (length chains - 1)) refl ne in
    (e, no_refutation 0 clauses chains (length chains - 1, whys.NotEmpty) e)

-- a fault that is told
pub blamed_by : (P : ChainFault → Type 0) (Q : Type 0) (r : Result Refuted ChainFault) (told : ChainFault) → IfErr r (λ fault. fault ≡ told) → OnErr r Q → (Q → P told) → IfErr r P
blamed_by P Q (Ok x) told is ne f = tt
blamed_by P Q (Err fault) told is ne f = subst P (sym is) (f ne)
