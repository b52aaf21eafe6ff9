-- Formulas with more clauses and more variables: what they keep, and that they are formulas.
use Rattle.std.proofs.Common.{◌≡◌, ℕ, zero, suc, ◌+◌, ◌<◌, ◌≤◌, true, false, not, List, [], ◌∷◌, ◌++◌, length, map, take, get_or, Some, Result, Ok, Err, refl, sym, ap, ap₂, ◌∙◌, subst, arith, append_assoc, append-nil}
use Rattle.std.specs.Prelude.{OnErr, OnOk}
use Rattle.std.specs.Borrow.{Bor}
use Rattle.std.specs.List.{AllByRecursion, slice_get}
use Rattle.std.specs.declared.alloc.AllocError.{AllocError}
use Rattle.std.proofs.lemmas.List.{map-append, take_more}
use Rattle.px_chain.specs.Clause.{Ascends, Valuation, Formula, IsFormula, IsOver, MeetsAll, clause_of, holds}
use Rattle.px_chain.specs.Resolution.{negative, positive}
use Rattle.px_chain.proofs.Members.{Ascends-clause_of, IsOver-clause_of}
use Rattle.px_chain.proofs.Stores.{all_at}
use Rattle.px_gates.specs.declared.gate.Gate.{Gate}
use Rattle.px_gates.specs.Gate.{IsOfGates, KeepsFormula, base, inputs_of, literals_of, with_clauses, with_gate, with_variable}
use Rattle.px_gates.proofs.GateValues.{literals_of-over}
use Rattle.px_gates.proofs.Literals.{IsOver-more, Met, MeetsAll-append, MeetsAll-back, MeetsAll-front, all_append, all_weaker, holds-negative, holds-positive, meets-one, one-meets, variable_of-positive}

-- formulas with the same variables and clauses are one
pub same_formula : (f g : Formula) → f.vars ≡ g.vars → f.clauses ≡ g.clauses → f ≡ g
same_formula f g vars clauses = ap₂ (λ n cs. record { vars = n; clauses = cs }) vars clauses

-- ---- what is kept

pub KeepsFormula-same : (f : Formula) → KeepsFormula f f
KeepsFormula-same f = record { vars = omega arith; more = []; clauses = sym (append-nil f.clauses) }

pub KeepsFormula-trans : (f g h : Formula) → KeepsFormula f g → KeepsFormula g h → KeepsFormula f h
KeepsFormula-trans f g h k l = record {
  vars = let a = k.vars in let b = l.vars in omega arith;
  more = k.more ++ l.more;
  clauses = l.clauses ∙ ap (λ (cs : List (List ℕ)). cs ++ l.more) k.clauses ∙ append_assoc f.clauses k.more l.more;
}

pub KeepsFormula-variable : (f : Formula) → KeepsFormula f (with_variable f)
KeepsFormula-variable f = record { vars = omega arith; more = []; clauses = sym (append-nil f.clauses) }

pub KeepsFormula-clauses : (f : Formula) (literals : List (List ℕ)) → KeepsFormula f (with_clauses f literals)
KeepsFormula-clauses f literals = record { vars = omega arith; more = map clause_of literals; clauses = refl }

pub KeepsFormula-gate : (f : Formula) (gate : Gate) → KeepsFormula f (with_gate f gate)
KeepsFormula-gate f gate = KeepsFormula-trans f (with_variable f) (with_gate f gate) (KeepsFormula-variable f) (KeepsFormula-clauses (with_variable f) (literals_of (positive f.vars) gate))

-- a gate, and what is added after it
pub KeepsFormula-next : (f g h : Formula) (gate : Gate) → g ≡ with_gate f gate → KeepsFormula g h → KeepsFormula f h
KeepsFormula-next f g h gate e k = KeepsFormula-trans f g h (subst (KeepsFormula f) (sym e) (KeepsFormula-gate f gate)) k

-- what meets a formula meets what it keeps
pub MeetsAll-kept : (a : Valuation) (f g : Formula) → KeepsFormula f g → MeetsAll a g.clauses → MeetsAll a f.clauses
MeetsAll-kept a f g k met = MeetsAll-front a f.clauses k.more (subst (MeetsAll a) k.clauses met)

-- ---- formulas

over_formula : (n more : ℕ) (clauses : List (List ℕ)) → n ≤ more → AllByRecursion (λ clause. Ascends clause × IsOver n clause) clauses
    → AllByRecursion (λ clause. Ascends clause × IsOver more clause) clauses
over_formula n more clauses le = all_weaker (λ clause. Ascends clause × IsOver n clause) (λ clause. Ascends clause × IsOver more clause) clauses (λ clause is. (is.0, IsOver-more n more clause le is.1))

pub IsFormula-variable : (f : Formula) → IsFormula f → IsFormula (with_variable f)
IsFormula-variable f is = over_formula f.vars (f.vars + 1) f.clauses (omega arith) is

formed : (n : ℕ) (literals : List (List ℕ)) → AllByRecursion (IsOver n) literals → AllByRecursion (λ clause. Ascends clause × IsOver n clause) (map clause_of literals)
formed n [] over = tt
formed n (first ∷ literals) over = ((Ascends-clause_of first, IsOver-clause_of n first over.0), formed n literals over.1)

pub IsFormula-clauses : (f : Formula) (literals : List (List ℕ)) → AllByRecursion (IsOver f.vars) literals → IsFormula f → IsFormula (with_clauses f literals)
IsFormula-clauses f literals over is =
    all_append (λ clause. Ascends clause × IsOver f.vars clause) f.clauses (map clause_of literals) is (formed f.vars literals over)

pub IsFormula-gate : (f : Formula) (gate : Gate) → IsOver f.vars (inputs_of gate) → IsFormula f → IsFormula (with_gate f gate)
IsFormula-gate f gate over is =
    IsFormula-clauses (with_variable f) (literals_of (positive f.vars) gate)
    (literals_of-over (f.vars + 1) (positive f.vars) gate (let v = variable_of-positive f.vars in omega arith) (IsOver-more f.vars (f.vars + 1) (inputs_of gate) (omega arith) over))
    (IsFormula-variable f is)

-- ---- clauses one after another

pub with_clauses-none : (f : Formula) → f ≡ with_clauses f []
with_clauses-none f = same_formula f (with_clauses f []) refl (sym (append-nil f.clauses))

pub with_clauses-append : (f : Formula) (front back : List (List ℕ)) → with_clauses (with_clauses f front) back ≡ with_clauses f (front ++ back)
with_clauses-append f front back =
    same_formula (with_clauses (with_clauses f front) back) (with_clauses f (front ++ back)) refl
    (append_assoc f.clauses (map clause_of front) (map clause_of back) ∙ ap (λ (cs : List (List ℕ)). f.clauses ++ cs) (sym (map-append clause_of front back)))

-- one clause more of those behind references
pub with_clauses-more : (f : Formula) (clauses : List (Bor (List ℕ))) (i : ℕ) (d : Bor (List ℕ)) (g h : Formula) → i < length clauses
    → g ≡ with_clauses f (map (λ (clause : Bor (List ℕ)). clause.now) (take i clauses)) → h ≡ with_clauses g ((get_or clauses i d).now ∷ [])
    → h ≡ with_clauses f (map (λ (clause : Bor (List ℕ)). clause.now) (take (i + 1) clauses))
with_clauses-more f clauses i d g h lt before now =
    let read = λ (clause : Bor (List ℕ)). clause.now in
    now ∙ ap (λ (k : Formula). with_clauses k ((get_or clauses i d).now ∷ [])) before
    ∙ with_clauses-append f (map read (take i clauses)) ((get_or clauses i d).now ∷ [])
    ∙ ap (with_clauses f) (sym (map-append read (take i clauses) (get_or clauses i d ∷ [])) ∙ ap (map read) (sym (take_more clauses i d lt)))

pub all_read : {X : Type 0} (P : X → Type 0) (xs : List X) (i : ℕ) (d : X) → AllByRecursion P xs → i < length xs → P (get_or xs i d)
all_read P [] i d all lt = absurd (omega arith)
all_read P (x ∷ xs) zero d all lt = all.0
all_read P (x ∷ xs) (suc i) d all lt = all_read P xs i d all.1 (omega arith)

-- ---- formulas of gates

first_stays : {X : Type 0} (xs ys : List X) (x : X) → slice_get xs 0 ≡ Some x → slice_get (xs ++ ys) 0 ≡ Some x
first_stays [] ys x e = absurd (cc)
first_stays (z ∷ xs) ys x e = e

pub IsOfGates-clauses : (f : Formula) (literals : List (List ℕ)) → AllByRecursion (IsOver f.vars) literals → IsOfGates f → IsOfGates (with_clauses f literals)
IsOfGates-clauses f literals over is = record {
  formula = IsFormula-clauses f literals over is.formula;
  some = is.some;
  first = first_stays f.clauses (map clause_of literals) (positive 0 ∷ []) is.first;
}

-- a formula that keeps one of gates
pub IsOfGates-kept : (f g : Formula) → KeepsFormula f g → IsFormula g → IsOfGates f → IsOfGates g
IsOfGates-kept f g kept formula is = record {
  formula = formula;
  some = let a = kept.vars in let b = is.some in omega arith;
  first = ap (λ cs. slice_get cs 0) kept.clauses ∙ first_stays f.clauses kept.more (positive 0 ∷ []) is.first;
}

-- what an attempt to add a clause leaves
pub IsOfGates-added : (r : Result (Unit {0}) AllocError) (f g : Formula) (clause : List ℕ) → IsOfGates f → IsOver f.vars clause → g.vars ≡ f.vars
    → OnOk r (g.clauses ≡ f.clauses ++ clause_of clause ∷ []) → OnErr r (g.clauses ≡ f.clauses) → IsOfGates g
IsOfGates-added (Ok u) f g clause is over vars ok err =
    subst IsOfGates (sym (same_formula g (with_clauses f (clause ∷ [])) vars ok)) (IsOfGates-clauses f (clause ∷ []) (over, tt) is)
IsOfGates-added (Err e) f g clause is over vars ok err = subst IsOfGates (sym (same_formula g f vars err)) is

pub IsFormula-base : IsFormula base
IsFormula-base = (((tt, tt), (omega arith, tt)), tt)

pub IsOfGates-base : IsOfGates base
IsOfGates-base = record { formula = IsFormula-base; some = omega arith; first = refl }

-- variable 0 is true
pub holds-true : (a : Valuation) (f : Formula) → IsOfGates f → MeetsAll a f.clauses → holds a (positive 0) ≡ true
holds-true a f is met = meets-one a (positive 0) (all_at (Met a) f.clauses 0 (positive 0 ∷ []) met is.first)

pub holds-false : (a : Valuation) (f : Formula) → IsOfGates f → MeetsAll a f.clauses → holds a (negative 0) ≡ false
holds-false a f is met = holds-negative a 0 ∙ ap not (sym (holds-positive a 0) ∙ holds-true a f is met)

pub MeetsAll-base : (a : Valuation) → a 0 ≡ true → MeetsAll a base.clauses
MeetsAll-base a true_at = (one-meets a (positive 0) (holds-positive a 0 ∙ true_at), tt)

-- ---- literals that are required

pub MeetsAll-require : (a : Valuation) (f : Formula) (x : ℕ) → MeetsAll a f.clauses → holds a x ≡ true → MeetsAll a (with_clauses f ((x ∷ []) ∷ [])).clauses
MeetsAll-require a f x met held = MeetsAll-append a f.clauses ((x ∷ []) ∷ []) met (one-meets a x held, tt)

pub holds-required : (a : Valuation) (f : Formula) (x : ℕ) → MeetsAll a (with_clauses f ((x ∷ []) ∷ [])).clauses → holds a x ≡ true
holds-required a f x met = meets-one a x (MeetsAll-back a f.clauses ((x ∷ []) ∷ []) met).0
