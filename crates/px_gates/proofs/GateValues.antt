-- A gate's clauses are met exactly where its literal has the gate's value.
use Rattle.std.proofs.Common.{◌≡◌, ℕ, ◌<◌, Bool, true, false, not, ◌&&◌, ◌||◌, cond, map, ap, ap₂, ◌∙◌, arith}
use Rattle.std.specs.List.{AllByRecursion}
use Rattle.px_chain.specs.Clause.{Valuation, Formula, IsOver, MeetsAll, clause_of, holds, variable_of}
use Rattle.px_chain.specs.Resolution.{positive}
use Rattle.px_gates.specs.declared.gate.Gate.{Gate}
use Rattle.px_gates.specs.declared.gate.Gate.TheVariants.{And, Xor, Mux, Majority}
use Rattle.px_gates.specs.Circuit.{Agree}
use Rattle.px_gates.specs.Gate.{inputs_of, literals_of, value_of, with_gate}
use Rattle.px_gates.proofs.Literals.{holds-complement, holds-agree, over_complement, MeetsAll-literals, MeetsAll-back}

-- ---- truth tables, where each literal's complement has its own name

and_value : (z x y nz nx ny : Bool) → nz ≡ not z → nx ≡ not x → ny ≡ not y → (nz || (x || false)) ≡ true → (nz || (y || false)) ≡ true → (z || (nx || (ny || false))) ≡ true
    → z ≡ (x && y)
and_value z x y nz nx ny ez ex ey p q r = grind arith

and_met : (z x y nz nx ny : Bool) → nz ≡ not z → nx ≡ not x → ny ≡ not y → z ≡ (x && y)
    → ((nz || (x || false)) ≡ true) × (((nz || (y || false)) ≡ true) × (((z || (nx || (ny || false))) ≡ true) × Unit {0}))
and_met z x y nz nx ny ez ex ey e = (grind arith, (grind arith, (grind arith, tt)))

xor_value : (z x y nz nx ny : Bool) → nz ≡ not z → nx ≡ not x → ny ≡ not y → (nz || (x || (y || false))) ≡ true → (nz || (nx || (ny || false))) ≡ true
    → (z || (nx || (y || false))) ≡ true → (z || (x || (ny || false))) ≡ true → z ≡ cond x (not y) y
xor_value z x y nz nx ny ez ex ey p q r s = grind arith

xor_met : (z x y nz nx ny : Bool) → nz ≡ not z → nx ≡ not x → ny ≡ not y → z ≡ cond x (not y) y
    → ((nz || (x || (y || false))) ≡ true) × (((nz || (nx || (ny || false))) ≡ true) × (((z || (nx || (y || false))) ≡ true) × (((z || (x || (ny || false))) ≡ true) × Unit {0})))
xor_met z x y nz nx ny ez ex ey e = (grind arith, (grind arith, (grind arith, (grind arith, tt))))

mux_value : (z c x y nz nc nx ny : Bool) → nz ≡ not z → nc ≡ not c → nx ≡ not x → ny ≡ not y → (nc || (nx || (z || false))) ≡ true → (nc || (x || (nz || false))) ≡ true
    → (c || (ny || (z || false))) ≡ true → (c || (y || (nz || false))) ≡ true → z ≡ cond c x y
mux_value z c x y nz nc nx ny ez ec ex ey p q r s = grind arith

mux_met : (z c x y nz nc nx ny : Bool) → nz ≡ not z → nc ≡ not c → nx ≡ not x → ny ≡ not y → z ≡ cond c x y
    → ((nc || (nx || (z || false))) ≡ true) × (((nc || (x || (nz || false))) ≡ true) × (((c || (ny || (z || false))) ≡ true) × (((c || (y || (nz || false))) ≡ true) × Unit {0})))
mux_met z c x y nz nc nx ny ez ec ex ey e = (grind arith, (grind arith, (grind arith, (grind arith, tt))))

majority_value : (z x y c nz nx ny nc : Bool) → nz ≡ not z → nx ≡ not x → ny ≡ not y → nc ≡ not c
    → (nx || (ny || (z || false))) ≡ true → (nx || (nc || (z || false))) ≡ true → (ny || (nc || (z || false))) ≡ true
    → (x || (y || (nz || false))) ≡ true → (x || (c || (nz || false))) ≡ true → (y || (c || (nz || false))) ≡ true
    → z ≡ (((x && y) || (x && c)) || (y && c))
majority_value z x y c nz nx ny nc ez ex ey ec p q r s t u = grind arith

majority_met : (z x y c nz nx ny nc : Bool) → nz ≡ not z → nx ≡ not x → ny ≡ not y → nc ≡ not c → z ≡ (((x && y) || (x && c)) || (y && c))
    → ((nx || (ny || (z || false))) ≡ true) × (((nx || (nc || (z || false))) ≡ true) × (((ny || (nc || (z || false))) ≡ true)
    × (((x || (y || (nz || false))) ≡ true) × (((x || (c || (nz || false))) ≡ true) × (((y || (c || (nz || false))) ≡ true) × Unit {0})))))
majority_met z x y c nz nx ny nc ez ex ey ec e = (grind arith, (grind arith, (grind arith, (grind arith, (grind arith, (grind arith, tt))))))

-- ---- clauses of a gate

-- where a gate's clauses are met its literal has its value
pub value-met : (a : Valuation) (z : ℕ) (gate : Gate) → MeetsAll a (literals_of z gate) → holds a z ≡ value_of a gate
value-met a z (And x y) met =
    and_value _ _ _ _ _ _ (holds-complement a z) (holds-complement a x) (holds-complement a y) met.0 met.1.0 met.1.1.0
value-met a z (Xor x y) met =
    xor_value _ _ _ _ _ _ (holds-complement a z) (holds-complement a x) (holds-complement a y) met.0 met.1.0 met.1.1.0 met.1.1.1.0
value-met a z (Mux choice x y) met =
    mux_value _ _ _ _ _ _ _ _ (holds-complement a z) (holds-complement a choice) (holds-complement a x) (holds-complement a y) met.0 met.1.0 met.1.1.0 met.1.1.1.0
value-met a z (Majority x y c) met =
    majority_value _ _ _ _ _ _ _ _ (holds-complement a z) (holds-complement a x) (holds-complement a y) (holds-complement a c)
    met.0 met.1.0 met.1.1.0 met.1.1.1.0 met.1.1.1.1.0 met.1.1.1.1.1.0

-- where a literal has the gate's value the clauses are met
pub gate-met : (a : Valuation) (z : ℕ) (gate : Gate) → holds a z ≡ value_of a gate → MeetsAll a (literals_of z gate)
gate-met a z (And x y) e = and_met _ _ _ _ _ _ (holds-complement a z) (holds-complement a x) (holds-complement a y) e
gate-met a z (Xor x y) e = xor_met _ _ _ _ _ _ (holds-complement a z) (holds-complement a x) (holds-complement a y) e
gate-met a z (Mux choice x y) e =
    mux_met _ _ _ _ _ _ _ _ (holds-complement a z) (holds-complement a choice) (holds-complement a x) (holds-complement a y) e
gate-met a z (Majority x y c) e =
    majority_met _ _ _ _ _ _ _ _ (holds-complement a z) (holds-complement a x) (holds-complement a y) (holds-complement a c) e

-- the law of one gate
pub gate-value : (f : Formula) (gate : Gate) (a : Valuation) → MeetsAll a (with_gate f gate).clauses → holds a (positive f.vars) ≡ value_of a gate
gate-value f gate a met =
    value-met a (positive f.vars) gate (MeetsAll-literals a (literals_of (positive f.vars) gate) (MeetsAll-back a f.clauses (map clause_of (literals_of (positive f.vars) gate)) met))

-- a gate's clauses are over its variables
pub literals_of-over : (n z : ℕ) (gate : Gate) → variable_of z < n → IsOver n (inputs_of gate) → AllByRecursion (IsOver n) (literals_of z gate)
literals_of-over n z (And x y) own over =
    let nz = over_complement n z own in
    let nx = over_complement n x over.0 in
    let ny = over_complement n y over.1.0 in
    ((nz, (over.0, tt)), ((nz, (over.1.0, tt)), ((own, (nx, (ny, tt))), tt)))
literals_of-over n z (Xor x y) own over =
    let nz = over_complement n z own in
    let nx = over_complement n x over.0 in
    let ny = over_complement n y over.1.0 in
    ((nz, (over.0, (over.1.0, tt))), ((nz, (nx, (ny, tt))), ((own, (nx, (over.1.0, tt))), ((own, (over.0, (ny, tt))), tt))))
literals_of-over n z (Mux choice x y) own over =
    let nz = over_complement n z own in
    let nc = over_complement n choice over.0 in
    let nx = over_complement n x over.1.0 in
    let ny = over_complement n y over.1.1.0 in
    ((nc, (nx, (own, tt))), ((nc, (over.1.0, (nz, tt))), ((over.0, (ny, (own, tt))), ((over.0, (over.1.1.0, (nz, tt))), tt))))
literals_of-over n z (Majority x y c) own over =
    let nz = over_complement n z own in
    let nx = over_complement n x over.0 in
    let ny = over_complement n y over.1.0 in
    let nc = over_complement n c over.1.1.0 in (
      (nx, (ny, (own, tt))),
      (
        (nx, (nc, (own, tt))),
        (
          (ny, (nc, (own, tt))),
          ((over.0, (over.1.0, (nz, tt))), ((over.0, (over.1.1.0, (nz, tt))), ((over.1.0, (over.1.1.0, (nz, tt))), tt))),
        ),
      ),
    )

-- a gate has one value under assignments that agree on its inputs
pub value_of-agree : (n : ℕ) (a b : Valuation) → Agree n a b → (gate : Gate) → IsOver n (inputs_of gate) → value_of a gate ≡ value_of b gate
value_of-agree n a b agree (And x y) over =
    ap₂ (λ p q. p && q) (holds-agree n a b agree x over.0) (holds-agree n a b agree y over.1.0)
value_of-agree n a b agree (Xor x y) over =
    ap₂ (λ p q. cond p (not q) q) (holds-agree n a b agree x over.0) (holds-agree n a b agree y over.1.0)
value_of-agree n a b agree (Mux choice x y) over =
    let at = holds-agree n a b agree in
    ap₂ (λ p q. cond p q (holds a y)) (at choice over.0) (at x over.1.0) ∙ ap (λ r. cond (holds b choice) (holds b x) r) (at y over.1.1.0)
value_of-agree n a b agree (Majority x y c) over =
    let at = holds-agree n a b agree in
    ap₂ (λ p q. ((p && q) || (p && holds a c)) || (q && holds a c)) (at x over.0) (at y over.1.0)
    ∙ ap (λ r. ((holds b x && holds b y) || (holds b x && r)) || (holds b y && r)) (at c over.1.1.0)
