use Rattle.std.proofs.Common.{ℕ, get_or, ◌*◌, ◌+◌, ◌≤◌, ◌<◌, ◌^◌, ⊎_elim, arith}
use Rattle.std.proofs.lemmas.Bool.{cases_lt}
use Rattle.px_chain.proofs.Members.{not_past}
use Rattle.px_chain.proofs.resolver.Resolver.pivot.Goals as goal

pub returns-in_default-clause-pivot : goal.returns-in_default-clause-pivot
returns-in_default-clause-pivot c =
    let fits : (i : ℕ) → get_or c.args.clause.now i 0 < 2 ^ 32 = λ i. omega (arith, c.type_inv.clause i) in
    let large : 2 ^ 32 ≤ 2 * c.args.variable = ⊎_elim (λ lt. absurd (c.in_default.ensures lt)) (λ ge. omega (arith, ge)) (cases_lt (c.args.variable * 2) (2 ^ 32)) in
    let positive = not_past c.args.clause.now (2 ^ 32) (2 * c.args.variable) fits large in
    let negative = not_past c.args.clause.now (2 ^ 32) (2 * c.args.variable + 1) fits (omega arith) in
    grind (arith, positive, negative)
