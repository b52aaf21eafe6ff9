use Rattle.std.proofs.Common.{sym, subst}
use Rattle.px_link_methods.specs.Methods.{AreByAddress, met_by_all}
use Rattle.px_link_types.specs.Numbers.{Numbers, library_keys}
use Rattle.px_link.proofs.Reached.{by_address}
use Rattle.px_link.proofs.linked.program_of.Goals as goal

pub types_met-requires-clause-shared : goal.types_met-requires-clause-shared
types_met-requires-clause-shared c =
    let v = c.args.tokens.now in
    subst (λ rows. AreByAddress v rows c.as_slice-bodies.result.now) (sym c.as_slice-rows.ensures)
    (subst (λ bodies. AreByAddress v c.args.reached.now.rows bodies) (sym c.as_slice-bodies.ensures) (by_address v c.requires.reached.image c.args.overriding.now.lists _ c.args.reached.now c.requires.reached.is))

pub program_with-requires-clause-numbers : goal.program_with-requires-clause-numbers
program_with-requires-clause-numbers c =
    let v = c.args.tokens.now in
    let keys = c.in_ok-types.types.keys in
    let met = c.in_ok-types.ensures in
    subst (λ rs. Numbers v library_keys (met_by_all v rs c.args.reached.now.bodies) keys) c.as_slice-rows.ensures
    (subst (λ bs. Numbers v library_keys (met_by_all v c.as_slice-rows.result.now bs) keys) c.as_slice-bodies.ensures met.numbers)
