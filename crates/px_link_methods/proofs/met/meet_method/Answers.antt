use Rattle.std.proofs.Common.{◌∷◌, [], sym, ap, ◌∙◌, subst}
use Rattle.px_meta.specs.Members.{IsMethod, owner_of}
use Rattle.px_meta.specs.Rows.{IsRow, cell, methods, type_defs}
use Rattle.px_meta.proofs.Alike.{owner_row}
use Rattle.px_link_types.specs.Keys.{alone}
use Rattle.px_link_types.specs.Numbers.{Numbers}
use Rattle.px_link_types.specs.declared.key.Leaf.TheVariants.{Defined}
use Rattle.px_link_methods.specs.Parts.{ArePassed, IsPassed, sig_keys}
use Rattle.px_link_methods.proofs.Passing.{met_in_turn, still_passed}
use Rattle.px_link_methods.proofs.met.meet_method.Goals as goal

pub meet_owner-requires : goal.meet_owner-requires
meet_owner-requires c =
    let v = c.args.tokens.now in
    let owner = c.method_at-method.ensures.owner ∙ ap (λ u. owner_of u methods c.args.row) c.meta-meta.ensures in
    subst (λ u. IsRow u type_defs c.method_at-method.result.now.owner) (sym c.requires.tables) (owner_row v methods c.args.row c.method_at-method.result.now.owner (sym owner) (λ e. c.requires.owned.owned (sym owner ∙ e)))

pub meet_sig-requires-clause-passed : goal.meet_sig-requires-clause-passed
meet_sig-requires-clause-passed c =
    let before = c.args.types.now.keys in
    let owned = c.meet_owner.new.types.keys in
    let sigs = c.args.passed.now.sigs in
    let met = alone (Defined c.method_at-method.result.now.owner) ∷ [] in
    let numbers = subst (λ u. Numbers u before met owned) c.requires.tables c.in_ok-meet_owner.ensures.numbers in
    subst (λ u. ArePassed owned (sig_keys u) sigs) (sym c.meta-meta.ensures) (still_passed c.args.tokens.now before met owned (sig_keys c.args.tokens.now) sigs numbers c.requires.sigs)

pub returns-clause-met : goal.returns-clause-met
returns-clause-met c = λ body whole are.
    let v = c.args.tokens.now in
    let row = c.args.row in
    let m = c.method_at-method.result.now in
    let before = c.args.types.now.keys in
    let owned = c.meet_owner.new.types.keys in
    let spelled = c.meet_sig.new.types.keys in
    let at = c.cell_of-at.result in
    let is = subst (λ u. IsMethod u row m) c.meta-meta.ensures c.method_at-method.ensures in
    let numbers = subst (λ u. Numbers u before (alone (Defined m.owner) ∷ []) owned) c.requires.tables c.in_ok-meet_owner.ensures.numbers in
    let place = c.cell_of-at.ensures ∙ ap (λ u. cell u methods row 4) (c.tables.ensures.same ∙ c.meta-meta.ensures) in
    let sig = subst (λ u. IsPassed u (sig_keys u) at owned spelled c.meet_sig.new.passed) c.meta-meta.ensures c.in_ok-meet_sig.ensures.passed in
    met_in_turn v body row c.args.whole.now m before owned spelled c.meet_body.new.types.keys c.meet_sig.new.passed c.args.passed.now.bodies c.meet_body.new.passed at c.meet_body.result is numbers place sig whole are (c.meet_body.ensures.passed body)
