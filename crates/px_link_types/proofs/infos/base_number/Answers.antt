use Rattle.std.proofs.Common.{ap, ◌∙◌}
use Rattle.px_link_types.specs.Numbers.{base_leaf}
use Rattle.px_link_types.proofs.Places.{base_reference}
use Rattle.px_link_types.proofs.infos.base_number.Goals as goal

pub unreachable-requires : goal.unreachable-requires
unreachable-requires c =
    let row = c.args.row in
    let is = c.in_ok-leaf.ensures.base ∙ ap (λ v. base_leaf v row) c.tables.ensures.same in
    c.in_default.not-Ref _ (c.place.ensures ∙ base_reference c.args.types.now.tables c.args.types.now.keys row c.in_ok-leaf.leaf c.tables.ensures.sound c.requires.row is)
