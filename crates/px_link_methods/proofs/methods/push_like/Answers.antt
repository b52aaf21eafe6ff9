use Rattle.std.proofs.Common.{ap, ◌∙◌}
use Rattle.px_link_methods.specs.Codes.{owner_number}
use Rattle.px_link_methods.proofs.Likeness.{pushed_renamed}
use Rattle.px_link_methods.proofs.methods.push_like.Goals as goal

pub returns : goal.returns
returns c = λ method at.
    let keys = c.args.types.now.keys in
    pushed_renamed c.args.meta.now keys c.args.row method c.args.table.now c.push_like.new.self c.in_ok-name.name c.number_of_row-owner.result c.push_like.result c.in_ok-name.ensures
    (c.number_of_row-owner.ensures ∙ ap (owner_number c.args.meta.now keys) c.method_at.ensures.owner) (c.push_like.ensures method at)
