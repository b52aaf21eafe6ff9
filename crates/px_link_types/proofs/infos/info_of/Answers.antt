use Rattle.std.proofs.Common.{ap, ◌∙◌}
use Rattle.px_program.specs.Alone.{array_of}
use Rattle.px_link_types.proofs.Places.{array_info}
use Rattle.px_link_types.proofs.infos.info_of.Goals as goal

pub returns-then-key-gt0 : goal.returns-then-key-gt0
returns-then-key-gt0 c =
    let types = c.args.types.now in
    let key = c.args.key in
    array_info types.tables types.keys key.depth key.leaf c.array_of.result c.if-key-gt0.true (c.array_of.ensures ∙ ap array_of c.place.ensures)
