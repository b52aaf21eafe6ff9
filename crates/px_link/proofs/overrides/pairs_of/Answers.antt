use Rattle.px_link.proofs.Overriding.{overriders_rows}
use Rattle.px_link.proofs.overrides.pairs_of.Goals as goal

pub nearest-requires : goal.nearest-requires
nearest-requires c = overriders_rows c.args.meta.now c.args.overriding.now.tables _ c.of.result.now c.requires.same c.of.ensures.overriders
