use Rattle.std.proofs.Common.{subst, eq-eqb, eqb-true}
use Rattle.px_program.specs.Lines.{IsKindOf}
use Rattle.px_program.proofs.Leaps.{climbs_to, ended_count}
use Rattle.px_program.proofs.program.Program.is_kind_of.Goals as goal

pub returns : goal.returns
returns c =
    let types = c.args.self.now.types in
    let has = ended_count types c.args.type_number (c.requires.types.bases c.args.type_number) in (
      λ same. subst (IsKindOf types c.args.type_number) (eqb-true c.climb.result c.args.other same) c.climb.ensures.kind,
      λ kind. eq-eqb c.climb.result c.args.other (climbs_to types c.args.type_number c.args.other c.climb.result has.0 c.step.result.depth has.1 c.step.ensures.depth c.climb.ensures.kind (c.climb.ensures.depth has.0 has.1) kind),
    )
