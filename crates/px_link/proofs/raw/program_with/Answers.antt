use Rattle.std.proofs.Common.{sym, subst}
use Rattle.px_program.specs.Alone.{alone}
use Rattle.px_program.specs.Formed.{IsFormedIn}
use Rattle.px_link.proofs.Formed.{formed_in}
use Rattle.px_link.proofs.raw.program_with.Goals as goal

pub alone-requires-clause-formed : goal.alone-requires-clause-formed
alone-requires-clause-formed c =
    let elements = c.args.elements.now in
    subst (λ m. IsFormedIn (alone elements m) m) (sym c.in_ok-method.ensures)
    (formed_in elements c.args.name.now c.args.body.now c.args.params.now c.requires.formed c.requires.params)
