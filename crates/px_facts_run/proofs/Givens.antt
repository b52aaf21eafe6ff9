-- Parameters that are integers.
use Rattle.std.proofs.Common.{List, map}
use Rattle.px_program.specs.declared.program.Place.{Place}
use Rattle.px_domain.specs.declared.given.Given.{Given}
use Rattle.px_domain.specs.declared.given.Given.TheVariants as givens

abbrev pub integers : List Place → List Given
integers places = map (λ place. givens.Integer place) places
