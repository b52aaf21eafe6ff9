use Rattle.std.proofs.Common.{sym, subst, List}
use Rattle.px_domain.specs.declared.domain.Part.{Part}
use Rattle.px_domain.specs.Domain.{AreParts}
use Rattle.px_domain.proofs.Wholes.{whole_are}
use Rattle.px_domain.proofs.defaults.whole_for.Goals as goal

pub new-requires : goal.new-requires
new-requires c = subst (λ (parts : List Part). AreParts parts) (sym c.in_ok-parts.ensures) (whole_are c.args.params.now c.requires.few c.requires.each)
