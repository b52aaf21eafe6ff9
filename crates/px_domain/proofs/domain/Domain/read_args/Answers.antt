use Rattle.std.proofs.Common.{sym, subst, List}
use Rattle.px_domain.specs.declared.domain.Part.{Part}
use Rattle.px_domain.specs.Domain.{AreParts, InDomain}
use Rattle.px_domain.proofs.Within.{args_within}
use Rattle.px_domain.proofs.domain.Domain.read_args.Goals as goal

pub returns-in-Ok-clause-within : goal.returns-in-Ok-clause-within
returns-in-Ok-clause-within c =
    let are : AreParts c.parts.result.now = subst (λ (parts : List Part). AreParts parts) (sym c.parts.ensures.parts) c.parts.ensures.are in
    subst (λ (parts : List Part). InDomain parts c.in-Ok.words) c.parts.ensures.parts (args_within c.parts.result.now _ c.in-Ok.words are.each c.in-Ok.ensures)
