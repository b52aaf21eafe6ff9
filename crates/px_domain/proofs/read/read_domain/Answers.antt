use Rattle.std.proofs.Common.{◌∙◌, sym, subst, List}
use Rattle.std.specs.List.{AllByRecursion}
use Rattle.px_domain.specs.declared.given.Given.{Given}
use Rattle.px_domain.specs.Givens.{IsGiven}
use Rattle.px_domain.proofs.Wholes.{givens_are}
use Rattle.px_domain.proofs.read.read_domain.Goals as goal

pub read_domain_for-requires-clause-integers : goal.read_domain_for-requires-clause-integers
read_domain_for-requires-clause-integers c =
    subst (λ (params : List Given). AllByRecursion IsGiven params) (sym (c.as_slice.ensures.value ∙ c.in_ok-params.ensures)) (givens_are c.args.program.now c.requires.given)
