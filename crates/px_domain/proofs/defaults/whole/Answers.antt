use Rattle.std.proofs.Common.{◌∙◌, sym, subst, List}
use Rattle.std.specs.List.{AllByRecursion}
use Rattle.px_domain.specs.declared.given.Given.{Given}
use Rattle.px_domain.specs.Givens.{IsGiven}
use Rattle.px_domain.proofs.Wholes.{for_whole, givens_are}
use Rattle.px_domain.proofs.defaults.whole.Goals as goal

pub whole_for-requires-clause-each : goal.whole_for-requires-clause-each
whole_for-requires-clause-each c =
    subst (λ (params : List Given). AllByRecursion IsGiven params) (sym (c.as_slice.ensures.value ∙ c.in_ok-params.ensures)) (givens_are c.args.program.now c.requires.given)

pub returns-clause-for_program : goal.returns-clause-for_program
returns-clause-for_program c = for_whole c.whole_for.result c.args.program.now c.as_slice.result.now (c.as_slice.ensures.value ∙ c.in_ok-params.ensures) c.whole_for.ensures
