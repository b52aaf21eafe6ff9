use Rattle.std.proofs.Common.{◌≡◌, Ok, subst}
use Rattle.px_domain.specs.Givens.{AreFor, givens_of}
use Rattle.px_domain.specs.Grammar.{domain_of}
use Rattle.px_command_answers.proofs.answer.of_verified.Goals as goal

pub returns-in-Ok : goal.returns-in-Ok
returns-in-Ok c = c.of_domain.ensures c.args.text.now (subst (λ program. domain_of (givens_of program) c.args.text.now ≡ Ok c.in-Ok.domain) c.program.ensures.same c.in-Ok.ensures.exact)

pub of_domain-requires-clause-parts : goal.of_domain-requires-clause-parts
of_domain-requires-clause-parts c = subst (λ program. AreFor program c.in-Ok.domain) c.program.ensures.same c.in-Ok.ensures.for_program
