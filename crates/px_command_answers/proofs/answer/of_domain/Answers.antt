use Rattle.std.proofs.Common.{◌≡◌, ℕ, List, Ok, subst, sym}
use Rattle.px_domain.specs.Givens.{AreFor, givens_of}
use Rattle.px_domain.specs.Grammar.{domain_of}
use Rattle.px_command_answers.specs.Answers.{HasCause}
use Rattle.px_command_answers.proofs.answer.of_domain.Goals as goal

pub explored-requires-clause-parts : goal.explored-requires-clause-parts
explored-requires-clause-parts c = subst (λ program. AreFor program c.args.domain) (sym c.in-Ok.ensures.accepted) c.requires.parts

pub returns-in-Ok : goal.returns-in-Ok
returns-in-Ok c = subst (λ program. (text : List ℕ) → domain_of (givens_of program) text ≡ Ok c.args.domain → HasCause program text c.explored.result) c.in-Ok.ensures.accepted c.explored.ensures
