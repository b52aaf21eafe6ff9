use Rattle.std.proofs.Common.{ap, subst, ◌∙◌}
use Rattle.px_link.specs.Link.{Blames}
use Rattle.px_link.specs.declared.fault.LinkFault.{LinkFault}
use Rattle.px_link.specs.declared.fault.LinkFault.TheVariants.{BadBody}
use Rattle.px_command_answers.proofs.method.unlinked.Goals as goal

pub bad_body-requires : goal.bad_body-requires
bad_body-requires c = λ memory. c.requires c.in-BadBody.method (c.in-BadBody.is ∙ ap (λ fault. BadBody fault c.in-BadBody.method) memory)

pub returns-in-BadBody : goal.returns-in-BadBody
returns-in-BadBody c = λ v image name text blames.
    let Is : LinkFault → Type 0 = λ fault. Blames v image name fault in
    c.bad_body.ensures v image name text (subst Is c.in-BadBody.is blames)
