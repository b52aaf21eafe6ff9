use Rattle.std.proofs.Common.{◌∙◌, ap, sym}
use Rattle.px_trail.specs.Assignment.{StepsOver}
use Rattle.px_trail.specs.Trail.{literals_of}
use Rattle.px_trail.proofs.Tables.{literals_in}
use Rattle.px_trail.proofs.assignment.PartialAssignment.literals.Goals as goal

pub returns-clause-literals : goal.returns-clause-literals
returns-clause-literals c =
    c.deref.ensures.value ∙ sym (literals_in c.self.inside.table.items c.self.inside.literals.items) ∙ ap (λ (a : StepsOver). literals_of a.steps) c.self.view_is
