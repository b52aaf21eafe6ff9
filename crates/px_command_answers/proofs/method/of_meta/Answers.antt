use Rattle.std.proofs.Common.{subst}
use Rattle.px_link.specs.Link.{Blames}
use Rattle.px_command_answers.proofs.method.of_meta.Goals as goal

pub unlinked-requires : goal.unlinked-requires
unlinked-requires c = λ method memory. subst (Blames c.args.meta.now c.args.image.now c.args.name.now) memory c.in-Err.ensures.fault

pub returns-in-Err : goal.returns-in-Err
returns-in-Err c = c.unlinked.ensures c.args.meta.now c.args.image.now c.args.name.now c.args.text.now c.in-Err.ensures.fault
