use Rattle.std.proofs.Common.{◌∙◌, ap, sym, subst, Result, Ok}
use Rattle.px_meta.specs.Faults.{IsFaultless}
use Rattle.px_tables.specs.declared.fault.TableFault.{TableFault}
use Rattle.px_tables.specs.Metadata.{View}
use Rattle.px_command_answers.proofs.Explaining.{explains_method}
use Rattle.px_command_answers.proofs.method.of_tables.Goals as goal

pub returns-in-Ok : goal.returns-in-Ok
returns-in-Ok c = λ bytes image_is tables.
    let read : View → Result View TableFault = λ v. Ok v in
    explains_method bytes c.args.name.now c.args.text.now c.args.image.now c.in-Ok.meta c.of_meta.result
    (record { image_is = image_is; tables = tables ∙ ap read (sym c.in-Ok.ensures.same); faultless = subst IsFaultless (sym c.in-Ok.ensures.same) c.in-Ok.ensures.faultless })
    c.of_meta.ensures
