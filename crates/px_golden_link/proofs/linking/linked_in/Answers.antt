use Rattle.std.proofs.Common.{◌∙◌, ap, sym, subst, Result, Ok}
use Rattle.std.specs.Prelude.{IfOk}
use Rattle.px_link.specs.Link.{Reads}
use Rattle.px_tables.specs.Metadata.{View}
use Rattle.px_asm.proofs.Loaded.{loaded}
use Rattle.px_golden_link.proofs.linking.linked_in.Goals as goal

pub returns-in-Ok : goal.returns-in-Ok
returns-in-Ok c = λ file bytes image tables.
    loaded c.linked_by.result file c.args.name.now c.args.image.now c.args.tables bytes image tables c.requires c.in-Ok.ensures.faultless
    (subst (λ (v : View). IfOk c.linked_by.result (Reads v c.args.image.now c.args.name.now)) c.in-Ok.ensures.same c.linked_by.ensures.reads) c.linked_by.ensures.well_formed
