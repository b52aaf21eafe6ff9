use Rattle.std.proofs.Common.{sym, ◌∙◌, subst}
use Rattle.px_meta.specs.Rows.{fields}
use Rattle.px_meta.proofs.Alike.{owner_row}
use Rattle.px_link_methods.specs.Parts.{IsNamed}
use Rattle.px_link_methods.proofs.met.push_operand.Goals as goal

pub push_class-requires : goal.push_class-requires
push_class-requires c =
    let named = subst (IsNamed c.args.meta.now c.args.opcode) c.in-Field.is c.requires in
    owner_row c.args.meta.now fields c.in-Field.field c.owner_of.result (sym c.owner_of.ensures) (λ e. named.fits (sym c.owner_of.ensures ∙ e))
