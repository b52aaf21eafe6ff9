use Rattle.std.proofs.Common.{subst, sym}
use Rattle.std.specs.Prelude.{IfSome}
use Rattle.px_meta.specs.Rows.{IsRow, type_defs}
use Rattle.px_link_types.proofs.Nesting.{outer_there, type_outer}
use Rattle.px_link_types.proofs.naming.outer_of.Goals as goal

pub returns-clause-outer : goal.returns-clause-outer
returns-clause-outer c = type_outer c.args.meta.now c.args.row c.types.result.now _ c.types.ensures c.requires

pub returns-clause-there : goal.returns-clause-there
returns-clause-there c =
    subst (λ o. IfSome o (IsRow c.args.meta.now type_defs)) (sym (type_outer c.args.meta.now c.args.row c.types.result.now _ c.types.ensures c.requires)) (outer_there c.args.meta.now c.args.row)
