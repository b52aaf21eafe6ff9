use Rattle.std.proofs.Common.{subst}
use Rattle.std.specs.Prelude.{slice_get}
use Rattle.std.specs.List.{AllZip}
use Rattle.px_link.specs.Layout.{IsSlot, type_row}
use Rattle.px_link.specs.Placed.{ArePlaced}
use Rattle.px_link.proofs.Placing.{rows_apart, types_apart}
use Rattle.px_link.proofs.layout.layout_by.Goals as goal

pub returns : goal.returns
returns c =
    let keys = c.args.types.now.keys in
    let rows = c.args.rows.now in
    let by_type = subst (λ ks. ArePlaced (type_row ks) c.in_ok-by_type.by_type.items) c.keys.ensures.keys c.in_ok-by_type.ensures in
    record {
      types = c.in_ok-in_row_order.ensures (type_row keys) (types_apart c.args.types.now.tables keys c.keys.ensures.kept) by_type;
      methods = c.in_ok-in_row_order-2.ensures (slice_get rows) (rows_apart rows c.requires.distinct) c.in_ok-by_method.ensures;
      slots = subst (λ ks. AllZip (IsSlot c.args.meta.now ks) rows c.in_ok-slots_of.field-0) c.requires.numbers c.in_ok-slots_of.ensures;
    }
