use Rattle.std.proofs.Common.{true, false, sym, ◌∙◌}
use Rattle.px_meta.specs.Members.{IsMethod}
use Rattle.px_meta.specs.Rows.{methods}
use Rattle.px_link_tokens.specs.Named.{way_of}
use Rattle.px_link_tokens.proofs.Reading.{method_owner, method_told, item_at}
use Rattle.px_link_tokens.proofs.methods.method_at.Goals as goal

pub fits_call-requires : goal.fits_call-requires
fits_call-requires c =
    let v = c.args.tokens.now in
    let row = c.in_ok-row.row in
    let method = c.index-methods-row.result in
    let named = c.in_ok-row.ensures in
    method_owner v row method (item_at IsMethod v c.meta-meta.result.now c.tables.result.now methods row c.methods.result.now method c.tables.ensures.same c.meta-meta.ensures named.there c.methods.ensures c.index-methods-row.is)

pub returns-then-fits_call-clause-method : goal.returns-then-fits_call-clause-method
returns-then-fits_call-clause-method c =
    let v = c.args.tokens.now in
    let row = c.in_ok-row.row in
    let method = c.index-methods-row.result in
    let named = c.in_ok-row.ensures in
    let item = item_at IsMethod v c.meta-meta.result.now c.tables.result.now methods row c.methods.result.now method c.tables.ensures.same c.meta-meta.ensures named.there c.methods.ensures c.index-methods-row.is in
    method_told v c.tables.result.now (way_of c.args.way) true c.args.token row method (c.tables.ensures.same ∙ c.meta-meta.ensures) named.row item (sym c.fits_call.ensures ∙ c.if-fits_call.true)

pub returns-else-fits_call-clause-method : goal.returns-else-fits_call-clause-method
returns-else-fits_call-clause-method c =
    let v = c.args.tokens.now in
    let row = c.in_ok-row.row in
    let method = c.index-methods-row.result in
    let named = c.in_ok-row.ensures in
    let item = item_at IsMethod v c.meta-meta.result.now c.tables.result.now methods row c.methods.result.now method c.tables.ensures.same c.meta-meta.ensures named.there c.methods.ensures c.index-methods-row.is in
    method_told v c.tables.result.now (way_of c.args.way) false c.args.token row method (c.tables.ensures.same ∙ c.meta-meta.ensures) named.row item (sym c.fits_call.ensures ∙ c.if-fits_call.false)
