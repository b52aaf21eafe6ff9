use Rattle.std.proofs.Common.{◌≡◌, ◌-◌, true, get_or, subst, sym, ap, ◌∙◌}
use Rattle.std.specs.Prelude.{IfSome}
use Rattle.px_meta.specs.Members.{IsMethod, owner_of}
use Rattle.px_meta.specs.Rows.{IsRow, methods}
use Rattle.px_meta.proofs.Alike.{item_of}
use Rattle.px_link_tokens.specs.Outside.{gives_name}
use Rattle.px_link_tokens.proofs.Members.{method_by, name_at, parent_there}
use Rattle.px_link_tokens.proofs.member.method_member.Goals as goal
use Rattle.px_link_tokens.proofs.member.method_member.Goals.{After-owned_member}

owner_is : (c : After-owned_member) → (get_or c.methods.result.now (c.in_ok-row.row - 1) c.index-methods-row.result).owner ≡ owner_of c.args.meta.now methods c.in_ok-row.row
owner_is c =
    let v = c.args.meta.now in
    let is_row = subst (λ o. IfSome o (IsRow v methods)) c.in_ok-row.was c.requires in
    let item = item_of IsMethod v methods c.in_ok-row.row c.methods.result.now c.index-methods-row.result c.methods.ensures is_row c.index-methods-row.is in
    ap (λ i. i.owner) (sym c.index-methods-row.is) ∙ item.owner

gives : (c : After-owned_member) → gives_name c.tables-tables.result.now c.args.opcode c.in_ok-row.row ≡ true
gives c = sym c.gives_name.ensures ∙ c.if-not-gives_name.false

pub returns-clause-member : goal.returns-clause-member
returns-clause-member c =
    let v = c.args.meta.now in
    let name = name_at v c.tables-tables.result.now methods c.in_ok-row.row 3 c.cell_of.result c.text_at.result.now c.tables-tables.ensures.same c.cell_of.ensures c.text_at.ensures in
    method_by v c.tables-tables.result.now c.args.opcode c.args.row c.in_ok-row.row _ _ _ c.in_ok-row.was c.tables-tables.ensures.same (gives c) (owner_is c) name c.owned_member.ensures

pub returns-clause-there : goal.returns-clause-there
returns-clause-there c = parent_there c.args.meta.now methods c.in_ok-row.row _ c.text_at.result.now _ (owner_is c) c.owned_member.ensures
