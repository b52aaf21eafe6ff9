use Rattle.std.proofs.Common.{ap, subst, sym, ◌∙◌}
use Rattle.px_blobs.specs.Items.{IsStringAt}
use Rattle.px_meta.specs.Members.{IsField, IsMethod, owner_of}
use Rattle.px_meta.specs.Resolved.{IsReference}
use Rattle.px_meta.specs.Rows.{cell, fields, member_refs, methods}
use Rattle.px_meta.specs.Tokens.{IsMember, NamesMember, parent_by, parent_of}
use Rattle.px_meta.specs.declared.meta.Member.TheVariants.{External, Field, Method}
use Rattle.px_meta.proofs.Naming.{field_unowned, item_named, method_unowned, reference_readable, same_sig}
use Rattle.px_meta.proofs.metadata.Meta.member.Goals as goal

pub returns-then-owner-eq0 : goal.returns-then-owner-eq0
returns-then-owner-eq0 c =
    let v = c.self.inside.tables in
    let is = c.in-Some.ensures in
    let m = item_named IsMethod v methods c.args.token c.in-Some.row c.self.inside.methods.items c.index.result.now c.self.invariant.methods is.0 is.1 c.index.ensures in
    subst (λ v. NamesMember v c.args.token → ⊥) c.self.view_is (method_unowned v c.args.token is.1 (sym m.owner ∙ c.if-owner-eq0.true))

pub returns-else-owner-eq0 : goal.returns-else-owner-eq0
returns-else-owner-eq0 c =
    let v = c.self.inside.tables in
    let is = c.in-Some.ensures in
    let m = item_named IsMethod v methods c.args.token c.in-Some.row c.self.inside.methods.items c.index.result.now c.self.invariant.methods is.0 is.1 c.index.ensures in
    subst (λ v. IsMember v c.args.token (Method c.in-Some.row)) c.self.view_is
    (is.1, is.0, λ e. c.if-owner-eq0.false (m.owner ∙ sym (ap (λ r. owner_of v methods r) is.0) ∙ e))

pub returns-then-owner-eq0-2 : goal.returns-then-owner-eq0-2
returns-then-owner-eq0-2 c =
    let v = c.self.inside.tables in
    let is = c.in-Some-row_named.ensures in
    let f = item_named IsField v fields c.args.token c.in-Some-row_named.row c.self.inside.fields.items c.index-in-Some-row_named.result.now c.self.invariant.fields is.0 is.1 c.index-in-Some-row_named.ensures in
    subst (λ v. NamesMember v c.args.token → ⊥) c.self.view_is (field_unowned v c.args.token is.1 (sym f.owner ∙ c.if-owner-eq0-2.true))

pub returns-else-owner-eq0-2 : goal.returns-else-owner-eq0-2
returns-else-owner-eq0-2 c =
    let v = c.self.inside.tables in
    let is = c.in-Some-row_named.ensures in
    let f = item_named IsField v fields c.args.token c.in-Some-row_named.row c.self.inside.fields.items c.index-in-Some-row_named.result.now c.self.invariant.fields is.0 is.1 c.index-in-Some-row_named.ensures in
    subst (λ v. IsMember v c.args.token (Field c.in-Some-row_named.row)) c.self.view_is
    (is.1, is.0, λ e. c.if-owner-eq0-2.false (f.owner ∙ sym (ap (λ r. owner_of v fields r) is.0) ∙ e))

pub returns-in_err-name : goal.returns-in_err-name
returns-in_err-name c =
    let v = c.self.inside.tables in
    let is = c.in_ok-row.ensures in
    absurd (reference_readable v c.args.token c.in_ok-row.row c.cell_of-2.result c.self.invariant.faultless is.0 is.1 c.cell_of-2.ensures c.in_err-name.ensures)

pub returns : goal.returns
returns c =
    let v = c.self.inside.tables in
    let at = c.args.token in
    let row = c.in_ok-row.row in
    let is = c.in_ok-row.ensures in
    let r = item_named IsReference v member_refs at row c.self.inside.references.items c.index-2.result.now c.self.invariant.references is.0 is.1 c.index-2.ensures in
    subst (λ v. IsMember v at (External c.parent_token-owner.result c.in_ok-name.name c.lent-sig.result)) c.self.view_is (
      is.1,
      c.parent_token-owner.ensures ∙ ap parent_by c.cell_of.ensures ∙ ap (λ n. parent_of v n) is.0,
      subst (λ n. IsStringAt v.strings n c.in_ok-name.name.now) (c.cell_of-2.ensures ∙ ap (λ n. cell v member_refs n 1) is.0) c.in_ok-name.ensures,
      same_sig (λ s. s.now) _ c.lent-sig.result c.index-2.result.now c.lent-sig.ensures r.sig_is,
    )
