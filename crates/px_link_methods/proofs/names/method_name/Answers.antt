use Rattle.std.proofs.Common.{◌++◌, sym, ap, ◌∙◌, subst}
use Rattle.px_meta.specs.FullNames.{IsTypeName}
use Rattle.px_meta.specs.Rows.{cell, methods, text_at}
use Rattle.px_meta.proofs.Alike.{owner_row, text_is}
use Rattle.px_link_methods.proofs.names.method_name.Goals as goal

pub full_name-requires : goal.full_name-requires
full_name-requires c =
    let m = c.method_at-method.ensures in
    owner_row c.args.meta.now methods c.args.row c.method_at-method.result.now.owner (sym m.owner) (λ e. c.requires.owned (sym m.owner ∙ e))

pub returns : goal.returns
returns c =
    let v = c.args.meta.now in
    let m = c.method_at-method.ensures in
    let at = cell v methods c.args.row 3 in
    let text = c.in_ok-from_slice-2.ensures ∙ c.as_bytes.ensures.value ∙ sym (text_is v at c.method_at-method.result.now.name.now m.name) in
    record {
      type = c.in_ok-name.name;
      type_is = subst (λ o. IsTypeName v o c.in_ok-name.name) m.owner c.in_ok-name.ensures;
      is = c.in_ok-append-2.ensures ∙ ap (λ l. c.append.new.self ++ l) text ∙ ap (λ l. l ++ text_at v at) (c.in_ok-append.ensures ∙ ap (λ l. c.in_ok-name.name ++ l) c.in_ok-from_slice.ensures);
    }
