use Rattle.std.proofs.Common.{◌≡◌, ◌++◌, ap, ◌∙◌, subst}
use Rattle.px_link.proofs.Naming.{EndsNot, named_told, no_colons, other_method}
use Rattle.px_link.proofs.name.is_named.Goals as goal

pub returns-in_default : goal.returns-in_default
returns-in_default c = λ row there is.
    other_method c.args.meta.now c.args.name.now row c.args.method.now is (subst (λ ending. EndsNot c.args.name.now ending) c.as_bytes.ensures.value c.in_default.ensures)

pub returns-in-Some-before : goal.returns-in-Some-before
returns-in-Some-before c = λ row there is.
    let m = c.args.method.now in
    let front = c.in-Some.front.now in
    let own : c.args.name.now ≡ front ++ m.name.now = c.in-Some.ensures ∙ ap (λ t. front ++ t) c.as_bytes.ensures.value in
    named_told c.args.meta.now c.args.name.now front c.in-Some-before.text.now row m c.is_type_name.result there is c.if-method-eq0.false own c.in-Some-before.ensures c.is_type_name.ensures

pub returns-in-None : goal.returns-in-None
returns-in-None c = λ row there is.
    let m = c.args.method.now in
    let front = c.in-Some.front.now in
    let own : c.args.name.now ≡ front ++ m.name.now = c.in-Some.ensures ∙ ap (λ t. front ++ t) c.as_bytes.ensures.value in
    no_colons c.args.meta.now c.args.name.now front row m is own c.in-None.ensures
