use Rattle.std.proofs.Common.{◌≡◌, suc, ◌-◌, ◌++◌, drop, get_or, refl, ap, ◌∙◌, arith}
use Rattle.std.specs.Prelude.{codes}
use Rattle.px_link_tokens.specs.Outside.{own_ref_name}
use Rattle.px_link_tokens.proofs.Nesting.{named, names_before, one_more_name}
use Rattle.px_link_tokens.proofs.names.nested_name.Goals as goal

pub loop-n-preserved : goal.loop-n-preserved
loop-n-preserved c =
    let v = c.args.tables.now in
    let scopes = c.args.scopes.now in
    let n = c.loop-n.n - 1 in
    let same : c.loop-n.n ≡ suc n = omega arith in
    c.in_ok-push.ensures.items ∙ ap (λ text. text ++ codes "/") c.in_ok-push_own_name.ensures
    ∙ one_more_name v scopes n (get_or scopes n 0) c.loop-n.name.items (omega arith) refl (c.loop-n.invariant ∙ ap (λ k. names_before v (drop k scopes)) same)

pub returns : goal.returns
returns c =
    let v = c.args.tables.now in
    let scopes = c.args.scopes.now in
    let done : c.loop-n.n ≡ 0 = omega arith in
    c.in_ok-push_own_name-2.ensures ∙ ap (λ text. text ++ own_ref_name v c.args.row) (c.loop-n.invariant ∙ ap (λ k. names_before v (drop k scopes)) done)
    ∙ named v c.args.row scopes
