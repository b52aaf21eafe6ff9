use Rattle.std.proofs.Common.{◌∷◌, sym, ap, ◌∙◌}
use Rattle.px_meta.specs.Rows.{is_in}
use Rattle.px_link_tokens.proofs.Around.{around_back, around_begun, around_ended, around_on, fewer_scopes}
use Rattle.px_link_tokens.proofs.scopes.scopes_of.Goals as goal

pub loop-scope-init : goal.loop-scope-init
loop-scope-init c = around_begun c.args.tables.now c.args.row c.new-scopes.result.items c.new-scopes.ensures.items c.requires

pub returns-then-is_met-clause-scopes : goal.returns-then-is_met-clause-scopes
returns-then-is_met-clause-scopes c =
    let met = ap (λ s. is_in (c.args.row ∷ s) c.in-Some.scope) (sym c.deref.ensures.value) ∙ sym c.is_met.ensures ∙ c.if-is_met.true in
    around_back c.args.tables.now c.args.row c.loop-scope.scopes.items c.loop-scope.at c.in-Some.scope c.loop-scope.invariant (sym c.in-Some.ensures.scope) met

pub loop-scope-smaller : goal.loop-scope-smaller
loop-scope-smaller c =
    fewer_scopes c.args.tables.now c.args.row c.loop-scope.scopes.items c.push.new.self.items c.loop-scope.at c.in-Some.scope c.loop-scope.invariant c.in_ok-push.ensures.items

pub loop-scope-preserved : goal.loop-scope-preserved
loop-scope-preserved c =
    let new = ap (λ s. is_in (c.args.row ∷ s) c.in-Some.scope) (sym c.deref.ensures.value) ∙ sym c.is_met.ensures ∙ c.if-is_met.false in
    around_on c.args.tables.now c.args.row c.loop-scope.scopes.items c.push.new.self.items c.loop-scope.at c.in-Some.scope c.loop-scope.invariant (sym c.in-Some.ensures.scope) c.in-Some.ensures.there new
    c.in_ok-push.ensures.items

pub returns-clause-scopes : goal.returns-clause-scopes
returns-clause-scopes c = around_ended c.args.tables.now c.args.row c.loop-scope.scopes.items c.loop-scope.at c.loop-scope.invariant (sym c.scope_of.ensures.scope ∙ c.in_default.is)
