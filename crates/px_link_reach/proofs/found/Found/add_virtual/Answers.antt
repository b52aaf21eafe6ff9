use Rattle.std.proofs.Common.{[], ◌∷◌, sym, ap, ◌∙◌, subst}
use Rattle.std.specs.List.{AllByRecursion}
use Rattle.std.proofs.lemmas.Bool.{not-false}
use Rattle.px_link_reach.specs.Met.{IsOwned, add_new}
use Rattle.px_link_reach.proofs.Keeping.{both_ok, kept_virtual, named_before}
use Rattle.px_link_reach.proofs.Owned.{overriders_owned}
use Rattle.px_link_reach.proofs.Sets.{added-append, has_is, inserted}
use Rattle.px_link_reach.proofs.found.Found.add_virtual.Goals as goal

pub returns-then-not-branch-clause-rows : goal.returns-then-not-branch-clause-rows
returns-then-not-branch-clause-rows c =
    let keys = c.args.self.now.virtual_targets.keys in
    let was = not-false _ (sym c.in_ok-insert.ensures.added ∙ c.if-not-branch.true) in
    named_before c.args.overriding.now.lists c.args.self.now.rows.keys keys c.args.target c.requires.kept.followed (sym (has_is keys c.args.target) ∙ was)

pub returns-clause-kept : goal.returns-clause-kept
returns-clause-kept c =
    let v = c.args.overriding.now.tables in
    let lists = c.args.overriding.now.lists in
    let rows = c.args.self.now.rows.keys in
    let target = c.args.target in
    let of = c.of.ensures in
    let added = c.in_ok-add.ensures in
    both_ok c.add_all.result c.add_all.ensures.rows c.add_all.ensures.few
    (λ is few. kept_virtual v lists rows c.args.self.now.virtual_targets.keys c.add_all.new.rows.keys c.insert.new.self.keys target c.requires.kept c.requires.owned
    (subst (AllByRecursion (IsOwned v)) of.list (overriders_owned v target c.of.result.now of.overriders))
    (is ∙ ap (λ l. add_new l c.of.result.now) added.rows ∙ sym (added-append rows (target ∷ []) c.of.result.now) ∙ ap (λ l. add_new rows (target ∷ l)) of.list)
    (c.in_ok-insert.ensures.keys ∙ inserted c.args.self.now.virtual_targets.keys target) few)
