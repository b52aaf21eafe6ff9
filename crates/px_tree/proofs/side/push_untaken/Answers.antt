use Rattle.std.proofs.Common.{ap, sym, ◌∙◌, arith, rules, map, drop}
use Rattle.std.proofs.lemmas.List.{take_rest}
use Rattle.px_tree.specs.Passed.{passed_nodes}
use Rattle.px_tree.specs.Tree.{paths_of, path_at}
use Rattle.px_tree.proofs.Nodes.{is_made}
use Rattle.px_tree.proofs.side.push_untaken.Goals as goal

pub is_taken-requires-clause-made : goal.is_taken-requires-clause-made
is_taken-requires-clause-made c =
    (is_made (paths_of c.args.records.now) c.args.maker c.deref-side-items.result.now c.loop-side.side-index _ (c.deref-side-items.ensures.value ∙ search rules) (omega arith)).1

pub is_taken-requires-clause-passed : goal.is_taken-requires-clause-passed
is_taken-requires-clause-passed c =
    let maker = (is_made (paths_of c.args.records.now) c.args.maker c.deref-side-items.result.now c.loop-side.side-index _ (c.deref-side-items.ensures.value ∙ search rules) (omega arith)).0 in
    let counts = c.as_slice.ensures.value ∙ c.in_ok-passed.ensures
    ∙ ap (λ v. map (λ r. passed_nodes c.path_at.result.now r.events) v) (take_rest c.args.records.now c.args.maker)
    ∙ ap (λ v. map (λ r. passed_nodes v r.events) (drop c.args.maker c.args.records.now)) c.path_at.ensures in
    counts ∙ ap (λ n. map (λ r. passed_nodes (path_at (paths_of c.args.records.now) n) r.events) (drop n c.args.records.now)) (sym maker)
