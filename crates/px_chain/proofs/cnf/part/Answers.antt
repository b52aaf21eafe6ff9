use Rattle.std.proofs.Common.{◌≤◌, length, get_or, rules}
use Rattle.px_chain.proofs.Stores.{clauses_between-at, Ascend-at}
use Rattle.px_chain.proofs.cnf.part.Goals as goal
use Rattle.px_chain.proofs.cnf.part.Goals.{After-start_of-start}

within : (c : After-start_of-start) → (c.start_of-start.result ≤ get_or c.args.ends.now c.args.n 0) × (get_or c.args.ends.now c.args.n 0 ≤ length c.args.literals.now)
within c = rw c.start_of-start.ensures (Ascend-at c.args.literals.now 0 c.args.ends.now c.args.n c.requires.ascend c.requires.within)

pub offset_bounds-literals-start : goal.offset_bounds-literals-start
offset_bounds-literals-start c = let h = within (goal.at.offset_bounds-literals-start c).After-start_of-start in search (rules)

pub slice_bounds-result-count : goal.slice_bounds-result-count
slice_bounds-result-count c = let h = within (goal.at.slice_bounds-result-count c).After-start_of-start in search (rules)

pub slice_bounds-result-start : goal.slice_bounds-result-start
slice_bounds-result-start c = let h = within (goal.at.slice_bounds-result-start c).After-start_of-start in search (rules)

pub slice_bounds-result-end : goal.slice_bounds-result-end
slice_bounds-result-end c = let h = within (goal.at.slice_bounds-result-end c).After-start_of-start in search (rules)

pub returns : goal.returns
returns c = rw c.start_of-start.ensures (clauses_between-at _ _ _ _ c.requires.within)
