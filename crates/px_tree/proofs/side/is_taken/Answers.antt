use Rattle.std.proofs.Common.{sym, arith}
use Rattle.px_tree.specs.Tree.{paths_of, path_at, is_taken}
use Rattle.px_tree.proofs.Nodes.{taken_later, taken_rest}
use Rattle.px_tree.proofs.side.is_taken.Goals as goal

pub loop-n-init : goal.loop-n-init
loop-n-init c = taken_later (paths_of c.args.records.now) c.args.side c.requires.made

pub returns-then-takes : goal.returns-then-takes
returns-then-takes c =
    let paths = paths_of c.args.records.now in
    let side = c.args.side in
    let rest = taken_rest c.args.records.now (path_at paths side.maker) c.path_at-path.result.now c.args.passed.now side.maker c.loop-n.n side.depth side.side c.takes.result (is_taken paths side)
    (omega arith) (omega arith) c.path_at-path.ensures c.requires.passed c.requires.made.within c.takes.ensures c.loop-n.invariant in
    sym (rw c.if-takes.true at rest)

pub loop-n-preserved : goal.loop-n-preserved
loop-n-preserved c =
    let paths = paths_of c.args.records.now in
    let side = c.args.side in
    let rest = taken_rest c.args.records.now (path_at paths side.maker) c.path_at-path.result.now c.args.passed.now side.maker c.loop-n.n side.depth side.side c.takes.result (is_taken paths side)
    (omega arith) (omega arith) c.path_at-path.ensures c.requires.passed c.requires.made.within c.takes.ensures c.loop-n.invariant in
    sym (rw c.if-takes.false at rest)
