use Rattle.std.proofs.Common.{ap, arith, length}
use Rattle.px_tree.specs.Tree.{paths_of}
use Rattle.px_tree.proofs.Nodes.{made_none, path_short}
use Rattle.px_tree.proofs.side.push_made.Goals as goal

pub loop-depth-init : goal.loop-depth-init
loop-depth-init c =
    made_none (paths_of c.args.records.now) c.args.maker c.first_new_depth-depth.result c.args.out.now.items c.first_new_depth-depth.ensures.within c.first_new_depth-depth.ensures.first

pub overflow_cast-depth : goal.overflow_cast-depth
overflow_cast-depth c =
    let short = path_short c.args.records.now c.args.maker c.requires.short c.requires.there in
    let same = ap length c.path_at-path.ensures in
    omega (arith, short, same)
