use Rattle.px_program.proofs.Likeness.{firsts_pushed, renamed_can, renamed_pushed}
use Rattle.px_program.proofs.methods.MethodTable.push_like.Goals as goal

pub invariant_of-self : goal.invariant_of-self
invariant_of-self c =
    let pushed = c.push_both.ensures in
    let can = renamed_can c.self.inside.methods.items c.args.self.now c.self.inside.firsts.items c.args.number c.index-first.result.now c.index.result.now c.in_ok-like.like c.args.name c.args.owner c.self.view_is c.self.invariant c.requires.there c.index-first.ensures c.index.ensures c.requires.owner c.in_ok-like.ensures in
    firsts_pushed c.self.inside.methods.items c.self.inside.firsts.items c.in_ok-like.like c.index-first.result.now c.push_both.result c.push_both.new.methods.items c.push_both.new.firsts.items c.self.invariant can pushed.methods pushed.firsts pushed.kept

pub returns : goal.returns
returns c =
    renamed_pushed c.self.inside.methods.items c.args.self.now c.args.number c.index.result.now c.in_ok-like.like c.args.name c.args.owner c.push_both.result c.push_both.new.methods.items c.self.view_is c.requires.there c.index.ensures c.in_ok-like.ensures c.push_both.ensures.methods
