use Rattle.std.proofs.Common.{arith, inl}
use Rattle.px_program.proofs.Likeness.{firsts_pushed}
use Rattle.px_program.proofs.methods.MethodTable.push.Goals as goal

pub invariant_of-self : goal.invariant_of-self
invariant_of-self c =
    let pushed = c.push_both.ensures in
    firsts_pushed c.self.inside.methods.items c.self.inside.firsts.items c.args.method c.in-Ok.first c.push_both.result c.push_both.new.methods.items c.push_both.new.firsts.items c.self.invariant (inl (omega (arith, c.in-Ok.ensures, c.len.ensures, c.self.inside.methods.ok))) pushed.methods pushed.firsts pushed.kept
