use Rattle.px_program.proofs.Likeness.{read_first}
use Rattle.px_program.proofs.methods.MethodTable.first_like.Goals as goal

pub returns-clause-earlier : goal.returns-clause-earlier
returns-clause-earlier c = (read_first c.self.inside.methods.items c.args.self.now c.self.inside.firsts.items c.args.number c.index.result.now c.self.view_is c.self.invariant c.requires c.index.ensures).earlier

pub returns-clause-alike : goal.returns-clause-alike
returns-clause-alike c = (read_first c.self.inside.methods.items c.args.self.now c.self.inside.firsts.items c.args.number c.index.result.now c.self.view_is c.self.invariant c.requires c.index.ensures).alike
