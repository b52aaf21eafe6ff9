use Rattle.px_verify_kinds.specs.Stacks.{kinds_of}
use Rattle.px_verify_kinds.proofs.Walked.{heights_apart}
use Rattle.px_verify_kinds.proofs.stacks.Stacks.merge.Goals as goal

pub returns-then-height-clause-merged : goal.returns-then-height-clause-merged
returns-then-height-clause-merged c = heights_apart c.args.program.now.types (kinds_of c.args.self.now c.args.standing) (kinds_of c.args.self.now c.args.given) c.height.result c.height-2.result c.height.ensures c.height-2.ensures c.if-height.true
