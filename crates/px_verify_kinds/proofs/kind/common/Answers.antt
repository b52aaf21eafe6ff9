use Rattle.px_verify_kinds.proofs.Lines.{common_is, common_none}
use Rattle.px_verify_kinds.proofs.kind.common.Goals as goal

pub returns-in-Some : goal.returns-in-Some
returns-in-Some c = common_is c.args.program.now.types c.requires.types c.args.class c.args.other c.in-Some.base c.in-Some.ensures

pub returns-in-None : goal.returns-in-None
returns-in-None c = common_none c.args.program.now.types c.requires.types c.args.class c.args.other c.in-None.ensures
