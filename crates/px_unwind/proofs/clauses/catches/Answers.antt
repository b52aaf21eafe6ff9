use Rattle.px_unwind.proofs.Answering.{catch_answer}
use Rattle.px_unwind.proofs.clauses.catches.Goals as goal

pub returns-in-Some : goal.returns-in-Some
returns-in-Some c = catch_answer c.args.program.now.types c.requires.types c.args.class c.args.caught c.in-Some.caught c.is_kind_of.result c.in-Some.is c.is_kind_of.ensures
