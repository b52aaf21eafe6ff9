use Rattle.px_verify_rounds.proofs.Entries.{all_there, read_same}
use Rattle.px_verify_rounds.proofs.typing.Typing.outcome.Goals as goal

pub returns-in-Ok-clause-same : goal.returns-in-Ok-clause-same
returns-in-Ok-clause-same c = read_same c.args.self.now.stacks c.flow.new.stacks c.args.self.now.entries.items c.flow.ensures.kept c.requires.valid

pub returns-in-Ok-clause-valid : goal.returns-in-Ok-clause-valid
returns-in-Ok-clause-valid c = all_there c.args.self.now.stacks c.flow.new.stacks c.args.self.now.entries.items c.flow.ensures.kept c.requires.valid

pub returns-in-Err-Fault-clause-same : goal.returns-in-Err-Fault-clause-same
returns-in-Err-Fault-clause-same c = read_same c.args.self.now.stacks c.flow.new.stacks c.args.self.now.entries.items c.flow.ensures.kept c.requires.valid

pub returns-in-Err-Fault-clause-valid : goal.returns-in-Err-Fault-clause-valid
returns-in-Err-Fault-clause-valid c = all_there c.args.self.now.stacks c.flow.new.stacks c.args.self.now.entries.items c.flow.ensures.kept c.requires.valid

pub returns-in-Err-Memory-clause-same : goal.returns-in-Err-Memory-clause-same
returns-in-Err-Memory-clause-same c = read_same c.args.self.now.stacks c.flow.new.stacks c.args.self.now.entries.items c.flow.ensures.kept c.requires.valid

pub returns-in-Err-Memory-clause-valid : goal.returns-in-Err-Memory-clause-valid
returns-in-Err-Memory-clause-valid c = all_there c.args.self.now.stacks c.flow.new.stacks c.args.self.now.entries.items c.flow.ensures.kept c.requires.valid
