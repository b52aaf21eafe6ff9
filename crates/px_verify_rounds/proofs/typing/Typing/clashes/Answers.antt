use Rattle.px_verify_rounds.proofs.Entries.{all_there, read_same}
use Rattle.px_verify_rounds.proofs.typing.Typing.clashes.Goals as goal

pub returns-in_err-merged-in-Some-clause-same : goal.returns-in_err-merged-in-Some-clause-same
returns-in_err-merged-in-Some-clause-same c = read_same c.args.self.now.stacks c.merge.new.self c.args.self.now.entries.items c.merge.ensures.kept c.requires.valid

pub returns-in_err-merged-in-Some-clause-valid : goal.returns-in_err-merged-in-Some-clause-valid
returns-in_err-merged-in-Some-clause-valid c = all_there c.args.self.now.stacks c.merge.new.self c.args.self.now.entries.items c.merge.ensures.kept c.requires.valid

pub returns-in_ok-merged-in-Some-clause-same : goal.returns-in_ok-merged-in-Some-clause-same
returns-in_ok-merged-in-Some-clause-same c = read_same c.args.self.now.stacks c.merge.new.self c.args.self.now.entries.items c.merge.ensures.kept c.requires.valid

pub returns-in_ok-merged-in-Some-clause-valid : goal.returns-in_ok-merged-in-Some-clause-valid
returns-in_ok-merged-in-Some-clause-valid c = all_there c.args.self.now.stacks c.merge.new.self c.args.self.now.entries.items c.merge.ensures.kept c.requires.valid
