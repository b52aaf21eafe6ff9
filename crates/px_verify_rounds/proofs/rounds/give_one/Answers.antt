use Rattle.std.proofs.lemmas.Result.{on_ok_weaker}
use Rattle.px_verify_kinds.specs.Stacks.{kinds_of}
use Rattle.px_verify_rounds.specs.Typings.{table_of}
use Rattle.px_verify_rounds.proofs.Visits.{spread_changed, spread_still}
use Rattle.px_verify_rounds.proofs.rounds.give_one.Goals as goal

pub returns-then-branch-clause-spreads : goal.returns-then-branch-clause-spreads
returns-then-branch-clause-spreads c =
    on_ok_weaker c.put.result
    (spread_changed c.args.program.now.types c.args.from c.args.to (kinds_of c.args.typing.now.stacks c.args.given) (table_of c.args.typing.now) (table_of c.give.new.self) c.args.work.now c.put.new.self
    (rw c.if-branch.true at c.in_ok-give.ensures.gave))
    c.put.ensures

pub returns-else-branch-clause-spreads : goal.returns-else-branch-clause-spreads
returns-else-branch-clause-spreads c =
    spread_still c.args.program.now.types c.args.from c.args.to (kinds_of c.args.typing.now.stacks c.args.given) (table_of c.args.typing.now) (table_of c.give.new.self) c.args.work.now
    (rw c.if-branch.false at c.in_ok-give.ensures.gave)
