use Rattle.std.proofs.Common.{refl}
use Rattle.std.specs.BTreeSet.{btree_set_len}
use Rattle.px_verify_rounds.specs.Typings.{table_of}
use Rattle.px_verify_rounds.proofs.Visits.{all_settled, next_begins, next_between, rounds_fall, some_left}
use Rattle.px_verify_rounds.proofs.rounds.settle.Goals as goal

pub rounds-preserved : goal.rounds-preserved
rounds-preserved c = record {
  between = next_between c.args.program.now c.args.method.now (table_of c.rounds.typing) (table_of c.round.new.typing) c.rounds.work _ c.round.new.work c.rounds.invariant.between c.in_ok-round.ensures.rounds;
  valid = c.round.ensures.valid;
}

pub returns-clause-table : goal.returns-clause-table
returns-clause-table c = all_settled c.args.program.now c.args.method.now (table_of c.rounds.typing) c.rounds.work c.rounds.invariant.between (c.rounds-test.ensures.0 refl)

pub round-requires-clause-begins : goal.round-requires-clause-begins
round-requires-clause-begins c =
    next_begins c.args.program.now c.args.method.now (table_of c.rounds.typing) c.rounds.work (record { now = c.swap.new.x; later = c.swap.new.y }) c.rounds.invariant.between c.swap.ensures.x_after
    (some_left (btree_set_len c.rounds.work.later) c.rounds-test.ensures.1)

pub rounds-smaller : goal.rounds-smaller
rounds-smaller c =
    rounds_fall c.args.program.now c.args.method.now (table_of c.rounds.typing) (table_of c.round.new.typing) c.rounds.work (record { now = c.swap.new.x; later = c.swap.new.y }) c.round.new.work
    c.swap.ensures.x_after c.swap.ensures.y_after c.in_ok-round.ensures.rounds
