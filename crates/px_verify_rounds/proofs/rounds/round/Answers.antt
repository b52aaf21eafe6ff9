use Rattle.px_verify_rounds.specs.Typings.{table_of}
use Rattle.px_verify_rounds.proofs.Laws.{laws}
use Rattle.px_verify_rounds.proofs.Visits.{round_end, round_falls, round_start, round_step}
use Rattle.px_verify_rounds.proofs.rounds.round.Goals as goal

pub loop-at-init : goal.loop-at-init
loop-at-init c = record {
  within = round_start c.args.program.now c.args.method.now (table_of c.args.typing.now) c.args.work.now c.requires.begins;
  valid = c.requires.valid;
}

pub returns-in-None-clause-rounds : goal.returns-in-None-clause-rounds
returns-in-None-clause-rounds c =
    round_end c.args.program.now c.args.method.now (table_of c.args.typing.now) c.args.work.now (table_of c.loop-at.typing) c.loop-at.work c.next.new.self c.loop-at.invariant.within c.in-None.ensures

pub loop-at-preserved : goal.loop-at-preserved
loop-at-preserved c = record {
  within = round_step c.args.program.now c.args.method.now (table_of c.args.typing.now) c.args.work.now (table_of c.loop-at.typing) (table_of c.visit.new.typing) c.loop-at.work c.next.new.self c.visit.new.work c.in-Some.at
      laws c.requires.types c.requires.follow c.loop-at.invariant.within c.in-Some.ensures c.in_ok-visit-in-Some.ensures.visits;
  valid = c.visit.ensures.valid;
}

pub loop-at-smaller : goal.loop-at-smaller
loop-at-smaller c =
    round_falls c.args.program.now c.args.method.now c.in-Some.at (table_of c.loop-at.typing) (table_of c.visit.new.typing) c.loop-at.work c.next.new.self c.visit.new.work c.in-Some.ensures c.in_ok-visit-in-Some.ensures.visits
