use Rattle.std.proofs.Common.{List, [], arith, length, subst, ◌<◌, ◌∷◌}
use Rattle.px_verify_kinds.specs.declared.kind.Kind.{Kind}
use Rattle.px_verify_rounds.specs.Rounds.{Begins}
use Rattle.px_verify_rounds.specs.Typings.{table_of}
use Rattle.px_verify_rounds.proofs.Begins.{beginning_end, beginning_start, beginning_step}
use Rattle.px_verify_rounds.proofs.rounds.begin.Goals as goal

pub loop-clause-init : goal.loop-clause-init
loop-clause-init c = record {
  beginning = beginning_start c.args.program.now.types c.args.method.now (table_of c.args.typing.now) (table_of c.begin_one.new.typing) c.args.set.now c.begin_one.new.set
      (subst (λ (kinds : List Kind). Begins c.args.program.now.types ((0, kinds) ∷ []) (table_of c.args.typing.now) c.args.set.now (table_of c.begin_one.new.typing) c.begin_one.new.set)
      (c.empty.ensures.kinds c.args.typing.now.stacks) c.in_ok-begin_one.ensures.begins);
  valid = c.begin_one.ensures.valid;
}

pub loop-clause-preserved : goal.loop-clause-preserved
loop-clause-preserved c =
    let within : c.loop-clause.clause-index < length c.as_slice-clause-items.result.now = omega arith in
    record {
      beginning = beginning_step c.args.program.now.types c.args.method.now (table_of c.args.typing.now) (table_of c.loop-clause.typing) (table_of c.begin_block.new.typing) c.args.set.now c.loop-clause.set c.begin_block.new.set
          c.loop-clause.clause-index _ c.as_slice-clause-items.result.now c.as_slice-clause-items.ensures within c.loop-clause.invariant.beginning c.in_ok-begin_block.ensures.begins;
      valid = c.begin_block.ensures.valid;
    }

pub returns-clause-begins : goal.returns-clause-begins
returns-clause-begins c =
    beginning_end c.args.program.now.types c.args.method.now (table_of c.args.typing.now) (table_of c.loop-clause.typing) c.args.set.now c.loop-clause.set c.loop-clause.clause-index c.as_slice-clause-items.result.now c.as_slice-clause-items.ensures
    (omega arith) (omega arith) c.loop-clause.invariant.beginning
