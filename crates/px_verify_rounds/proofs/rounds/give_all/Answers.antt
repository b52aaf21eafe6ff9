use Rattle.std.proofs.Common.{◌≡◌, ◌<◌, List, [], ◌∷◌, length, arith, subst}
use Rattle.std.specs.Prelude.{slice_index}
use Rattle.px_verify_kinds.specs.Stacks.{kinds_of}
use Rattle.px_verify_kinds.specs.declared.kind.Kind.{Kind}
use Rattle.px_verify_rounds.specs.Rounds.{Spreads}
use Rattle.px_verify_rounds.specs.Typings.{table_of}
use Rattle.px_verify_rounds.proofs.Entries.{extends_itself, extends_on, kinds_same}
use Rattle.px_verify_rounds.proofs.Visits.{spreading_end, spreading_start, spreading_step}
use Rattle.px_verify_rounds.proofs.rounds.give_all.Goals as goal

pub loop-next-preserved : goal.loop-next-preserved
loop-next-preserved c =
    let within : c.loop-next.next-index < length c.args.to.now = omega arith in
    let types = c.args.program.now.types in
    let to = c.args.to.now in
    let same : kinds_of c.loop-next.typing.stacks c.args.given ≡ kinds_of c.args.typing.now.stacks c.args.given = kinds_same c.args.typing.now.stacks c.loop-next.typing.stacks c.args.given c.loop-next.invariant.kept c.requires.given in
    record {
      spreading = spreading_step types c.args.from (kinds_of c.args.typing.now.stacks c.args.given) to (table_of c.args.typing.now) (table_of c.loop-next.typing) (table_of c.give_one.new.typing) c.args.work.now c.loop-next.work c.give_one.new.work
          c.loop-next.next-index within c.loop-next.invariant.spreading
          (subst (λ (kinds : List Kind). Spreads types c.args.from kinds (slice_index to c.loop-next.next-index ∷ []) (table_of c.loop-next.typing) c.loop-next.work (table_of c.give_one.new.typing) c.give_one.new.work) same c.in_ok-give_one.ensures.spreads);
      kept = extends_on c.args.typing.now.stacks c.loop-next.typing.stacks c.give_one.new.typing.stacks c.loop-next.invariant.kept c.give_one.ensures.kept;
      valid = c.give_one.ensures.valid;
    }

pub loop-next-init : goal.loop-next-init
loop-next-init c = record {
  spreading = spreading_start c.args.program.now.types c.args.from (kinds_of c.args.typing.now.stacks c.args.given) c.args.to.now (table_of c.args.typing.now) c.args.work.now;
  kept = extends_itself c.args.typing.now.stacks;
  valid = c.requires.valid;
}

pub returns-clause-spreads : goal.returns-clause-spreads
returns-clause-spreads c =
    spreading_end c.args.program.now.types c.args.from (kinds_of c.args.typing.now.stacks c.args.given) c.args.to.now (table_of c.args.typing.now) (table_of c.loop-next.typing) c.args.work.now c.loop-next.work
    c.loop-next.next-index (omega arith) (omega arith) c.loop-next.invariant.spreading
