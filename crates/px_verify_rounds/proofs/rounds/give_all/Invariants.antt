use Rattle.px_verify_kinds.specs.Stacks.{Extends, kinds_of}
use Rattle.px_verify_rounds.specs.Typings.{IsValid, table_of}
use Rattle.px_verify_rounds.proofs.Visits.{Spreading}
use Rattle.px_verify_rounds.proofs.rounds.give_all.Given as goal

abbrev pub invariant-loop-next : goal.invariant-loop-next
invariant-loop-next l = record {
  spreading : Spreading l.program.types l.from (kinds_of l.fn.typing.stacks l.given) l.to (table_of l.fn.typing) l.fn.work l.next-index (table_of l.typing) l.work;
  kept : Extends l.fn.typing.stacks l.typing.stacks;
  valid : IsValid l.typing;
}
