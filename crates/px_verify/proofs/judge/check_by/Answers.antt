use Rattle.std.proofs.Common.{sym, subst, ◌∙◌, Some, None, IsSome}
use Rattle.px_verify_rounds.specs.Table.{Table, stack_at}
use Rattle.px_verify_rounds.specs.Typings.{table_of}
use Rattle.px_verify.specs.Judged.{IsBadAt}
use Rattle.px_verify.proofs.Judging.{IsSearched, searched_refused, searched_stands, searched_typed, searched_where}
use Rattle.px_verify.proofs.judge.check_by.Goals as goal

pub refusal-requires-clause-finds : goal.refusal-requires-clause-finds
refusal-requires-clause-finds c =
    let table = table_of c.args.typing.now in
    let searched : IsSearched c.args.program.now c.args.number c.args.method.now table (Some (c.in-Some.offset, c.in-Some.kind)) =
    searched_where c.args.program.now c.args.number c.args.method.now table (table_of c.least_clash.new.typing) c.in_ok-least.least (Some (c.in-Some.offset, c.in-Some.kind)) c.requires.formed c.requires.at c.requires.code
    c.requires.table c.least_clash.ensures.same c.in_ok-least.ensures.least (sym c.in-Some.is ∙ c.in_ok-offset.ensures.first) in
    subst (λ (t : Table). IsSome (stack_at t c.in-Some.offset)) (sym (c.first_where.ensures.same ∙ c.least_clash.ensures.same))
    (searched_stands c.args.program.now c.args.number c.args.method.now table c.in-Some.offset c.in-Some.kind searched)

pub returns-in-Some : goal.returns-in-Some
returns-in-Some c =
    let table = table_of c.args.typing.now in
    let searched : IsSearched c.args.program.now c.args.number c.args.method.now table (Some (c.in-Some.offset, c.in-Some.kind)) =
    searched_where c.args.program.now c.args.number c.args.method.now table (table_of c.least_clash.new.typing) c.in_ok-least.least (Some (c.in-Some.offset, c.in-Some.kind)) c.requires.formed c.requires.at c.requires.code
    c.requires.table c.least_clash.ensures.same c.in_ok-least.ensures.least (sym c.in-Some.is ∙ c.in_ok-offset.ensures.first) in
    searched_refused c.args.program.now c.args.number c.args.method.now table c.in-Some.offset c.in-Some.kind searched c.refusal.result
    (subst (λ (t : Table). IsBadAt t c.args.number c.in-Some.offset c.in-Some.kind c.refusal.result) (c.first_where.ensures.same ∙ c.least_clash.ensures.same) c.refusal.ensures)

pub returns-in-None : goal.returns-in-None
returns-in-None c =
    let table = table_of c.args.typing.now in
    searched_typed c.args.program.now c.args.number c.args.method.now table
    (searched_where c.args.program.now c.args.number c.args.method.now table (table_of c.least_clash.new.typing) c.in_ok-least.least None c.requires.formed c.requires.at c.requires.code c.requires.table c.least_clash.ensures.same
    c.in_ok-least.ensures.least (sym c.in-None.is ∙ c.in_ok-offset.ensures.first))
