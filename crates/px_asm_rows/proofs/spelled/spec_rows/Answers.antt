use Rattle.std.proofs.Common.{◌++◌, length, map, sym, ap, ◌∙◌, subst}
use Rattle.std.specs.Prelude.{IfOk}
use Rattle.std.specs.List.{AllByRecursion, AllZip, range_with_len}
use Rattle.px_program.specs.Formed.{FitsPlace}
use Rattle.px_program.specs.declared.program.Place.TheVariants as places
use Rattle.px_asm_law_written.specs.Holds.{IsSpecRow, integer_places}
use Rattle.px_asm_rows.proofs.TableFacts.{table_places_fit}
use Rattle.px_asm_rows.proofs.spelled.spec_rows.Goals as goal

pub rows_of-requires : goal.rows_of-requires
rows_of-requires c =
    let p = c.args.rows.now in
    let all = c.deref.ensures.value ∙ c.in_ok-places.ensures ∙ ap (λ n. integer_places ++ map places.Ref (range_with_len 0 n)) (c.len.ensures ∙ ap (λ q. length q.types) c.program.ensures.same) in
    subst (AllByRecursion (FitsPlace p.types)) (sym all) (table_places_fit p)

pub returns-clause-are : goal.returns-clause-are
returns-clause-are c =
    let p = c.args.rows.now in
    let all = c.deref.ensures.value ∙ c.in_ok-places.ensures ∙ ap (λ n. integer_places ++ map places.Ref (range_with_len 0 n)) (c.len.ensures ∙ ap (λ q. length q.types) c.program.ensures.same) in
    subst (λ l. IfOk c.rows_of.result (λ made. AllZip (IsSpecRow p c.rows_of.new.store) l made.items)) all c.rows_of.ensures.are
