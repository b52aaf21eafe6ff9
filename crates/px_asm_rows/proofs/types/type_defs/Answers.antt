use Rattle.std.proofs.Common.{sym, ap, ◌∙◌, subst}
use Rattle.std.specs.List.{AllByRecursion, AllZip}
use Rattle.px_asm_store.specs.Rows.{IsLaid}
use Rattle.px_asm_rows.specs.Tables.{IsTypeDefOf}
use Rattle.px_asm_rows.proofs.TableFacts.{table_laid}
use Rattle.px_asm_rows.proofs.TableStays.{heaps, table_stays_module}
use Rattle.px_asm_rows.proofs.TableTypes.{table_one_in_front, table_type_defs}
use Rattle.px_asm_rows.proofs.types.type_defs.Goals as goal

pub class_rows-requires-clause-laid : goal.class_rows-requires-clause-laid
class_rows-requires-clause-laid c =
    let p = c.args.rows.now in
    subst (AllByRecursion (IsLaid p)) (sym (c.as_slice-2.ensures ∙ ap (λ q. q.layout.types) c.program.ensures.same)) (table_laid p.layout.types)

pub returns-clause-are : goal.returns-clause-are
returns-clause-are c =
    let p = c.args.rows.now in
    let s = c.class_rows.new.store in
    let row = c.in_ok-module_row.field-0 in
    let classes = c.in_ok-classes.classes.items in
    table_type_defs p c.program.ensures.room.writable s row classes c.append.new.self.items
    (table_stays_module c.module_row.new.store s (heaps c.module_row.new.store s c.in_ok-classes.ensures.grows) row c.in_ok-module_row.ensures.row)
    (subst (λ l. AllZip (IsTypeDefOf p s) l classes) (c.as_slice-2.ensures ∙ ap (λ q. q.layout.types) c.program.ensures.same) c.in_ok-classes.ensures.are)
    (table_one_in_front c.new-made.result.items c.push.new.self.items c.append.new.self.items classes row c.new-made.ensures.items c.in_ok-push.ensures.items c.in_ok-append.ensures.items)
