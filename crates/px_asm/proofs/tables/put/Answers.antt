use Rattle.std.proofs.Common.{[], ◌++◌, ◌∷◌, length, get_or, length-append, ap, ◌∙◌, arith}
use Rattle.px_asm.proofs.TableHolds.{table_padded, table_put}
use Rattle.px_asm.proofs.tables.put.Goals as goal

pub loop-alloc-preserved : goal.loop-alloc-preserved
loop-alloc-preserved c =
    let tables = c.loop-alloc.tables in
    let pushed = c.in_ok-push.ensures.ok ∙ ap (λ made. tables ++ made ∷ []) c.new.ensures in (
      omega (arith, ap length pushed, length-append tables ([] ∷ []), c.len.ensures, c.loop-alloc-test.true),
      λ other. ap (λ l. get_or l other []) pushed ∙ table_padded tables other ∙ c.loop-alloc.invariant.1 other,
    )

pub returns : goal.returns
returns c = table_put c.args.tables.now c.loop-alloc.tables c.push-2.new.self c.args.table c.args.made (omega arith) c.loop-alloc.invariant.1 c.in_ok-push-2.ensures.ok
