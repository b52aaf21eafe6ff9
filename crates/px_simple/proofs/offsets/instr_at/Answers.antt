use Rattle.std.proofs.Common.{sym, rules}
use Rattle.std.specs.Option.{option_copied}
use Rattle.std.proofs.lemmas.List.Sorted.{answers_always}
use Rattle.px_simple.proofs.Search.{offset_found, offset_missing}
use Rattle.px_simple.proofs.offsets.instr_at.Goals as goal

pub returns-in-Ok : goal.returns-in-Ok
returns-in-Ok c =
    let search_of = c.in-Ok.ensures in
    offset_found c.args.method.now.code c.args.at c.in-Ok.index (option_copied c.get.result) c.requires
    (rw c.as_slice-code.ensures at search_of.bound)
    (rw c.as_slice-code.ensures at search_of.position (λ i. i.offset) (answers_always _ _ _ (λ f a r g called. search rules)))
    c.get.ensures.value

pub returns-in-Err : goal.returns-in-Err
returns-in-Err c =
    sym (offset_missing c.args.method.now.code c.args.at c.in-Err.field-0 c.requires
    (rw c.as_slice-code.ensures at c.in-Err.ensures.position (λ i. i.offset) (answers_always _ _ _ (λ f a r g called. search rules))))
