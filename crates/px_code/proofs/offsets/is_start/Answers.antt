use Rattle.std.proofs.Common.{◌∙◌, rules}
use Rattle.std.proofs.lemmas.List.Sorted.{answers_always}
use Rattle.px_code.proofs.Starts.{found}
use Rattle.px_code.proofs.offsets.is_start.Goals as goal

pub returns : goal.returns
returns c =
    let search_of = c.binary_search_by_key in
    c.is_ok.ensures.value
    ∙ found c.args.instrs.now c.args.at search_of.result c.requires search_of.ensures.bound
    (search_of.ensures.position (λ i. i.offset) (answers_always _ _ _ (λ f a r g called. search rules)))
