use Rattle.std.proofs.Common.{[], ◌++◌, ◌∷◌, map, sym, ap, ◌∙◌, append_assoc, arith}
use Rattle.std.specs.List.{range_with_len}
use Rattle.std.proofs.lemmas.List.FromFn.{map-range_with_len_more}
use Rattle.px_program.specs.declared.program.Place.TheVariants as places
use Rattle.px_asm_law_written.specs.Holds.{integer_places}
use Rattle.px_asm_rows.proofs.spelled.places_of.Goals as goal

pub loop-number-preserved : goal.loop-number-preserved
loop-number-preserved c =
    let n = c.loop-number.number in
    c.in_ok-push.ensures.items ∙ ap (λ l. l ++ places.Ref n ∷ []) c.loop-number.invariant ∙ append_assoc integer_places (map places.Ref (range_with_len 0 n)) (places.Ref n ∷ []) ∙ ap (λ l. integer_places ++ l) (sym (map-range_with_len_more places.Ref 0 n n (omega arith)))
