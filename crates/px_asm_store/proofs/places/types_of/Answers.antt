use Rattle.std.proofs.Common.{[], ◌∷◌, get_or, refl, sym, ap, ◌∙◌}
use Rattle.std.specs.Prelude.{true}
use Rattle.std.specs.List.{list_all}
use Rattle.std.proofs.lemmas.Bool.{and_from}
use Rattle.std.proofs.lemmas.List.Folds.{list_all-append}
use Rattle.std.proofs.lemmas.Option.{get_or_from_slice_get, slice_get-get_or}
use Rattle.px_asm_heaps.specs.Spelling.{is_spelled}
use Rattle.px_link_methods.proofs.Pieces.{zipped_more}
use Rattle.px_program.specs.declared.program.Place.TheVariants as places
use Rattle.px_asm_described.specs.Describes.{IsTypeOf}
use Rattle.px_asm_store.proofs.places.types_of.Goals as goal

pub loop-place-preserved : goal.loop-place-preserved
loop-place-preserved c =
    let xs = c.args.places.now in
    let n = c.loop-place.place-index in
    let place = get_or xs n places.Bool in
    let types = c.loop-place.types in
    let type = c.type_of.result in
    let at = slice_get-get_or xs n places.Bool c.loop-place-test.true in
    record {
      are = zipped_more (IsTypeOf c.args.rows.now) xs n place types c.push.new.self type c.loop-place.invariant.are c.loop-place-test.true (sym (get_or_from_slice_get xs n place place at)) c.type_of.ensures.is c.in_ok-push.ensures.ok;
      spelled =
          ap (list_all is_spelled) c.in_ok-push.ensures.ok ∙ list_all-append is_spelled types (type ∷ [])
          ∙ and_from (list_all is_spelled types) (list_all is_spelled (type ∷ [])) c.loop-place.invariant.spelled (and_from (is_spelled type) true c.type_of.ensures.spelled refl);
    }
