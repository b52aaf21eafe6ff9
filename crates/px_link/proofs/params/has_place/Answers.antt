use Rattle.std.proofs.Common.{◌≡◌, ◌==◌, sym, ◌∙◌, rules, tests}
use Rattle.std.specs.List.{list_any}
use Rattle.std.proofs.lemmas.Iterator.{YieldsList-from_slice}
use Rattle.std.proofs.lemmas.Iterator.Search.{any_from_yields_List}
use Rattle.px_link.specs.Raw.{number_of}
use Rattle.px_link.proofs.Elements.{has_place_any}
use Rattle.px_link.proofs.params.has_place.Goals as goal

pub returns : goal.returns
returns c =
    let xs = c.args.places.now in
    let any : c.any.result ≡ list_any (λ other. number_of other == number_of c.args.place) xs =
    any_from_yields_List (λ other. number_of other == number_of c.args.place) _ _ c.any.result c.any.ensures.ran (YieldsList-from_slice xs (cc)) (λ x b q k. search (rules, tests)) in
    any ∙ sym (has_place_any xs c.args.place)
