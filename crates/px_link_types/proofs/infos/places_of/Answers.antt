use Rattle.std.proofs.Common.{◌≡◌, true, get_or, sym, ap, subst, ◌∙◌}
use Rattle.px_link_types.specs.Numbers.{field_key, is_numbered}
use Rattle.px_link_types.proofs.Places.{numbered_at}
use Rattle.px_link_types.proofs.infos.places_of.Goals as goal

pub place-requires : goal.place-requires
place-requires c =
    let types = c.args.types.now in
    let rows = c.args.rows.now in
    let row = get_or rows c.loop-row.row-index 0 in
    subst (λ key. is_numbered types.keys key ≡ true) (sym (c.field_key.ensures.key ∙ ap (λ v. field_key v row) c.meta.ensures))
    (numbered_at types.tables types.keys rows c.loop-row.row-index c.requires.numbered c.loop-row-test.true)
