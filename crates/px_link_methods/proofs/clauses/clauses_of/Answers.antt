use Rattle.std.proofs.Common.{◌≡◌, true}
use Rattle.px_link_types.specs.Numbers.{is_numbered}
use Rattle.px_link_methods.specs.Methods.{keys_of_clause}
use Rattle.px_link_methods.proofs.Pieces.{each_piece}
use Rattle.px_link_methods.proofs.clauses.clauses_of.Goals as goal

pub class_number-requires : goal.class_number-requires
class_number-requires c =
    each_piece (λ key. is_numbered c.args.types.now.keys key ≡ true) (keys_of_clause c.args.meta.now) c.args.raws.now c.loop-raw.raw-index _ c.requires c.loop-raw-test.true
