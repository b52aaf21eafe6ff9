use Rattle.std.proofs.Common.{[], ◌∷◌, ◌++◌, ap, sym, subst, ◌∙◌}
use Rattle.px_program.specs.Lines.{HasEnd, base_of}
use Rattle.px_program.proofs.Programs.{alone_of, formed_where_alone}
use Rattle.px_program.proofs.Types.{AreTypes-types_with}
use Rattle.px_program.proofs.single.alone.Goals as goal

pub new-requires : goal.new-requires
new-requires c = record {
  ends = λ type. subst (λ types. HasEnd (base_of types) type) (sym c.in_ok-types_with.ensures) ((AreTypes-types_with c.args.elements.now c.requires.integers).bases type);
}

pub returns-clause-well_formed : goal.returns-clause-well_formed
returns-clause-well_formed c =
    formed_where_alone c.args.elements.now c.args.method _ c.requires.integers c.requires.begins c.requires.formed
    (alone_of c.args.elements.now c.args.method c.in_ok-types.types c.push.new.self c.empty.result (c.in_ok-types.ensures ∙ c.in_ok-types_with.ensures) (c.in_ok-push.ensures ∙ ap (λ methods. methods ++ c.args.method ∷ []) c.new-methods.ensures) c.empty.ensures)
