use Rattle.std.proofs.Common.{◌≡◌, sym, ap, ◌∙◌, subst}
use Rattle.px_program.specs.Arguments.{AreGiven, arguments_of}
use Rattle.px_link.specs.Raw.{elements_of, params_of}
use Rattle.px_link.proofs.Elements.{params_fit, params_given}
use Rattle.px_link.proofs.raw.link_raw.Goals as goal

pub program_with-requires-clause-params : goal.program_with-requires-clause-params
program_with-requires-clause-params c =
    let ps = c.args.params.now in
    let arrays = c.args.elements.now in
    let given : c.deref.result.now ≡ elements_of ps arrays = c.deref.ensures.value ∙ c.in_ok-places.ensures in
    params_fit c.deref-2.result.now c.deref-3.result.now ps arrays c.requires.integers (c.deref-2.ensures.value ∙ c.in_ok-places.ensures)
    (c.deref-3.ensures.value ∙ c.in_ok-params.ensures ∙ ap (λ es. params_of es ps arrays) given)

pub returns-clause-arguments : goal.returns-clause-arguments
returns-clause-arguments c =
    let ps = c.args.params.now in
    let arrays = c.args.elements.now in
    let given : c.deref.result.now ≡ elements_of ps arrays = c.deref.ensures.value ∙ c.in_ok-places.ensures in
    subst (λ program. AreGiven program.types (arguments_of program)) (sym c.in_ok-program_with.ensures.program)
    (params_given c.deref-2.result.now c.deref-3.result.now ps arrays c.requires.integers c.requires.count (c.deref-2.ensures.value ∙ c.in_ok-places.ensures)
    (c.deref-3.ensures.value ∙ c.in_ok-params.ensures ∙ ap (λ es. params_of es ps arrays) given))
