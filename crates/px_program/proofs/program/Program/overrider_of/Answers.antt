use Rattle.std.proofs.Common.{◌≡◌, Some, rules}
use Rattle.std.specs.Prelude.{slice_get}
use Rattle.std.proofs.lemmas.List.Sorted.{answers_always}
use Rattle.px_program.specs.Overriding.{AreByFirst}
use Rattle.px_program.proofs.Overriders.{overrider_found, overrider_missing}
use Rattle.px_program.proofs.Types.{each_at}
use Rattle.px_program.proofs.program.Program.overrider_of.Goals as goal

pub returns-in-Ok : goal.returns-in-Ok
returns-in-Ok c =
    let info = c.in_ok-get.field-0.now in
    let at : slice_get c.args.self.now.types c.args.type_number ≡ Some info = search rules in
    let by : AreByFirst info.overrides = each_at (λ type. AreByFirst type.overrides) c.args.self.now.types c.requires.by_first c.args.type_number info at in
    rw at
    (rw c.as_slice-overrides.ensures
    (overrider_found info.overrides c.args.method c.in-Ok.index by
    (rw c.as_slice-overrides.ensures at c.in-Ok.ensures.bound)
    (rw c.as_slice-overrides.ensures at c.in-Ok.ensures.position (λ pair. pair.0) (answers_always _ _ _ (λ f a r g called. search rules)))))

pub returns-in-Err : goal.returns-in-Err
returns-in-Err c =
    let info = c.in_ok-get.field-0.now in
    let at : slice_get c.args.self.now.types c.args.type_number ≡ Some info = search rules in
    let by : AreByFirst info.overrides = each_at (λ type. AreByFirst type.overrides) c.args.self.now.types c.requires.by_first c.args.type_number info at in
    rw at
    (overrider_missing info.overrides c.args.method c.in-Err.field-0 by
    (rw c.as_slice-overrides.ensures at c.in-Err.ensures.position (λ pair. pair.0) (answers_always _ _ _ (λ f a r g called. search rules))))
