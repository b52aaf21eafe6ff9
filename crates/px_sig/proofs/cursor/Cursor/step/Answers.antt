use Rattle.std.proofs.Common.{◌-◌, ◌∙◌, refl, ap, arith}
use Rattle.std.proofs.lemmas.Result.{err_from_is_err_and}
use Rattle.px_reading.specs.Reading.{◌>>=◌}
use Rattle.px_sig.specs.Grammar.{form_at, shape_at, type_at, type_behind}
use Rattle.px_sig.specs.Parts.{behind_all, behind_both}
use Rattle.px_sig.specs.declared.form.Owes.{Owes}
use Rattle.px_sig.proofs.Pile.{no_form, no_type, nothing, passed_on, shape_alone, stepped}
use Rattle.px_sig.proofs.cursor.Cursor.step.Goals as goal

pub returns-in_err-form-clause-goes : goal.returns-in_err-form-clause-goes
returns-in_err-form-clause-goes c =
    let blob = c.args.self.now.blob.now in
    let at = c.args.self.now.at in
    let owes = c.args.owes in
    let old = c.args.owed.now.items in
    let left : Owes = record { types = owes.types - 1; shape = owes.shape } in
    let p = err_from_is_err_and c.from_residual-in_err-form.result c.from_residual-in_err-form.ensures.1 in
    rw (p.1, p.2) (passed_on c.in_err-form.field-0.0 (form_at blob at) (behind_both blob owes old at) c.in_err-form.ensures.reads (λ place is. no_form blob owes left old at place (omega arith) refl is))

pub returns-in_err-inner-clause-goes : goal.returns-in_err-inner-clause-goes
returns-in_err-inner-clause-goes c =
    let blob = c.args.self.now.blob.now in
    let at = c.args.self.now.at in
    let owes = c.args.owes in
    let old = c.args.owed.now.items in
    let left : Owes = record { types = owes.types - 1; shape = owes.shape } in
    let p = err_from_is_err_and c.from_residual-in_err-inner.result c.from_residual-in_err-inner.ensures.1 in
    rw (p.1, p.2)
    (passed_on c.in_err-inner.field-0.0 (type_behind (type_at blob) blob c.in_ok-form.form c.form.new.self.at) (behind_both blob owes old at) (rw c.form.ensures.blob at c.in_err-inner.ensures.leads)
    (λ place is. no_type blob owes left old at place _ (omega arith) refl c.in_ok-form.ensures.reads is))

pub returns-in_err-shape-clause-goes : goal.returns-in_err-shape-clause-goes
returns-in_err-shape-clause-goes c =
    let blob = c.args.self.now.blob.now in
    let at = c.args.self.now.at in
    let owes = c.args.owes in
    let old = c.args.owed.now.items in
    let p = err_from_is_err_and c.from_residual-in_err-shape.result c.from_residual-in_err-shape.ensures.1 in
    rw (p.1, p.2)
    (passed_on c.in_err-shape.field-0.0 (shape_at blob at) (behind_both blob owes old at) c.in_err-shape.ensures.passes
    (λ place is. ap (λ r. r >>= behind_all blob old) (shape_alone blob owes at (omega arith) c.if-owes.true ∙ is)))

pub returns-in_ok-owe-2-clause-goes : goal.returns-in_ok-owe-2-clause-goes
returns-in_ok-owe-2-clause-goes c =
    let blob = c.args.self.now.blob.now in
    let owes = c.args.owes in
    let left : Owes = record { types = owes.types - 1; shape = owes.shape } in
    stepped blob owes left c.in_ok-inner.inner c.args.owed.now.items c.owe.new.owed.items c.owe-then-owes-gt0.new.owed.items c.args.self.now.at c.owes.new.self.at _ (omega arith) refl
    c.in_ok-form.ensures.reads (rw c.form.ensures.blob at c.in_ok-inner.ensures.leads) (c.in_ok-owe.ensures.all blob) (c.in_ok-owe-2.ensures.all blob c.owes.new.self.at)

pub returns-in_ok-shape-clause-goes : goal.returns-in_ok-shape-clause-goes
returns-in_ok-shape-clause-goes c =
    let blob = c.args.self.now.blob.now in
    ap (λ r. r >>= behind_all blob c.args.owed.now.items) (shape_alone blob c.args.owes c.args.self.now.at (omega arith) c.if-owes.true ∙ c.in_ok-shape.ensures.passes)

pub returns-else-owes-clause-goes : goal.returns-else-owes-clause-goes
returns-else-owes-clause-goes c =
    let blob = c.args.self.now.blob.now in
    ap (λ r. r >>= behind_all blob c.args.owed.now.items) (nothing blob c.args.owes c.args.self.now.at (omega arith) c.if-owes.false)
