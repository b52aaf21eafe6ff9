use Rattle.std.proofs.Common.{◌≡◌, ◌⊎◌, true, false, None, sym, ap, ◌∙◌, inl, inr}
use Rattle.std.specs.Prelude.{not}
use Rattle.std.specs.Option.{is_some}
use Rattle.px_sig.specs.declared.sig.MethodSig.{MethodSig}
use Rattle.px_link.specs.Link.{Blames, IsFound, first_unfit}
use Rattle.px_link.proofs.Entries.{bad_parameter, entry, found, no_body, no_maker, owner_row, passed_on}
use Rattle.px_link.proofs.entry.find_entry.Goals as goal
use Rattle.px_link.proofs.entry.find_entry.Goals.{After-first_unfit, After-maker_of-maker, then-method-eq0-via-then-method-eq0, then-method-eq0-via-else-method-eq0+then-not-sig, else-sig-via-then-sig+else-is_none, else-sig-via-else-sig}

found_at : (c : After-first_unfit) → IsFound c.args.meta.now c.args.name.now c.in_ok-row.row c.method_at-method.result.now.sig
found_at c = found c.args.meta.now c.args.name.now c.in_ok-row.row c.method_at-method.result.now c.in_ok-row.ensures.found c.method_at-method.ensures c.if-method-eq0.false (ap (λ (s : MethodSig). s.plain) (sym c.get-sig.ensures) ∙ c.if-not-sig.false)

fit : (c : After-maker_of-maker) → first_unfit c.method_at-method.result.now.sig.params ≡ None
fit c = sym (c.in_default.ensures ∙ ap first_unfit (c.as_slice.ensures ∙ ap (λ (s : MethodSig). s.params) c.get-sig.ensures))

pub returns-in_err-row-clause-fault : goal.returns-in_err-row-clause-fault
returns-in_err-row-clause-fault c =
    let gives = c.from_residual.ensures in
    let told = c.in_err-row.ensures in
    λ image. passed_on (Blames c.args.meta.now image c.args.name.now) c.from_residual.result c.in_err-row.field-0.0 gives.1 (told.fault image)

pub returns-then-method-eq0-clause-fault : goal.returns-then-method-eq0-clause-fault
returns-then-method-eq0-clause-fault c =
    let m = c.method_at-method.result.now in
    let why : (m.rva ≡ 0) ⊎ (m.sig.plain ≡ false) = elim c.then-method-eq0.branch [
      | then-method-eq0-via-then-method-eq0 w ↦ inl w.if-method-eq0.true
      | then-method-eq0-via-else-method-eq0+then-not-sig w ↦ inr (ap (λ (s : MethodSig). s.plain) (sym c.get-sig.ensures) ∙ w.if-not-sig.true)
    ] in
    λ image. no_body c.args.meta.now c.args.name.now c.in_ok-row.row m c.in_ok-row.ensures.found c.method_at-method.ensures why

pub returns-in-Some-clause-fault : goal.returns-in-Some-clause-fault
returns-in-Some-clause-fault c =
    λ image. bad_parameter c.args.meta.now c.args.name.now c.in_ok-row.row c.method_at-method.result.now c.in-Some.number (found_at (goal.at.returns-in-Some-clause-fault c).After-first_unfit) (sym (c.in-Some.ensures ∙ ap first_unfit (c.as_slice.ensures ∙ ap (λ (s : MethodSig). s.params) c.get-sig.ensures)))

pub maker_of-maker-requires : goal.maker_of-maker-requires
maker_of-maker-requires c = owner_row c.args.meta.now c.args.name.now c.in_ok-row.row c.method_at-method.result.now c.in_ok-row.ensures.found c.method_at-method.ensures

pub returns-then-is_none-clause-fault : goal.returns-then-is_none-clause-fault
returns-then-is_none-clause-fault c =
    λ image. no_maker c.args.meta.now c.args.name.now c.in_ok-row.row c.method_at-method.result.now c.maker_of-maker.result c.method_at-method.ensures (found_at (goal.at.returns-then-is_none-clause-fault c).After-first_unfit)
    (fit (goal.at.returns-then-is_none-clause-fault c).After-maker_of-maker) c.maker_of-maker.ensures (ap (λ (s : MethodSig). s.has_this) (sym c.get-sig.ensures) ∙ c.if-sig.true) (c.is_none.ensures ∙ ap not c.if-is_none.true)

pub returns-clause-entry : goal.returns-clause-entry
returns-clause-entry c =
    let has : (c.method_at-method.result.now.sig.has_this ≡ false) ⊎ (is_some c.maker_of-maker.result ≡ true) = elim c.else-sig.branch [
      | else-sig-via-then-sig+else-is_none w ↦ inr (w.is_none.ensures ∙ ap not w.if-is_none.false)
      | else-sig-via-else-sig w ↦ inl (ap (λ (s : MethodSig). s.has_this) (sym c.get-sig.ensures) ∙ w.if-sig.false)
    ] in
    entry c.args.meta.now c.args.name.now c.in_ok-row.row c.method_at-method.result.now c.maker_of-maker.result c.method_at-method.ensures (found_at (goal.at.returns-clause-entry c).After-first_unfit)
    (fit (goal.at.returns-clause-entry c).After-maker_of-maker) c.maker_of-maker.ensures has
