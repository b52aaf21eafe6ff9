use Rattle.std.proofs.Common.{ℕ, sym, subst}
use Rattle.std.specs.Prelude.{MatchOption}
use Rattle.px_meta.specs.Impls.{IsDeclared}
use Rattle.px_meta.specs.Overriding.{Overrides}
use Rattle.px_meta.specs.Rows.{IsRow, methods}
use Rattle.px_meta.proofs.Alike.{item_of}
use Rattle.px_meta.proofs.Overridden.{by_name, by_said, overridden_row, overrides_may}
use Rattle.px_meta.proofs.metadata.Meta.overridden_row.Goals as goal

pub returns-in-Some : goal.returns-in-Some
returns-in-Some c =
    let v = c.self.inside.tables in
    let row = c.args.row in
    let is = subst (λ v. IsRow v methods row) (sym c.self.view_is) c.requires in
    let said = item_of IsDeclared v methods row c.self.inside.declared.items c.index.result.now c.self.invariant.declared is c.index.ensures in
    let over = subst (λ v. Overrides v row c.in-Some.other) c.self.view_is (by_said v row c.in-Some.other c.index.result.now said c.in-Some.is) in
    record { overridden = over; there = (overrides_may c.args.self.now row c.in-Some.other over).other_row }

pub returns : goal.returns
returns c =
    let v = c.self.inside.tables in
    let row = c.args.row in
    let is = subst (λ v. IsRow v methods row) (sym c.self.view_is) c.requires in
    let said = item_of IsDeclared v methods row c.self.inside.declared.items c.index.result.now c.self.invariant.declared is c.index.ensures in
    let over = subst (λ v. MatchOption c.by_name.result ((o : ℕ) → Overrides v row o → ⊥) (Overrides v row)) c.self.view_is
    (by_name v row c.index.result.now c.by_name.result said c.in_default.is c.by_name.ensures) in
    record { overridden = over; there = overridden_row c.args.self.now row c.by_name.result over }
