use Rattle.std.proofs.Common.{◌+◌, ◌<◌, ◌≤◌, sym, ◌∙◌, ap, subst, arith}
use Rattle.std.specs.Prelude.{IfErr, IfOk}
use Rattle.px_meta.specs.Members.{IsMethod}
use Rattle.px_meta.specs.Rows.{count_of, methods}
use Rattle.px_link.specs.Link.{Blames}
use Rattle.px_link.specs.Names.{IsOnly}
use Rattle.px_link.proofs.Finding.{fault_told, found_told, is_item, one_told, other_told, owned_by_row, two_told}
use Rattle.px_link.proofs.entry.find_method.Goals as goal
use Rattle.px_link.proofs.entry.find_method.Goals.{After-index-methods-at, then-is_named+else-is_some, else-is_named}

few : (c : After-index-methods-at) → c.loop-at.at < count_of c.args.meta.now methods
few c = omega (arith, ap (λ v. count_of v methods) c.tables.ensures.same, c.rows-at-end.ensures.rows, c.loop-at-test.true)

there : (c : After-index-methods-at) → IsMethod c.args.meta.now (c.loop-at.at + 1) c.index-methods-at.result
there c =
    is_item IsMethod c.args.meta.now methods c.methods-methods.result.now c.loop-at.at c.index-methods-at.result c.methods-methods.ensures
    (omega (arith, c.methods-methods.ensures.count, few c)) c.index-methods-at.is

pub is_named-requires : goal.is_named-requires
is_named-requires c = owned_by_row c.args.meta.now (c.loop-at.at + 1) c.index-methods-at.result (there (goal.at.is_named-requires c).After-index-methods-at)

pub returns-then-is_some-clause-fault : goal.returns-then-is_some-clause-fault
returns-then-is_some-clause-fault c =
    let before = (goal.at.returns-then-is_some-clause-fault c).After-index-methods-at in
    λ image. two_told c.args.meta.now c.args.name.now c.loop-at.at c.loop-at.found c.index-methods-at.result c.is_named.result (sym c.is_some.ensures ∙ c.if-is_some.true) c.loop-at.invariant c.if-is_named.true c.is_named.ensures (few before)
    (there before)

pub loop-at-preserved : goal.loop-at-preserved
loop-at-preserved c =
    let v = c.args.meta.now in
    let n = c.loop-at.at in
    let m = c.index-methods-at.result in
    let before = (goal.at.loop-at-preserved c).After-index-methods-at in
    elim c.if-is_named.branch [
      | then-is_named+else-is_some w ↦
          one_told v c.args.name.now n c.loop-at.found c.if-is_named.found m c.is_named.result w.found-is (sym w.is_some.ensures ∙ w.if-is_some.false) c.loop-at.invariant w.if-is_named.true c.is_named.ensures (few before) (there before)
      | else-is_named w ↦
          other_told v c.args.name.now n c.loop-at.found c.if-is_named.found m c.is_named.result w.found-is c.loop-at.invariant w.if-is_named.false c.is_named.ensures (few before) (there before)
    ]

pub returns-clause-found : goal.returns-clause-found
returns-clause-found c =
    let v = c.args.meta.now in
    let all : count_of v methods ≤ c.loop-at.at = omega (arith, ap (λ v. count_of v methods) c.tables.ensures.same, c.rows-at-end.ensures.rows, c.loop-at-test.false) in
    subst (λ r. IfOk r (IsOnly v c.args.name.now)) (sym c.ok_or.ensures.value) (found_told v c.args.name.now c.loop-at.at c.loop-at.found c.loop-at.invariant all)

pub returns-clause-fault : goal.returns-clause-fault
returns-clause-fault c =
    let v = c.args.meta.now in
    let all : count_of v methods ≤ c.loop-at.at = omega (arith, ap (λ v. count_of v methods) c.tables.ensures.same, c.rows-at-end.ensures.rows, c.loop-at-test.false) in
    λ image. subst (λ r. IfErr r (Blames v image c.args.name.now)) (sym c.ok_or.ensures.value) (fault_told v image c.args.name.now c.loop-at.at c.loop-at.found c.loop-at.invariant all)
