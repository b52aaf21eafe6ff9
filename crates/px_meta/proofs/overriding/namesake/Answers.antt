use Rattle.std.proofs.Common.{◌≡◌, sym, ◌∙◌, subst, ⊎_elim, arith}
use Rattle.std.proofs.lemmas.Bool.{cases_lt, false≢true}
use Rattle.px_meta.specs.Members.{IsMethod}
use Rattle.px_meta.specs.Overriding.{IsNamesake}
use Rattle.px_meta.specs.Rows.{IsRow, methods}
use Rattle.px_meta.proofs.Alike.{alike_from, item_of, listed_in, namesake_from}
use Rattle.px_meta.proofs.overriding.namesake.Goals as goal

pub loop-row-init : goal.loop-row-init
loop-row-init c =
    let v = c.args.tables.now in
    record {
      none = λ o less n.
          let listed = listed_in v c.args.method c.args.base o c.requires.base n in
          omega (arith, listed.0, n.may.other_row.some, c.list_start.ensures);
      own = item_of IsMethod v methods c.args.method c.args.members.now c.index-members-method.result c.requires.members c.requires.method c.index-members-method.is;
    }

pub returns-then-is_alike : goal.returns-then-is_alike
returns-then-is_alike c =
    let v = c.args.tables.now in
    let row = c.loop-row.row in
    let is_row : IsRow v methods row = record { some = omega arith; few = omega arith } in
    let other = item_of IsMethod v methods row c.args.members.now c.index-members-row.result c.requires.members is_row c.index-members-row.is in
    record {
      namesake = namesake_from v c.args.method c.args.base row c.index-members-method.result c.index-members-row.result c.requires.method is_row c.loop-row.invariant.own other c.requires.owned c.requires.derives (c.is_alike.ensures.0 c.if-is_alike.true);
      first = c.loop-row.invariant.none;
    }

pub loop-row-preserved : goal.loop-row-preserved
loop-row-preserved c =
    let v = c.args.tables.now in
    let row = c.loop-row.row in
    let is_row : IsRow v methods row = record { some = omega arith; few = omega arith } in
    let other = item_of IsMethod v methods row c.args.members.now c.index-members-row.result c.requires.members is_row c.index-members-row.is in
    record {
      none = λ o less n. ⊎_elim
          (λ below. c.loop-row.invariant.none o below n)
          (λ above.
          let same : o ≡ row = omega arith in
          let alike = alike_from v c.args.method c.args.base row c.index-members-method.result c.index-members-row.result c.loop-row.invariant.own other (subst (λ k. IsNamesake v c.args.method c.args.base k) same n) in
          false≢true (sym c.if-is_alike.false ∙ c.is_alike.ensures.1 alike))
          (cases_lt o row);
      own = c.loop-row.invariant.own;
    }

pub returns : goal.returns
returns c =
    let v = c.args.tables.now in
    λ o n. ⊎_elim
    (λ below. c.loop-row.invariant.none o below n)
    (λ above.
    let listed = listed_in v c.args.method c.args.base o c.requires.base n in
    omega (arith, listed.1, n.may.other_row.few, c.list_end.ensures, c.rows.ensures.rows))
    (cases_lt o c.loop-row.row)
