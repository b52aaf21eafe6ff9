use Rattle.std.proofs.Common.{◌≡◌, sym, ap, ◌∙◌, true, false}
use Rattle.std.proofs.lemmas.Bool.{eq-eqb, false≢true, ne_eqb}
use Rattle.px_tables.specs.Counts.{has_bit}
use Rattle.px_meta.specs.Members.{IsMethod}
use Rattle.px_meta.specs.Rows.{methods}
use Rattle.px_meta.proofs.Alike.{item_of, owner_row}
use Rattle.px_meta.proofs.Nearest.{nearest_owned, nearest_virtual}
use Rattle.px_meta.proofs.Saying.{named_or_none}
use Rattle.px_meta.proofs.overriding.by_name.Goals as goal

pub returns-then-own-ne1 : goal.returns-then-own-ne1
returns-then-own-ne1 c =
    let own = item_of IsMethod c.args.tables.now methods c.args.method c.args.members.now c.index-members-method.result c.requires.members c.requires.method c.index-members-method.is in
    let unset : has_bit c.index-members-method.result.flags 6 ≡ false = ne_eqb _ _ c.if-own-ne1.true in
    λ other old n. false≢true (sym unset ∙ ap (λ f. has_bit f 6) own.flags ∙ nearest_virtual c.args.tables.now c.args.method _ other n)

pub returns-then-own-eq1 : goal.returns-then-own-eq1
returns-then-own-eq1 c =
    let own = item_of IsMethod c.args.tables.now methods c.args.method c.args.members.now c.index-members-method.result c.requires.members c.requires.method c.index-members-method.is in
    let set : has_bit c.index-members-method.result.flags 8 ≡ true = eq-eqb _ _ c.if-own-eq1.true in
    λ other old n. false≢true (sym old ∙ ap (λ f. has_bit f 8) (sym own.flags) ∙ set)

pub returns-then-own-eq0 : goal.returns-then-own-eq0
returns-then-own-eq0 c =
    let own = item_of IsMethod c.args.tables.now methods c.args.method c.args.members.now c.index-members-method.result c.requires.members c.requires.method c.index-members-method.is in
    λ other old n. nearest_owned c.args.tables.now c.args.method _ other n (sym own.owner ∙ c.if-own-eq0.true)

pub nearest-requires-clause-row : goal.nearest-requires-clause-row
nearest-requires-clause-row c =
    let own = item_of IsMethod c.args.tables.now methods c.args.method c.args.members.now c.index-members-method.result c.requires.members c.requires.method c.index-members-method.is in
    owner_row c.args.tables.now methods c.args.method _ (sym own.owner) c.if-own-eq0.false

pub nearest-requires-clause-owner : goal.nearest-requires-clause-owner
nearest-requires-clause-owner c =
    let own = item_of IsMethod c.args.tables.now methods c.args.method c.args.members.now c.index-members-method.result c.requires.members c.requires.method c.index-members-method.is in
    own.owner

pub nearest-requires-clause-end : goal.nearest-requires-clause-end
nearest-requires-clause-end c =
    let own = item_of IsMethod c.args.tables.now methods c.args.method c.args.members.now c.index-members-method.result c.requires.members c.requires.method c.index-members-method.is in
    c.requires.ends c.index-members-method.result.owner (owner_row c.args.tables.now methods c.args.method _ (sym own.owner) c.if-own-eq0.false)

pub returns : goal.returns
returns c =
    let own = item_of IsMethod c.args.tables.now methods c.args.method c.args.members.now c.index-members-method.result c.requires.members c.requires.method c.index-members-method.is in
    let unset : has_bit c.index-members-method.result.flags 8 ≡ false = ne_eqb _ _ c.if-own-eq1.false in
    named_or_none c.args.tables.now c.args.method c.index-members-method.result.owner c.nearest.result own.owner (ap (λ f. has_bit f 8) (sym own.flags) ∙ unset) c.nearest.ensures
