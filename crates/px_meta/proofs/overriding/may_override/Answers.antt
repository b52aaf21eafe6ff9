use Rattle.std.proofs.Common.{sym, ◌∙◌}
use Rattle.std.proofs.lemmas.Bool.{false≢true}
use Rattle.px_meta.specs.Members.{IsMethod}
use Rattle.px_meta.specs.Overriding.{Derives, MayOverride}
use Rattle.px_meta.specs.Rows.{methods}
use Rattle.px_meta.proofs.Alike.{derives_from, item_of, match_from, may_from, owner_row}
use Rattle.px_meta.proofs.Saying.{may_by}
use Rattle.px_meta.proofs.overriding.may_override.Goals as goal

pub returns-then-own-eq0 : goal.returns-then-own-eq0
returns-then-own-eq0 c =
    let own = item_of IsMethod c.args.tables.now methods c.args.method c.args.members.now c.index-members-method.result c.requires.members c.requires.method c.index-members-method.is in
    λ may. may.owned (sym own.owner ∙ c.if-own-eq0.true)

pub returns-then-not-matches : goal.returns-then-not-matches
returns-then-not-matches c =
    let v = c.args.tables.now in
    let own = item_of IsMethod v methods c.args.method c.args.members.now c.index-members-method.result c.requires.members c.requires.method c.index-members-method.is in
    let other = item_of IsMethod v methods c.args.other c.args.members.now c.index-members-other.result c.requires.members c.requires.other c.index-members-other.is in
    λ may. false≢true (sym c.if-not-matches.true ∙ c.matches.ensures.1 (match_from v c.args.method c.args.other _ _ own other may))

pub derives-requires-clause-row : goal.derives-requires-clause-row
derives-requires-clause-row c =
    let v = c.args.tables.now in
    let own = item_of IsMethod v methods c.args.method c.args.members.now c.index-members-method.result c.requires.members c.requires.method c.index-members-method.is in
    owner_row v methods c.args.method _ (sym own.owner) c.if-own-eq0.false

pub derives-requires-clause-end : goal.derives-requires-clause-end
derives-requires-clause-end c =
    let v = c.args.tables.now in
    let own = item_of IsMethod v methods c.args.method c.args.members.now c.index-members-method.result c.requires.members c.requires.method c.index-members-method.is in
    c.requires.ends c.index-members-method.result.owner (owner_row v methods c.args.method _ (sym own.owner) c.if-own-eq0.false)

pub returns : goal.returns
returns c =
    let v = c.args.tables.now in
    let own = item_of IsMethod v methods c.args.method c.args.members.now c.index-members-method.result c.requires.members c.requires.method c.index-members-method.is in
    let other = item_of IsMethod v methods c.args.other c.args.members.now c.index-members-other.result c.requires.members c.requires.other c.index-members-other.is in
    may_by c.derives.result (Derives v c.index-members-method.result.owner c.index-members-other.result.owner) (MayOverride v c.args.method c.args.other)
    (λ d. may_from v c.args.method c.args.other _ _ c.requires.method c.requires.other own other c.if-own-eq0.false (c.matches.ensures.0 c.if-not-matches.false) d)
    (λ may. derives_from v c.args.method c.args.other _ _ own other may) c.derives.ensures
