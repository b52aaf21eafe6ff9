use Rattle.std.proofs.Common.{◌≡◌, ◌⊎◌, ◌<◌, ◌^◌, Some, true, length, take, sym, ap, ◌∙◌, subst, arith}
use Rattle.std.specs.Prelude.{IfSome, slice_get}
use Rattle.std.specs.BTreeMap.{get}
use Rattle.std.specs.List.{AllZip, zip}
use Rattle.std.proofs.lemmas.List.{length_push}
use Rattle.std.proofs.lemmas.Option.{slice_get_within}
use Rattle.std.proofs.lemmas.Slice.Zip.{length-zip, zip_end, zip_turn}
use Rattle.px_meta.specs.Members.{owner_of}
use Rattle.px_meta.specs.Rows.{IsRow, methods}
use Rattle.px_program.proofs.Types.{each_at}
use Rattle.px_program.specs.declared.program.Method.{Method}
use Rattle.px_link_reach.specs.Met.{IsOwned}
use Rattle.px_link_types.specs.Keys.{alone}
use Rattle.px_link_types.specs.Making.{AreNumberedIn}
use Rattle.px_link_types.specs.Numbers.{is_numbered}
use Rattle.px_link_types.specs.declared.key.Leaf.TheVariants.{Defined}
use Rattle.px_link_methods.specs.Codes.{Numbering, owner_number}
use Rattle.px_link_methods.specs.Methods.{IsMethod, met_by}
use Rattle.px_link_methods.specs.Parts.{IsFirstLike, IsRenamed, by_likeness, likeness}
use Rattle.px_link_methods.proofs.Likeness.{AreMade, IsShared, few_made, one_more_made, one_more_shared, shared_owner, shares}
use Rattle.px_link_methods.proofs.Pieces.{IsPair, all_pairs, pair_at, pair_of, piece_of}
use Rattle.px_link_methods.proofs.methods.push_all.Goals as goal
use Rattle.px_link_methods.proofs.methods.push_all.Goals.{In-Some, In-Some-2}

abbrev numbering : (c : In-Some) → Numbering
numbering c = record { keys = c.args.types.now.keys; rows = c.args.rows.now.keys }

-- this turn's row and body
turn : (c : In-Some) → IsPair c.args.rows.now.keys c.args.bodies.now (length c.loop-row.yielded) c.in-Some.row.now c.in-Some.whole.now
turn c =
    let rows = c.args.rows.now.keys in
    let bodies = c.args.bodies.now in
    let t = zip_turn rows bodies c.loop-row.yielded c.into_iter-row-iterator.result c.loop-row.row-iterator c.next.new.self c.next.result (cc) (cc) c.loop-row.yielded_by (c.in-Some.row, c.in-Some.whole) c.in-Some.is c.next.ensures.steps in
    pair_of rows bodies (length c.loop-row.yielded) c.in-Some.row.now c.in-Some.whole.now t.0 t.1 (t.2 c.in-Some.row.now) (t.3 c.in-Some.whole.now)

is_owned : (c : In-Some) → IsOwned c.args.tokens.now c.in-Some.row.now
is_owned c =
    each_at (IsOwned c.args.tokens.now) c.args.rows.now.keys c.requires.owned (length c.loop-row.yielded) c.in-Some.row.now (pair_at c.args.rows.now.keys c.args.bodies.now (length c.loop-row.yielded) c.in-Some.row.now c.in-Some.whole.now (turn c)).0

are_numbered : (c : In-Some) → AreNumberedIn c.args.types.now.keys (met_by c.args.tokens.now (c.in-Some.row.now, c.in-Some.whole.now))
are_numbered c =
    let pair = turn c in
    piece_of (λ key. is_numbered c.args.types.now.keys key ≡ true) (met_by c.args.tokens.now) (zip c.args.rows.now.keys c.args.bodies.now) (length c.loop-row.yielded) (c.in-Some.row.now, c.in-Some.whole.now) c.requires.types pair.within pair.is

pub overflow_cast-next : goal.overflow_cast-next
overflow_cast-next c =
    let before = (goal.at.overflow_cast-next c).In-Some in
    let pairs = zip c.args.rows.now.keys c.args.bodies.now in
    let pair = turn before in
    let made = few_made c.args.tokens.now (numbering before) pairs (length c.loop-row.yielded) c.loop-row.table c.loop-row.firsts c.loop-row.invariant pair.within in
    let less : length c.loop-row.yielded < length pairs = pair.within in
    let size = length-zip c.args.rows.now.keys c.args.bodies.now in
    let few : length c.args.rows.now.keys < 2 ^ 32 = c.requires.few in
    omega arith

pub likeness_of-requires : goal.likeness_of-requires
likeness_of-requires c =
    subst (λ v. IsRow v methods c.in-Some.row.now) (sym c.meta-meta.ensures) (is_owned (goal.at.likeness_of-requires c).In-Some).row

pub push_like-requires-clause-owned : goal.push_like-requires-clause-owned
push_like-requires-clause-owned c =
    subst (λ v. IsOwned v c.in-Some.row.now) (sym c.meta-meta.ensures) (is_owned (goal.at.push_like-requires-clause-owned c).In-Some)

pub push_like-requires-clause-numbered : goal.push_like-requires-clause-numbered
push_like-requires-clause-numbered c =
    subst (λ v. is_numbered c.args.types.now.keys (alone (Defined (owner_of v methods c.in-Some.row.now))) ≡ true) (sym c.meta-meta.ensures) (are_numbered (goal.at.push_like-requires-clause-numbered c).In-Some).0

-- the method that is shared with
shared : (c : In-Some-2) → IsPair c.args.rows.now.keys c.args.bodies.now (length c.loop-row.yielded) c.in-Some.row.now c.in-Some.whole.now
    → IsShared c.args.tokens.now (record { keys = c.args.types.now.keys; rows = c.args.rows.now.keys }) c.loop-row.table c.in-Some.row.now c.in-Some.whole.now c.in-Some-2.first
shared c pair =
    let n : Numbering = record { keys = c.args.types.now.keys; rows = c.args.rows.now.keys } in
    let firsts = c.loop-row.firsts in
    let like = c.likeness_of.ensures ∙ ap (λ v. likeness v c.in-Some.row.now) c.meta-meta.ensures in
    let found = subst (λ o. IfSome o (λ number. get by_likeness firsts c.likeness_of.result ≡ Some number)) c.in-Some-2.is c.in_ok-first.ensures.found in
    shares c.args.tokens.now n c.args.bodies.now (length c.loop-row.yielded) c.in-Some.row.now c.in-Some.whole.now c.loop-row.table firsts c.in-Some-2.first c.requires.shared pair c.loop-row.invariant
    (subst (λ l. get by_likeness firsts l ≡ Some c.in-Some-2.first) like found)

pub push_like-requires-clause-there : goal.push_like-requires-clause-there
push_like-requires-clause-there c =
    let found = shared (goal.at.push_like-requires-clause-there c).In-Some-2 (turn (goal.at.push_like-requires-clause-there c).In-Some) in
    slice_get_within c.loop-row.table c.in-Some-2.first found.method found.there

pub push_like-requires-clause-owner : goal.push_like-requires-clause-owner
push_like-requires-clause-owner c =
    let before = (goal.at.push_like-requires-clause-owner c).In-Some in
    subst (λ v. (method : Method) → slice_get c.loop-row.table c.in-Some-2.first ≡ Some method → (method.is_static ≡ true) ⊎ (method.owner ≡ owner_number v c.args.types.now.keys (owner_of v methods c.in-Some.row.now))) (sym c.meta-meta.ensures)
    (shared_owner c.args.tokens.now (numbering before) c.loop-row.table c.in-Some.row.now c.in-Some.whole.now c.in-Some-2.first (shared (goal.at.push_like-requires-clause-owner c).In-Some-2 (turn before)))

pub loop-row-preserved-in_ok-push_like-in-Some-2 : goal.loop-row-preserved-in_ok-push_like-in-Some-2
loop-row-preserved-in_ok-push_like-in-Some-2 c =
    let before = (goal.at.loop-row-preserved-in_ok-push_like-in-Some-2 c).In-Some in
    let v = c.args.tokens.now in
    let n = numbering before in
    let row = c.in-Some.row.now in
    let first = c.in-Some-2.first in
    let pairs = zip c.args.rows.now.keys c.args.bodies.now in
    let like = c.likeness_of.ensures ∙ ap (λ u. likeness u row) c.meta-meta.ensures in
    let kept = subst (λ l. IsFirstLike c.loop-row.firsts c.first_like.new.firsts l c.len-next.result c.in_ok-first.field-0) like c.in_ok-first.ensures in
    let pushes = subst (λ u. (method : Method) → slice_get c.loop-row.table first ≡ Some method → IsRenamed u n.keys row method c.loop-row.table c.push_like.new.table) c.meta-meta.ensures c.in_ok-push_like-in-Some-2.ensures in
    subst (λ k. AreMade v n (take k pairs) c.push_like.new.table c.first_like.new.firsts) (sym (length_push c.loop-row.yielded (c.in-Some.row, c.in-Some.whole)))
    (one_more_shared v n c.args.bodies.now (length c.loop-row.yielded) row c.in-Some.whole.now c.loop-row.table c.push_like.new.table c.len-next.result first c.loop-row.firsts c.first_like.new.firsts c.in_ok-first.field-0 c.loop-row.invariant (turn before)
    c.len-next.ensures kept (shared (goal.at.loop-row-preserved-in_ok-push_like-in-Some-2 c).In-Some-2 (turn before)) pushes)

pub method_of-requires-clause-owned : goal.method_of-requires-clause-owned
method_of-requires-clause-owned c = is_owned (goal.at.method_of-requires-clause-owned c).In-Some

pub method_of-requires-clause-types : goal.method_of-requires-clause-types
method_of-requires-clause-types c =
    subst (λ whole. AreNumberedIn c.args.types.now.keys (met_by c.args.tokens.now (c.in-Some.row.now, whole))) (sym c.get.ensures) (are_numbered (goal.at.method_of-requires-clause-types c).In-Some)

pub loop-row-preserved : goal.loop-row-preserved
loop-row-preserved c =
    let before = (goal.at.loop-row-preserved c).In-Some in
    let v = c.args.tokens.now in
    let n = numbering before in
    let row = c.in-Some.row.now in
    let pairs = zip c.args.rows.now.keys c.args.bodies.now in
    let like = c.likeness_of.ensures ∙ ap (λ u. likeness u row) c.meta-meta.ensures in
    let kept = subst (λ l. IsFirstLike c.loop-row.firsts c.first_like.new.firsts l c.len-next.result c.in_ok-first.field-0) like c.in_ok-first.ensures in
    let made = subst (λ whole. IsMethod v n row whole c.in_ok-method_of-in-None-2.field-0) c.get.ensures c.in_ok-method_of-in-None-2.ensures in
    subst (λ k. AreMade v n (take k pairs) c.push.new.self c.first_like.new.firsts) (sym (length_push c.loop-row.yielded (c.in-Some.row, c.in-Some.whole)))
    (one_more_made v n c.args.bodies.now (length c.loop-row.yielded) row c.in-Some.whole.now c.loop-row.table c.push.new.self c.in_ok-method_of-in-None-2.field-0 c.len-next.result c.loop-row.firsts c.first_like.new.firsts c.in_ok-first.field-0 c.loop-row.invariant
    (turn before) c.len-next.ensures kept made c.in_ok-push-in-None-2.ensures)

pub returns : goal.returns
returns c =
    let rows = c.args.rows.now.keys in
    let bodies = c.args.bodies.now in
    let all = zip_end rows bodies c.loop-row.yielded c.into_iter-row-iterator.result c.loop-row.row-iterator c.next.new.self c.next.result (cc) (cc) c.loop-row.yielded_by c.in-None.is c.next.ensures.steps in
    subst (λ l. AllZip (λ pair method. IsMethod c.args.tokens.now (record { keys = c.args.types.now.keys; rows = rows }) pair.0 pair.1 method) l c.loop-row.table) (all_pairs rows bodies (length c.loop-row.yielded) all) c.loop-row.invariant.methods_are
