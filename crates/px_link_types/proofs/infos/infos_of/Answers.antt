use Rattle.std.proofs.Common.{◌≡◌, length, ap, ◌∙◌, arith}
use Rattle.px_link_types.specs.Making.{AreKnown}
use Rattle.px_link_types.proofs.Formed.{are_types}
use Rattle.px_link_types.proofs.Known.{known_by, library_counts, listed_known, listed_made}
use Rattle.px_link_types.proofs.Places.{all_first, first_library, first_more, library_length}
use Rattle.px_link_types.proofs.infos.infos_of.Goals as goal
use Rattle.px_link_types.proofs.infos.infos_of.Goals.{After-keys-keys, After-len-n}

known_of : (c : After-keys-keys) → AreKnown c.args.types.now.tables c.args.types.now.keys
known_of c = known_by c.args.types.now.tables c.args.types.now.keys c.tables-tables.ensures.sound c.keys-keys.ensures.kept

begins_at : (c : After-len-n) → c.len-n.result ≡ 18
begins_at c = library_length c.len-n.result c.in_ok-infos.infos.items (c.len-n.ensures ∙ c.in_ok-infos.infos.ok.0) c.in_ok-infos.ensures

pub loop-n-init : goal.loop-n-init
loop-n-init c =
    first_library c.args.types.now.tables c.args.types.now.keys c.in_ok-infos.infos.items (known_of (goal.at.loop-n-init c).After-keys-keys) c.in_ok-infos.ensures c.len-n.result (c.len-n.ensures ∙ c.in_ok-infos.infos.ok.0)

pub info_of-requires-clause-made : goal.info_of-requires-clause-made
info_of-requires-clause-made c =
    listed_made c.args.types.now.tables c.args.types.now.keys c.keys-keys.result.now c.loop-n.n _ (known_of (goal.at.info_of-requires-clause-made c).After-keys-keys) c.keys-keys.ensures.keys
    (let start = begins_at (goal.at.info_of-requires-clause-made c).After-len-n in omega arith) c.loop-n-test.true

pub info_of-requires-clause-known : goal.info_of-requires-clause-known
info_of-requires-clause-known c =
    listed_known c.args.types.now.tables c.args.types.now.keys c.keys-keys.result.now c.loop-n.n _ (known_of (goal.at.info_of-requires-clause-known c).After-keys-keys) c.keys-keys.ensures.keys c.loop-n-test.true

pub loop-n-preserved : goal.loop-n-preserved
loop-n-preserved c =
    first_more c.args.types.now.tables c.args.types.now.keys c.keys-keys.result.now c.loop-n.n c.loop-n.infos.items c.push.new.self.items _ c.in_ok-info_of.field-0 c.loop-n.invariant c.keys-keys.ensures.keys c.loop-n-test.true c.in_ok-info_of.ensures
    c.in_ok-push.ensures.items

pub returns-clause-infos : goal.returns-clause-infos
returns-clause-infos c =
    let types = c.args.types.now in
    let start = begins_at (goal.at.returns-clause-infos c).After-len-n in
    let some = library_counts types.tables types.keys (known_of (goal.at.returns-clause-infos c).After-keys-keys) in
    all_first types.tables types.keys c.loop-n.n c.loop-n.infos.items c.loop-n.invariant (omega (arith, ap length c.keys-keys.ensures.keys))

pub returns-clause-formed : goal.returns-clause-formed
returns-clause-formed c =
    let types = c.args.types.now in
    let known = known_of (goal.at.returns-clause-formed c).After-keys-keys in
    let start = begins_at (goal.at.returns-clause-formed c).After-len-n in
    let some = library_counts types.tables types.keys known in
    let infos = all_first types.tables types.keys c.loop-n.n c.loop-n.infos.items c.loop-n.invariant (omega (arith, ap length c.keys-keys.ensures.keys)) in
    are_types types.tables types.keys c.loop-n.infos.items c.tables-tables.ensures.sound c.tables-tables.ensures.faultless known infos
