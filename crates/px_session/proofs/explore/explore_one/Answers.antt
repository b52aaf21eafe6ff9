use Rattle.std.proofs.Common.{◌≡◌, ◌∙◌, ap, length, rules}
use Rattle.px_session.proofs.Nowhere.{sound}
use Rattle.px_tree.specs.Tree.{paths_of, untaken_of}
use Rattle.px_session.proofs.explore.explore_one.Goals as goal

pub returns-clause-sound : goal.returns-clause-sound
returns-clause-sound c =
    let count : c.len.result ≡ length c.in_ok-untaken.untaken.items = search rules in
    sound c.args.program.now (record { domain = c.args.domain; bounds = c.args.bounds; limits = c.args.limits; records = c.from_vec.result; refuted = c.len.result })
    c.in_ok-records.records.items c.in_ok-untaken.untaken.items c.in_ok-records.ensures c.from_vec.ensures
    (c.in_ok-untaken.ensures ∙ ap (λ rs. untaken_of (paths_of rs)) c.as_slice.ensures.value) count
