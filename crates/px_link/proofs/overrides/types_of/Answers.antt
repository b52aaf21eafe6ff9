use Rattle.std.proofs.Common.{◌<◌, length, slice_index_or, sym, ap, ◌∙◌, subst, arith}
use Rattle.px_link_methods.specs.Codes.{Numbering}
use Rattle.px_sig.specs.declared.sig.Integer.TheVariants.{Bool}
use Rattle.px_link_types.proofs.Known.{key_of}
use Rattle.px_link_types.specs.declared.key.Key.{Key}
use Rattle.px_link_types.specs.declared.key.Leaf.TheVariants.{Number}
use Rattle.px_link.specs.Overrides.{AreOverrides}
use Rattle.px_link.proofs.Typed.{all_linked, bare_types, key_there, no_targets, so_far_on}
use Rattle.px_link.proofs.overrides.types_of.Goals as goal

pub returns-then-is_empty : goal.returns-then-is_empty
returns-then-is_empty c =
    bare_types c.args.meta.now c.args.types.now.tables (record { keys = c.args.types.now.keys; rows = c.args.rows.now }) c.args.overriding.now.lists c.args.targets.now c.in_ok-infos.infos.items c.requires.tables
    c.sound_tables-tables.ensures.sound c.sound_tables-tables.ensures.faultless c.keys-keys.ensures.kept (no_targets c.args.targets.now (sym c.is_empty.ensures ∙ c.if-is_empty.true)) c.in_ok-infos.ensures.infos c.in_ok-infos.ensures.formed

pub overrides_of-requires-clause-key : goal.overrides_of-requires-clause-key
overrides_of-requires-clause-key c =
    key_there c.args.meta.now c.args.types.now.tables c.args.types.now.keys c.keys-keys.result.now c.loop-n.n _ c.requires.tables c.sound_tables-tables.ensures.sound c.keys-keys.ensures.kept c.keys-keys.ensures.keys c.loop-n-test.true

pub loop-n-preserved : goal.loop-n-preserved
loop-n-preserved c =
    let v = c.args.meta.now in
    let n : Numbering = record { keys = c.args.types.now.keys; rows = c.args.rows.now } in
    let lists = c.args.overriding.now.lists in
    let first : Key = record { depth = 0; leaf = Number Bool } in
    let key = slice_index_or c.keys-keys.result.now c.loop-n.n first in
    let overrides : AreOverrides v n lists c.args.targets.now key.depth key.leaf c.in_ok-overrides.overrides =
    subst (λ rows. AreOverrides v (record { keys = c.args.types.now.keys; rows = rows }) lists c.args.targets.now key.depth key.leaf c.in_ok-overrides.overrides) c.in_ok-numbers.ensures (c.in_ok-overrides.ensures c.args.types.now.keys) in
    let infos = c.in_ok-infos.ensures.infos in
    let less : c.loop-n.n < length c.loop-n.infos.items = omega (arith, c.loop-n.invariant.count, infos.count, ap length c.keys-keys.ensures.keys, c.loop-n-test.true) in
    so_far_on v n lists c.args.targets.now c.in_ok-infos.infos.items c.loop-n.infos.items c.loop-n.n key c.index_mut.result.now c.in_ok-overrides.overrides c.loop-n.invariant less
    (key_of c.args.types.now.keys c.keys-keys.result.now c.loop-n.n first c.keys-keys.ensures.keys c.loop-n-test.true) c.index_mut.ensures.value overrides

pub returns : goal.returns
returns c =
    all_linked c.args.meta.now c.args.types.now.tables (record { keys = c.args.types.now.keys; rows = c.args.rows.now }) c.args.overriding.now.lists c.args.targets.now c.in_ok-infos.infos.items c.loop-n.infos.items c.loop-n.n c.requires.tables c.loop-n.invariant
    c.in_ok-infos.ensures.infos c.in_ok-infos.ensures.formed (omega (arith, ap length c.keys-keys.ensures.keys, c.loop-n-test.false))
