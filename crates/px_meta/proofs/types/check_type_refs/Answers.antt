use Rattle.std.proofs.Common.{◌+◌, ap, ◌∙◌, arith}
use Rattle.std.specs.Prelude.{not}
use Rattle.px_meta.specs.Faults.{TypeRef}
use Rattle.px_meta.specs.Rows.{type_refs}
use Rattle.px_meta.proofs.Blame.{names_there, none_here, sound_more, table_blamed, token_blamed, type_ref_sound}
use Rattle.px_meta.proofs.types.check_type_refs.Goals as goal

pub returns-then-is_none-clause-fault : goal.returns-then-is_none-clause-fault
returns-then-is_none-clause-fault c =
    let v = c.args.tables.now in
    let n = c.loop-n.n in
    table_blamed v type_refs n c.at.result c.loop-n.invariant.sound
    (token_blamed v type_refs (n + 1) c.at.result (λ e. omega arith) c.at.ensures
    (TypeRef (n + 1) (record { some = omega arith; few = omega arith }) (none_here c.in_ok-names.field-0 _ _ (c.is_none.ensures ∙ ap not c.if-is_none.true) c.in_ok-names.ensures.names)))

pub loop-n-preserved : goal.loop-n-preserved
loop-n-preserved c =
    let v = c.args.tables.now in
    let n = c.loop-n.n in
    let names = names_there (λ x. x.0.now) (λ x. x.1.now) v type_refs (n + 1) c.in_ok-names.field-0 (c.is_none.ensures ∙ ap not c.if-is_none.false) c.in_ok-names.ensures.names in
    record {
      sound = sound_more v type_refs n c.loop-n.invariant.sound (type_ref_sound v (n + 1) names);
      known = c.in_ok-names.ensures.known;
    }
