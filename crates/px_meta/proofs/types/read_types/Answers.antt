use Rattle.std.proofs.Common.{false, subst, sym, ◌∙◌, arith}
use Rattle.std.proofs.lemmas.List.{get_or_read}
use Rattle.std.proofs.lemmas.Result.{err_from_is_err_and}
use Rattle.px_meta.specs.Chains.{base_in, outer_of}
use Rattle.px_meta.specs.Members.{IsType}
use Rattle.px_meta.specs.Rows.{count_of, type_defs}
use Rattle.px_meta.specs.Walks.{AreOf}
use Rattle.px_meta.proofs.Blame.{sound_all, sound_more, table_blamed}
use Rattle.px_meta.proofs.Rows.{first_push, of_at}
use Rattle.px_meta.proofs.Verdicts.{are_nexts, base_stays, ends_more, ends_at, outer_stays}
use Rattle.px_meta.proofs.types.read_types.Goals as goal

pub ends_of-requires : goal.ends_of-requires
ends_of-requires c =
    let v = c.args.tables.now in
    are_nexts v (outer_of v) c.deref.result.now (outer_stays v) (subst (λ xs. AreOf (outer_of v) (count_of v type_defs) xs) (sym c.deref.ensures.value) c.in_ok-outers.ensures)

pub ends_of-requires-2 : goal.ends_of-requires-2
ends_of-requires-2 c =
    let v = c.args.tables.now in
    are_nexts v (base_in v) c.deref-2.result.now (base_stays v) (subst (λ xs. AreOf (base_in v) (count_of v type_defs) xs) (sym c.deref-2.ensures.value) c.in_ok-bases.ensures)

pub read_type-requires-clause-outer : goal.read_type-requires-clause-outer
read_type-requires-clause-outer c =
    let v = c.args.tables.now in
    let e = c.index-outer.ensures in
    e ∙ of_at (outer_of v) (count_of v type_defs) c.in_ok-outers.outers.items c.loop-n.n c.index-outer.result.now c.in_ok-outers.ensures (omega arith)

pub read_type-requires-clause-bases : goal.read_type-requires-clause-bases
read_type-requires-clause-bases c =
    let v = c.args.tables.now in
    let ends = c.in_ok-bases_end.bases_end.items in
    let are = subst (λ xs. AreOf (base_in v) (count_of v type_defs) xs) (sym c.deref-2.ensures.value) c.in_ok-bases.ensures in
    ends_at v (base_in v) c.deref-2.result.now ends c.loop-n.n _ (base_stays v) are c.in_ok-bases_end.ensures.verdicts (omega arith)
    (get_or_read ends c.loop-n.n c.index-ends.result.now (omega (arith, c.in_ok-bases_end.ensures.size, c.in_ok-bases_end.bases_end.ok.0, are.count_is)) c.index-ends.ensures false)

pub read_type-requires-clause-outers : goal.read_type-requires-clause-outers
read_type-requires-clause-outers c =
    let v = c.args.tables.now in
    let ends = c.in_ok-outers_end.outers_end.items in
    let are = subst (λ xs. AreOf (outer_of v) (count_of v type_defs) xs) (sym c.deref.ensures.value) c.in_ok-outers.ensures in
    ends_at v (outer_of v) c.deref.result.now ends c.loop-n.n _ (outer_stays v) are c.in_ok-outers_end.ensures.verdicts (omega arith)
    (get_or_read ends c.loop-n.n c.index-outer_ends.result.now (omega (arith, c.in_ok-outers_end.ensures.size, c.in_ok-outers_end.outers_end.ok.0, are.count_is)) c.index-outer_ends.ensures false)

pub returns-in_err-read-clause-fault : goal.returns-in_err-read-clause-fault
returns-in_err-read-clause-fault c =
    let v = c.args.tables.now in
    let p = err_from_is_err_and c.from_residual-in_err-read.result c.from_residual-in_err-read.ensures.1 in
    rw (p.1, p.2) (table_blamed v type_defs c.loop-n.n c.in_err-read.field-0.0 c.loop-n.invariant.sound c.in_err-read.ensures.fault)

pub loop-n-preserved : goal.loop-n-preserved
loop-n-preserved c =
    let v = c.args.tables.now in
    record {
      read = first_push IsType v c.loop-n.n c.loop-n.types.items _ c.in_ok-read.read c.loop-n.invariant.read c.in_ok-read.ensures.read c.in_ok-push.ensures.items;
      ends = ends_more v c.loop-n.n c.loop-n.invariant.ends c.in_ok-read.ensures.end;
      known = c.in_ok-read.ensures.known;
      sound = sound_more v type_defs c.loop-n.n c.loop-n.invariant.sound c.in_ok-read.ensures.sound;
    }

pub returns-clause-sound : goal.returns-clause-sound
returns-clause-sound c = sound_all c.args.tables.now type_defs c.loop-n.n (omega arith) c.loop-n.invariant.sound

pub returns-clause-ends : goal.returns-clause-ends
returns-clause-ends c = λ row is. c.loop-n.invariant.ends row is.some (omega (arith, is.few))
