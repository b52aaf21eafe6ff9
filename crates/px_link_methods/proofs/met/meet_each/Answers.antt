use Rattle.std.proofs.Common.{length, sym, ◌∙◌, subst}
use Rattle.std.specs.List.{zip}
use Rattle.std.proofs.lemmas.List.{length_push}
use Rattle.std.proofs.lemmas.Slice.Zip.{zip_end, zip_turn}
use Rattle.px_link_methods.specs.Parts.{IsMet}
use Rattle.px_link_methods.proofs.Passing.{AreMet, all_met, first_body, first_body_is, none_met, one_more_met}
use Rattle.px_link_methods.proofs.Pieces.{pair_of}
use Rattle.px_link_methods.proofs.met.meet_each.Goals as goal

pub loop-row-init : goal.loop-row-init
loop-row-init c = record { tables = c.requires.tables; met = none_met c.args.tokens.now c.args.rows.now c.args.bodies.now c.args.types.now.keys c.args.passed.now c.requires.sigs c.requires.bodies }

pub loop-row-preserved : goal.loop-row-preserved
loop-row-preserved c =
    let v = c.args.tokens.now in
    let rows = c.args.rows.now in
    let bodies = c.args.bodies.now in
    let done = length c.loop-row.yielded in
    let row = c.in-Some.row.now in
    let whole = c.in-Some.whole.now in
    let from = c.args.types.now.keys in
    let before = c.loop-row.types.keys in
    let after = c.meet_method.new.types.keys in
    let body = first_body v (zip rows bodies) in
    let so_far = c.loop-row.invariant in
    let t = zip_turn rows bodies c.loop-row.yielded c.into_iter-row-iterator.result c.loop-row.row-iterator c.next.new.self c.next.result (cc) (cc) c.loop-row.yielded_by (c.in-Some.row, c.in-Some.whole) c.in-Some.is c.next.ensures.steps in
    let pair = pair_of rows bodies done row whole t.0 t.1 (t.2 row) (t.3 whole) in
    let is = first_body_is v rows bodies done row whole c.requires.shared pair in
    let met = subst (λ w. IsMet v body (row, w) before after c.meet_method.new.passed) c.get.ensures (c.in_ok-meet_method.ensures.met body (is ∙ sym c.get.ensures) so_far.met.bodies_passed) in
    record {
      tables = c.in_ok-meet_method.ensures.tables ∙ so_far.tables;
      met =
          subst (λ n. AreMet v rows bodies from n after c.meet_method.new.passed) (sym (length_push c.loop-row.yielded (c.in-Some.row, c.in-Some.whole)))
          (one_more_met v rows bodies from done row whole before after c.loop-row.passed c.meet_method.new.passed so_far.met pair met);
    }

pub returns-clause-numbers : goal.returns-clause-numbers
returns-clause-numbers c =
    let rows = c.args.rows.now in
    let bodies = c.args.bodies.now in
    let all = zip_end rows bodies c.loop-row.yielded c.into_iter-row-iterator.result c.loop-row.row-iterator c.next.new.self c.next.result (cc) (cc) c.loop-row.yielded_by c.in-None.is c.next.ensures.steps in
    all_met c.args.tokens.now rows bodies c.args.types.now.keys (length c.loop-row.yielded) c.loop-row.types.keys c.loop-row.passed c.loop-row.invariant.met all
