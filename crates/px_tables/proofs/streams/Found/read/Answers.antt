use Rattle.std.proofs.Common.{◌∙◌, sym, rules}
use Rattle.px_tables.proofs.Headers.{found_is, header_fails, header_more, no_more, place_behind}
use Rattle.px_tables.proofs.streams.Found.read.Goals as goal

pub returns-in_err-stream : goal.returns-in_err-stream
returns-in_err-stream c =
    let root = c.args.root in
    let fails = sym (header_fails root.count c.loop-header._header c.args.metadata.now c.loop-header.at c.loop-header.found c.in_err-stream.field-0.0 c.loop-header-test.true (sym c.in_err-stream.ensures.exact)) in
    let whole = found_is c.args.metadata.now root in
    let rest = c.loop-header.invariant.rest in
    search rules

pub loop-header-preserved : goal.loop-header-preserved
loop-header-preserved c =
    let l = c.loop-header in
    let stream = c.in_ok-stream.stream in
    let place = place_behind l.at c.padded.result _ stream c.stream.view_is c.padded.ensures.padded in
    record {
      rest = rw (place, c.add.ensures)
          (sym (header_more c.args.root.count l._header c.args.metadata.now l.at l.found stream c.loop-header-test.true (sym c.in_ok-stream.ensures.exact)) ∙ l.invariant.rest);
      inside = rw place c.in_ok-stream.ensures.inside;
    }

pub returns : goal.returns
returns c =
    sym (no_more c.args.root.count c.loop-header._header c.args.metadata.now c.loop-header.at c.loop-header.found c.loop-header-test.false)
    ∙ c.loop-header.invariant.rest ∙ found_is c.args.metadata.now c.args.root
