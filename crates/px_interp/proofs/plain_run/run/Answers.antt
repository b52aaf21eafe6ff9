use Rattle.std.proofs.Common.{ap, map, ◌∙◌}
use Rattle.px_cells.specs.Plain.{plain}
use Rattle.px_interp.specs.Run.{with_receiver}
use Rattle.px_interp.proofs.PlainRuns.{entry_words, run_is}
use Rattle.px_interp.proofs.plain_run.run.Goals as goal

pub trace-requires-clause-args : goal.trace-requires-clause-args
trace-requires-clause-args c =
    rw (c.as_slice-2.ensures.value, c.in_ok-args.ensures, c.as_slice.ensures)
    (entry_words c.args.program.now c.args.domain.now c.entry-method.result.now c.args.words.now c.entry-method.ensures.entry c.requires.places c.requires.holds)

pub returns-clause-is_run : goal.returns-clause-is_run
returns-clause-is_run c =
    rw (c.in_ok-from_slice.ensures, c.as_slice-3.ensures, c.in_ok-events_of.ensures, c.as_slice-4.ensures.value, c.in_ok-gaps_of.ensures, c.as_slice-5.ensures.value)
    (run_is c.args.program.now c.args.domain.now c.args.bounds c.entry-method.result.now c.args.words.now c.as_slice-2.result.now c.in_ok-traced.traced.seen.items c.in_ok-traced.traced.end c.entry-method.ensures.entry
    (c.as_slice-2.ensures.value ∙ c.in_ok-args.ensures ∙ ap (λ words. map plain (with_receiver c.entry-method.result.now words)) c.as_slice.ensures)
    (rw c.program.ensures.same at c.in_ok-traced.ensures.seen)
    (rw c.program.ensures.same at c.in_ok-traced.ensures.end))
