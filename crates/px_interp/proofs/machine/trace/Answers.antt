use Rattle.std.proofs.Common.{arith}
use Rattle.px_interp.proofs.Runs.{kept_bound, kept_end, kept_event, kept_on, needed}
use Rattle.px_interp.proofs.machine.trace.Goals as goal
use Rattle.px_interp.proofs.machine.trace.Goals.{in-Goes, in-Chooses+in_ok-push-in-Chooses}

pub instr_of-instr-requires-clause-there : goal.instr_of-instr-requires-clause-there
instr_of-instr-requires-clause-there g c = c.requires.typed.there c.loop-i.at _ c.loop-i.invariant.ready.depth

pub act-requires-clause-needs : goal.act-requires-clause-needs
act-requires-clause-needs g c =
    needed g.met.W.Worded.laws c.args.method.now c.requires.typed c.args.number c.args.args.now c.args.steps c.args.pool.now c.requires.args c.loop-i.i _ _ c.loop-i.invariant c.loop-i-test.true c.instr_of-instr.result.now c.instr_of-instr.ensures

pub returns-in-Ends : goal.returns-in-Ends
returns-in-Ends g c =
    let came = kept_end g.met.W.Worded.laws c.args.method.now c.requires.typed c.args.number c.args.args.now c.args.steps c.args.pool.now c.requires.args c.loop-i.i _ _ c.loop-i.invariant c.loop-i-test.true c.instr_of-instr.result.now c.instr_of-instr.ensures
    c.in-Ends.end c.act.new.pool (rw c.in-Ends.is at c.in_ok-to.ensures) in
    record { seen = came.seen; end = came.ended; pool_after = came.pool; short = omega (arith, c.loop-i.invariant.short, c.loop-i.seen.ok.0, c.loop-i-test.true); words = came.words }

pub loop-i-preserved : goal.loop-i-preserved
loop-i-preserved g c =
    elim c.match-branch-2.branch [
      | in-Goes w ↦
          rw (w.at-is, w.seen-is)
          (kept_on g.met.W.Worded.laws c.args.method.now c.requires.typed c.args.number c.args.args.now c.args.steps c.args.pool.now c.requires.args c.loop-i.i _ _ c.loop-i.invariant c.loop-i-test.true c.instr_of-instr.result.now c.instr_of-instr.ensures
          _ (rw w.in-Goes.is at c.in_ok-to.ensures))
      | in-Chooses+in_ok-push-in-Chooses w ↦
          rw (w.at-is, w.seen-is, w.in_ok-push-in-Chooses.ensures.items)
          (kept_event g.met.W.Worded.laws c.args.method.now c.requires.typed c.args.number c.args.args.now c.args.steps c.args.pool.now c.requires.args c.loop-i.i _ _ c.loop-i.invariant c.loop-i-test.true c.instr_of-instr.result.now c.instr_of-instr.ensures
          _ _ (rw w.in-Chooses.is at c.in_ok-to.ensures))
    ]

pub returns : goal.returns
returns g c =
    let came = kept_bound g.met.W.Worded.laws c.args.method.now c.requires.typed c.args.number c.args.args.now c.args.steps c.args.pool.now c.requires.args c.loop-i.i _ _ c.loop-i.invariant c.loop-i-test.false in
    record { seen = came.seen; end = came.ended; pool_after = came.pool; short = omega (arith, c.loop-i.invariant.short, c.loop-i.seen.ok.0, c.loop-i.auto.i-end); words = came.words }
