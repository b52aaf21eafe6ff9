use Rattle.std.proofs.Common.{◌≡◌, take}
use Rattle.px_interp.specs.Run.{seen_events}
use Rattle.px_interp.proofs.plain_run.events_of.Given as goal

abbrev pub invariant-loop-choice : goal.invariant-loop-choice
invariant-loop-choice l = l.events ≡ seen_events (take l.choice-index l.seen)
