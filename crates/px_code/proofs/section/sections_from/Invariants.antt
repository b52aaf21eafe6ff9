use Rattle.std.proofs.Common.{◌≡◌, ◌+◌, ◌-◌, ◌<◌, ◌^◌, length}
use Rattle.px_code.specs.Body.{sections_from}
use Rattle.px_code.proofs.Front.{onto}
use Rattle.px_code.proofs.Sections.{left}
use Rattle.px_code.proofs.section.sections_from.Given as goal

-- the clauses so far, and those of the sections to come, are all
abbrev pub invariant-loop-at : goal.invariant-loop-at
invariant-loop-at l = record {
  near : l.at < 2 ^ 32;
  front : onto l.clauses.items (left l.instrs l.bytes l.at) ≡ sections_from (length l.bytes) l.instrs l.bytes l.from;
}

-- a section takes some of the bytes that are left
abbrev pub decreases-loop-at : goal.decreases-loop-at
decreases-loop-at l = length l.bytes + 1 - l.at
