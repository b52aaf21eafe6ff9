use Rattle.std.proofs.Common.{◌≡◌, ◌+◌, ◌-◌, ◌<◌, ◌≤◌, ◌^◌, length}
use Rattle.std.specs.Prelude.{All}
use Rattle.px_code.specs.Body.{instrs_from}
use Rattle.px_code.proofs.Front.{with_front}
use Rattle.px_code.proofs.read.instrs_of.Given as goal

-- the instructions so far, and those to come, are all
abbrev pub invariant-loop-at : goal.invariant-loop-at
invariant-loop-at l = record {
  inside : l.at ≤ length l.code;
  short : All (λ i. l.base + i.offset < 2 ^ 31) l.instrs.items;
  front : with_front l.instrs.items l.base l.code l.at ≡ instrs_from (length l.code) l.base l.code 0;
}

-- the rest of the code grows shorter
abbrev pub decreases-loop-at : goal.decreases-loop-at
decreases-loop-at l = length l.code - l.at
