use Rattle.std.proofs.Common.{◌≡◌, map, take}
use Rattle.px_link.specs.Raw.{instr_of}
use Rattle.px_link.proofs.raw.instrs_of.Given as goal

-- the code so far is that of the instructions so far
abbrev pub invariant-loop-raw : goal.invariant-loop-raw
invariant-loop-raw l = l.code.items ≡ map instr_of (take l.raw-index l.raws)
