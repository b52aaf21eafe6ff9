use Rattle.std.proofs.Common.{take}
use Rattle.std.specs.List.{AllZip}
use Rattle.px_link_methods.specs.Codes.{IsInstr}
use Rattle.px_link_methods.proofs.codes.instrs_of.Given as goal

-- the instructions so far
abbrev pub invariant-loop-raw : goal.invariant-loop-raw
invariant-loop-raw l = AllZip (IsInstr l.tokens (record { keys = l.types.keys; rows = l.rows.keys }) l.forms) (take l.raw-index l.raws) l.instrs.items
