use Rattle.std.proofs.Common.{take}
use Rattle.std.specs.List.{flat_map}
use Rattle.px_link_methods.specs.Methods.{keys_of_instr}
use Rattle.px_link_methods.specs.Parts.{IsAdded}
use Rattle.px_link_methods.proofs.met.push_instrs.Given as goal

abbrev pub invariant-loop-raw : goal.invariant-loop-raw
invariant-loop-raw l = IsAdded l.tokens l.fn.keys.items (flat_map (keys_of_instr l.tokens) (take l.raw-index l.raws)) l.keys.items
