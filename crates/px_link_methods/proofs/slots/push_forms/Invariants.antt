use Rattle.std.proofs.Common.{◌≡◌, ◌++◌, map, take}
use Rattle.px_link_methods.specs.Slots.{is_other}
use Rattle.px_link_methods.proofs.slots.push_forms.Given as goal

abbrev pub invariant-loop-item : goal.invariant-loop-item
invariant-loop-item l = l.forms.items ≡ l.fn.forms.items ++ map (is_other l.meta) (take l.item-index l.items)
