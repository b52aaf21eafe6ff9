use Rattle.std.proofs.Common.{◌≡◌, ◌++◌, map, take}
use Rattle.px_link_types.specs.Numbers.{field_key}
use Rattle.px_link_types.proofs.own.push_fields.Given as goal

-- what the fields so far hold has been added
abbrev pub invariant-loop-row : goal.invariant-loop-row
invariant-loop-row l = l.keys.items ≡ l.fn.keys.items ++ map (field_key l.meta) (take l.row-index l.rows)
