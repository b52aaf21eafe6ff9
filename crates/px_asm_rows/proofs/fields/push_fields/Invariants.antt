use Rattle.std.proofs.Common.{◌≡◌, ◌++◌, map, take}
use Rattle.px_asm_rows.proofs.fields.push_fields.Given as goal

abbrev pub invariant-loop-place : goal.invariant-loop-place
invariant-loop-place l = l.fields.items ≡ l.initial.fields.items ++ map (λ place. (l.is_static, place)) (take l.place-index l.places)
