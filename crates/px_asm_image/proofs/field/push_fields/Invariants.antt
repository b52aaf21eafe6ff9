use Rattle.std.proofs.Common.{◌≡◌, ◌++◌, take}
use Rattle.std.specs.List.{flat_map}
use Rattle.px_asm_image.specs.Parts.{field_bytes}
use Rattle.px_asm_image.proofs.field.push_fields.Given as goal

-- the fields so far are written
abbrev pub invariant-loop-field : goal.invariant-loop-field
invariant-loop-field l = l.file.items ≡ l.fn.file.items ++ flat_map field_bytes (take l.field-index l.fields)
