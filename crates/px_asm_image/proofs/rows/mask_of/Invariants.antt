use Rattle.std.proofs.Common.{◌≡◌, ◌<◌, ◌+◌, ◌*◌, ◌^◌, drop}
use Rattle.px_asm_image.specs.Metadata.{mask_of}
use Rattle.px_asm_image.proofs.rows.mask_of.Given as goal

-- the bits so far and those that are left
abbrev pub invariant-loop-table : goal.invariant-loop-table
invariant-loop-table l = record {
  bits : l.mask + 2 ^ l.table * mask_of (drop l.table l.tables) ≡ mask_of l.tables;
  small : l.mask < 2 ^ l.table;
}
