use Rattle.std.proofs.Common.{refl}
use Rattle.px_asm_rows.proofs.TableTexts.{table_plain_text}
use Rattle.px_asm.proofs.tables.assembly.Goals as goal

pub name-requires : goal.name-requires
name-requires c = table_plain_text _ refl
