use Rattle.std.proofs.Common.{refl}
use Rattle.px_asm_rows.proofs.TableTexts.{table_plain_text}
use Rattle.px_asm.proofs.tables.module.Goals as goal

pub named_row-requires-clause-text : goal.named_row-requires-clause-text
named_row-requires-clause-text c = table_plain_text _ refl
