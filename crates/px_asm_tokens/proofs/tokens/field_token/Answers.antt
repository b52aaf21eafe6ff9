use Rattle.std.proofs.Common.{arith}
use Rattle.px_asm_tokens.proofs.TokenRows.{owner_laid, rows_fit}
use Rattle.px_asm_tokens.proofs.tokens.field_token.Goals as goal

pub first_field-requires : goal.first_field-requires
first_field-requires c = owner_laid c.args.rows.now c.args.field.now c.program-program.ensures.room c.requires

pub overflow_add-result-2 : goal.overflow_add-result-2
overflow_add-result-2 c =
    let p = c.args.rows.now in
    let room = c.program-program.ensures.room in
    omega (arith, rows_fit p c.args.field.now.owner c.requires.type room (owner_laid p c.args.field.now room c.requires) c.requires.at, c.first_field.ensures.row)
