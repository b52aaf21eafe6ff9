use Rattle.std.proofs.Common.{arith}
use Rattle.px_asm_tokens.proofs.TokenRows.{instances_are, instances_read, rows_fit, static_laid}
use Rattle.px_asm_tokens.proofs.tokens.static_token.Goals as goal

pub overflow_cast-instances : goal.overflow_cast-instances
overflow_cast-instances c =
    let p = c.args.rows.now in
    let owner = c.args.field.now.owner in
    let room = c.program.ensures.room in
    let count = instances_read p c.program.result.now c.as_slice-types.result.now owner c.len-instances.result c.requires.type c.index-types-field.result c.as_slice-types.ensures c.program.ensures.same c.requires.at c.len-instances.ensures in
    omega (arith, rows_fit p owner c.requires.type room (static_laid p c.args.field.now room c.requires) c.requires.at, count)

pub first_field-requires : goal.first_field-requires
first_field-requires c = static_laid c.args.rows.now c.args.field.now c.program.ensures.room c.requires

pub overflow_add-result-2 : goal.overflow_add-result-2
overflow_add-result-2 c =
    let p = c.args.rows.now in
    let room = c.program.ensures.room in
    omega (arith, rows_fit p c.args.field.now.owner c.requires.type room (static_laid p c.args.field.now room c.requires) c.requires.at, c.first_field.ensures.row)

pub overflow_add-result-3 : goal.overflow_add-result-3
overflow_add-result-3 c =
    let p = c.args.rows.now in
    let owner = c.args.field.now.owner in
    let room = c.program.ensures.room in
    let count = instances_read p c.program.result.now c.as_slice-types.result.now owner c.len-instances.result c.requires.type c.index-types-field.result c.as_slice-types.ensures c.program.ensures.same c.requires.at c.len-instances.ensures in
    omega (arith, rows_fit p owner c.requires.type room (static_laid p c.args.field.now room c.requires) c.requires.at, c.first_field.ensures.row, count)

pub returns : goal.returns
returns c =
    let p = c.args.rows.now in
    let owner = c.args.field.now.owner in
    let count = instances_read p c.program.result.now c.as_slice-types.result.now owner c.len-instances.result c.requires.type c.index-types-field.result c.as_slice-types.ensures c.program.ensures.same c.requires.at c.len-instances.ensures in
    omega (arith, c.first_field.ensures.row, count, instances_are p owner c.requires.type c.requires.at)
