use Rattle.std.proofs.Common.{arith, rules, ltb}
use Rattle.std.proofs.lemmas.List.Sorted.{IsPartitionPoint-from_clause}
use Rattle.px_link_methods.specs.Codes.{place_of}
use Rattle.px_asm_described.specs.Writable.{owner_place}
use Rattle.px_asm_rows.proofs.TableCounts.{table_cut_at, table_owners_rise}
use Rattle.px_asm_rows.proofs.types.first_method.Goals as goal

pub returns : goal.returns
returns c =
    let p = c.args.rows.now in
    let f = owner_place p in
    let xs = p.layout.methods in
    let owners = c.args.owners.now in
    let row = c.type_row-row.result in
    let cut = c.partition_point.result in
    let rise = table_owners_rise f xs owners row c.requires.owners c.requires.ordered in
    let point = IsPartitionPoint-from_clause (λ y. ltb y row) owners cut c.partition_point.ensures.partitioned rise (λ a r q k. search rules) in
    let counted = table_cut_at f xs owners row (place_of p.layout.types c.args.number) cut c.requires.owners c.type_row-row.ensures.row c.partition_point.ensures.bound point in
    record { first = omega (arith, counted) }
