use Rattle.std.proofs.Common.{◌≡◌, ◌/◌, ◌%◌, ◌<◌, get_or, sym, ap, subst}
use Rattle.px_meta.specs.Rows.{IsRow, type_defs, type_refs}
use Rattle.px_link_types.proofs.Tables.{base_defined, base_named}
use Rattle.px_link_types.proofs.table.base_index.Goals as goal

pub returns-clause-defined : goal.returns-clause-defined
returns-clause-defined c =
    let v = c.args.tables.now in
    let is = sym (ap (λ cells. get_or cells 3 0) c.row.ensures.cells) in
    subst (λ n. 0 < n / 4 → n % 4 ≡ 0 → IsRow v type_defs (n / 4)) is (base_defined v c.args.row c.row.ensures.sound c.requires)

pub returns-clause-named : goal.returns-clause-named
returns-clause-named c =
    let v = c.args.tables.now in
    let is = sym (ap (λ cells. get_or cells 3 0) c.row.ensures.cells) in
    subst (λ n. 0 < n / 4 → n % 4 ≡ 1 → IsRow v type_refs (n / 4)) is (base_named v c.args.row c.row.ensures.sound c.requires)
