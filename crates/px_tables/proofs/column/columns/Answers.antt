use Rattle.std.proofs.Common.{◌≡◌, ◌<◌, ◌≤◌, ℕ, List, [], length, map, get_or, ap, sym, ◌∙◌, arith, rules, Bor}
use Rattle.std.proofs.lemmas.List.{get_or-map, get_or_past}
use Rattle.px_tables.specs.Columns.{columns, columns_of}
use Rattle.px_tables.specs.declared.column.Column.{Column}
use Rattle.px_tables.proofs.Sizes.{few_columns}
use Rattle.px_tables.proofs.column.columns.Goals as goal

-- an entry of the table is that of the definition
found : (xs : List (Bor (List Column))) (i table : ℕ) (r : Bor (List Column)) → map (λ x. x.now) xs ≡ columns → i ≡ table → i < length xs → r ≡ get_or xs i r → r.now ≡ columns_of table
found xs i table r same is inside here =
    ap (λ x. x.now) here ∙ sym (get_or-map (λ x. x.now) xs i r [] inside) ∙ ap (λ k. get_or (map (λ x. x.now) xs) k []) is ∙ ap (λ ys. get_or ys table []) same

past : (i table : ℕ) → i ≡ table → length columns ≤ i → [] ≡ columns_of table
past i table is outside = sym (get_or_past columns table [] (omega arith))

pub returns-in-Some-clause-columns : goal.returns-in-Some-clause-columns
returns-in-Some-clause-columns c =
    let lookup = c.in-Some.ensures.lookup in
    let inside = (lookup.3).0 in let here = lookup.1 in search (rules, found)

pub returns-in-None-clause-columns : goal.returns-in-None-clause-columns
returns-in-None-clause-columns c = past _ c.args.table c.from.ensures c.in-None.ensures.lookup.3

pub returns-in-Some-clause-few : goal.returns-in-Some-clause-few
returns-in-Some-clause-few c = rw (returns-in-Some-clause-columns c) (few_columns c.args.table)
