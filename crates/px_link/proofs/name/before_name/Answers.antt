use Rattle.std.proofs.Common.{◌≢◌, [], sym}
use Rattle.px_link.specs.Names.{with_namespace}
use Rattle.px_link.proofs.Naming.{namespace_told, no_dot, no_name, none_told, some_by_test}
use Rattle.px_link.proofs.name.before_name.Goals as goal

pub returns-in_err-front : goal.returns-in_err-front
returns-in_err-front c =
    let text = c.args.text.now in
    let namespace = c.args.namespace.now in
    let name = c.args.name.now in
    none_told text (with_namespace namespace name) c.from_residual.result c.from_residual.ensures (no_name text namespace name c.in_err-front.ensures)

pub returns-in_err-before : goal.returns-in_err-before
returns-in_err-before c =
    let text = c.args.text.now in
    let namespace = c.args.namespace.now in
    let name = c.args.name.now in
    let some : namespace ≢ [] = some_by_test namespace (sym c.if-is_empty.ensures) in
    none_told text (with_namespace namespace name) c.from_residual-in_err-before.result c.from_residual-in_err-before.ensures
    (no_dot text namespace name c.in_ok-front.front.now some c.in_ok-front.ensures c.in_err-before.ensures)

pub returns : goal.returns
returns c =
    let some : c.args.namespace.now ≢ [] = some_by_test c.args.namespace.now (sym c.if-is_empty.ensures) in
    namespace_told c.args.text.now c.args.namespace.now c.args.name.now c.in_ok-front.front.now c.in_ok-before.field-0.now c.before-4.result some c.in_ok-front.ensures c.in_ok-before.ensures c.before-4.ensures
