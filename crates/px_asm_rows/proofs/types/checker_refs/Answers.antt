use Rattle.std.proofs.Common.{refl}
use Rattle.std.specs.Prelude.{codes}
use Rattle.px_asm_store.proofs.StoreStays.{string_stays}
use Rattle.px_asm_rows.proofs.TableTexts.{table_plain_text}
use Rattle.px_asm_rows.proofs.TableTypes.{table_checkers, table_two_pushed}
use Rattle.px_asm_rows.proofs.types.checker_refs.Goals as goal

pub name-requires : goal.name-requires
name-requires c = table_plain_text _ refl

pub type_ref-requires-clause-text : goal.type_ref-requires-clause-text
type_ref-requires-clause-text c = table_plain_text _ refl

pub type_ref-requires-2-clause-text : goal.type_ref-requires-2-clause-text
type_ref-requires-2-clause-text c = table_plain_text _ refl

pub returns-clause-are : goal.returns-clause-are
returns-clause-are c =
    let start = c.name.new.self in
    let first = c.type_ref.new.store in
    let second = c.type_ref-2.new.store in
    let namespace = c.in_ok-namespace.namespace in
    let made = table_two_pushed c.new-made.result.items c.push.new.self.items c.push-2.new.self.items c.in_ok-type_ref.field-0 c.in_ok-type_ref-2.field-0 c.new-made.ensures.items c.in_ok-push.ensures.items c.in_ok-push-2.ensures.items in
    table_checkers first second c.in_ok-type_ref-2.ensures.grows c.push-2.new.self.items c.in_ok-type_ref.field-0 c.in_ok-type_ref-2.field-0 made
    (c.in_ok-type_ref.ensures.row (codes "Microsoft.Pex.Framework") c.in_ok-namespace.ensures.stands)
    (c.in_ok-type_ref-2.ensures.row (codes "Microsoft.Pex.Framework") (string_stays start.strings first.strings c.in_ok-type_ref.ensures.grows.strings namespace (codes "Microsoft.Pex.Framework") c.in_ok-namespace.ensures.stands))
