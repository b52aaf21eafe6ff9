use Rattle.std.proofs.Common.{refl}
use Rattle.px_asm_store.proofs.StoreStays.{store_grows_on, string_stays}
use Rattle.px_asm_rows.proofs.TableTexts.{table_plain_text}
use Rattle.px_asm_rows.proofs.types.module_row.Goals as goal

pub name-requires : goal.name-requires
name-requires c = table_plain_text _ refl

pub returns-clause-row : goal.returns-clause-row
returns-clause-row c = record {
  name = string_stays c.name.new.self.strings c.name-2.new.self.strings c.in_ok-namespace.ensures.grows.strings c.in_ok-name.name _ c.in_ok-name.ensures.stands;
  namespace = c.in_ok-namespace.ensures.stands;
  no_base = refl;
  fields = refl;
  methods = refl;
}

pub returns-clause-grows : goal.returns-clause-grows
returns-clause-grows c = store_grows_on c.args.store.now c.name.new.self c.name-2.new.self c.in_ok-name.ensures.grows c.in_ok-namespace.ensures.grows
