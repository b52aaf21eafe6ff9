use Rattle.std.proofs.Common.{refl}
use Rattle.px_asm_store.proofs.StoreStays.{string_stays}
use Rattle.px_asm_rows.proofs.types.type_ref.Goals as goal

pub returns-clause-row : goal.returns-clause-row
returns-clause-row c = λ text stands. record {
  scope = refl;
  name = c.in_ok-name.ensures.stands;
  namespace = string_stays c.args.store.now.strings c.name.new.self.strings c.in_ok-name.ensures.grows.strings c.args.namespace text stands;
}
