-- What the parts promise each other.
use Rattle.std.specs.Prelude.{◌≡◌, ℕ, Bool, List}
use Rattle.std.specs.List.{AllByRecursion}
use Rattle.px_meta.specs.Rows.{IsRow, fields, methods, type_defs}
use Rattle.px_meta.specs.Tokens.{AreRows}
use Rattle.px_tables.specs.Metadata.{View}
use Rattle.px_link_types.specs.Keys.{IsKey}
use Rattle.px_link_tokens.specs.Operands.{has_initialiser}
use Rattle.px_link_tokens.specs.declared.operand.Operand.{Operand}
use Rattle.px_link_tokens.specs.declared.operand.Operand.TheVariants as operand

-- whether a type has an initialiser
abbrev pub TellsInitialiser : View → ℕ → Bool → Type 0
TellsInitialiser v row flag = flag ≡ has_initialiser v row

-- for each type, whether it has an initialiser
abbrev pub AreInitialised : View → List Bool → Type 0
AreInitialised v flags = AreRows TellsInitialiser v type_defs flags

-- what an operand names is there
abbrev pub IsThere : View → Operand → Type 0
IsThere v (operand.Text units) = Unit {0}
IsThere v (operand.Type key) = IsKey v key
IsThere v (operand.Field row) = IsRow v fields row
IsThere v (operand.Method row) = IsRow v methods row
IsThere v (operand.Constructor class params) = AllByRecursion (IsKey v) params
IsThere v (operand.Check check) = Unit {0}
