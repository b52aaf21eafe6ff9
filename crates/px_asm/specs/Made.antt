-- The rows of a program's tables, before they are put together.
use Rattle.std.specs.Prelude.{◌≡◌, ℕ, List, []}
use Rattle.std.specs.List.{AllZip}
use Rattle.px_program.specs.declared.program.Program.{Program}
use Rattle.px_tables.specs.declared.tables.Row.{Row}
use Rattle.px_asm_law_written.specs.Holds.{AreTypeDefs, IsFieldDef, IsImplRow, IsLocals, IsSpecRow, IsTypeRef, all_places, all_referred, overriding_pairs, table_in}
use Rattle.px_asm_law_written.specs.Store.{Store}
use Rattle.px_asm_rows.specs.Tables.{AreMethodRows}
use Rattle.px_asm_law_written.specs.Tokens.{fields_of}
use Rattle.px_asm.specs.declared.tables.Made.{Made}

-- the rows are those of the program, by the addresses of its bodies
pub record AreMade (p : Program) (s : Store) (addresses : List ℕ) (made : Made) : Type 0 where
  pub type_refs : AllZip (IsTypeRef s) all_referred made.type_refs
  pub type_defs : AreTypeDefs p s made.type_defs
  pub fields : AllZip (IsFieldDef p s) (fields_of p p.layout.types) made.fields
  pub methods : AreMethodRows p s p.layout.methods addresses made.methods
  pub locals : AllZip (IsLocals p s) p.layout.methods made.locals
  pub impls : AllZip (IsImplRow p) (overriding_pairs p) made.impls
  pub specs : AllZip (IsSpecRow p s) (all_places p) made.specs

-- each table has its rows, and no class is nested in another
pub record AreListed (made : Made) (references : List Row) (tables : List (List Row)) : Type 0 where
  pub type_refs : table_in tables 0x01 ≡ made.type_refs
  pub type_defs : table_in tables 0x02 ≡ made.type_defs
  pub fields : table_in tables 0x04 ≡ made.fields
  pub methods : table_in tables 0x06 ≡ made.methods
  pub references_are : table_in tables 0x0A ≡ references
  pub locals : table_in tables 0x11 ≡ made.locals
  pub impls : table_in tables 0x19 ≡ made.impls
  pub specs : table_in tables 0x1B ≡ made.specs
  pub no_nested : table_in tables 0x29 ≡ []
