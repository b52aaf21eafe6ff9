-- Programs that can be written, as the parts of the writer see them.
use Rattle.std.specs.Prelude.{◌≡◌, ◌⊎◌, ℕ, ◌<◌, ◌^◌, length, true}
use Rattle.px_meta.specs.Rows.{is_in}
use Rattle.px_program.specs.declared.program.Program.{Program}
use Rattle.px_asm_described.specs.Writable.{IsWritable}
use Rattle.px_asm_law_written.specs.Tokens.{fields_of}

-- a program whose rows fit in tokens
pub record HasRoom (p : Program) : Type 0 where
  pub writable : IsWritable p
  pub types : length p.types < 2 ^ 23
  pub methods : length p.methods < 2 ^ 23
  pub fields : length (fields_of p p.layout.types) < 2 ^ 23

-- the type of a number is one of the assembly
abbrev pub IsLaid : Program → ℕ → Type 0
IsLaid p type = is_in p.layout.types type ≡ true

-- the type of a number is one of the library or of the assembly, and no array
abbrev pub IsTyped : Program → ℕ → Type 0
IsTyped p type = (type < 18) ⊎ IsLaid p type
