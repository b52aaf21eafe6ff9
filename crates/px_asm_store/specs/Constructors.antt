-- Signatures of constructors.
use Rattle.std.specs.Prelude.{ℕ, List}
use Rattle.std.specs.List.{AllZip}
use Rattle.px_program.specs.declared.program.Place.{Place}
use Rattle.px_program.specs.declared.program.Program.{Program}
use Rattle.px_asm_described.specs.Describes.{IsTypeOf}
use Rattle.px_sig.specs.Grammar.{method_sig}
use Rattle.px_sig.specs.declared.sig.SigType.{SigType}
use Rattle.px_asm_law_written.specs.Store.{HasSig, Store, constructor_sig}

-- the signature of a constructor with parameters of these places stands there
pub record HasConstructorSig (p : Program) (s : Store) (params : List Place) (at : ℕ) : Type 0 where
  pub types : List SigType
  pub takes : AllZip (IsTypeOf p) params types
  pub stands : HasSig method_sig s.blob at (constructor_sig types)
