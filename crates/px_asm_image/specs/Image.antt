-- An image as it is written: its headers, and one section with the CLI header, the metadata and the bodies of methods (Partition II, 25.2 and 25.3).
use Rattle.std.specs.Prelude.{◌≡◌, ℕ, ◌+◌, ◌<◌, List, ◌++◌, Some, Ok, length, take, drop}
use Rattle.px_pe.specs.Image.{View, image_of}
use Rattle.px_pe.specs.Section.{rest_at}
use Rattle.px_pe.specs.declared.section.Span.{Span}

-- the address of the first body: the section begins at 0x2000 with the 72 bytes of the CLI header, and the metadata stands behind the bodies
abbrev pub first_body : ℕ
first_body = 0x2048

-- from the address of a body on, the image has the bodies from there, and the metadata behind them
pub record HasBodies (file : List ℕ) (view : View) (address : ℕ) (bodies : List ℕ) : Type 0 where
  pub span : Span
  pub at : rest_at view.sections address ≡ Some span
  pub rest : List ℕ
  pub are : take span.len (drop span.start file) ≡ bodies ++ rest

-- the bytes are an image with this metadata, and with these bodies from the address of the first on
pub record IsImageOf (metadata bodies file : List ℕ) : Type 0 where
  pub view : View
  pub read : image_of file ≡ Ok view
  pub metadata_is : take view.metadata.len (drop view.metadata.start file) ≡ metadata
  pub bodies_are : (at : ℕ) → at < length bodies → HasBodies file view (first_body + at) (drop at bodies)
