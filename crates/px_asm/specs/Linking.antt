-- The metadata of an image.
use Rattle.std.specs.Prelude.{ℕ, List, take, drop}
use Rattle.px_pe.specs.Image.{View}

abbrev pub metadata_in : View → List ℕ
metadata_in image = take image.metadata.len (drop image.metadata.start image.bytes)
