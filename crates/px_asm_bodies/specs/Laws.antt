-- What was read can be written.
use Rattle.std.specs.Prelude.{◌≡◌, ℕ, ◌<◌, List, Ok, All}
use Rattle.std.specs.List.{AllByRecursion}
use Rattle.px_code.specs.Body.{body_of}
use Rattle.px_code.specs.declared.body.Body.{Body}
use Rattle.px_asm_bodies.specs.Encoding.{IsEncodable}

-- the instructions of a body that was read from bytes can be written
abbrev pub ReadIsEncodable : Type 0
ReadIsEncodable = (bytes : List ℕ) (body : Body) → All (λ byte. byte < 256) bytes → body_of bytes ≡ Ok body → AllByRecursion IsEncodable body.code
