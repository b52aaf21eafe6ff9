use Rattle.std.proofs.Common.{◌≡◌, ◌++◌, take, map}
use Rattle.px_program.specs.Alone.{array_of}
use Rattle.px_program.specs.Library.{library_types}
use Rattle.px_program.proofs.single.types_with.Given as goal

-- an array for each element so far
abbrev pub invariant-loop-element : goal.invariant-loop-element
invariant-loop-element l = l.types.items ≡ library_types ++ map array_of (take l.element-index l.elements)
