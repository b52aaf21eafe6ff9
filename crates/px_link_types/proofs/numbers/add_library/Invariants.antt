use Rattle.std.proofs.Common.{◌≡◌, take}
use Rattle.px_link_types.specs.Numbers.{library_keys}
use Rattle.px_link_types.proofs.numbers.add_library.Given as goal

-- the first types so far
abbrev pub invariant-loop-number : goal.invariant-loop-number
invariant-loop-number l = l.keys.keys ≡ take l.number library_keys
