use Rattle.std.proofs.Common.{◌≡◌, ◌≤◌, take, drop, reverse, length}
use Rattle.px_verify_kinds.specs.Stacks.{IsStack, kinds_of}
use Rattle.px_verify_flow.specs.Rows.{fit_places}
use Rattle.px_verify_flow.proofs.rows.calls.take_arguments.Given as goal

-- the rest of the parameters fits the rest of the stack where all fit all, and leaves what all leave
abbrev pub invariant-loop-index : goal.invariant-loop-index
invariant-loop-index l = record {
  fit : fit_places l.program.types (reverse (take l.index l.params)) (kinds_of l.stacks l.rest) ≡ fit_places l.program.types (reverse l.params) (kinds_of l.stacks l.fn.stack);
  left : drop l.index (kinds_of l.stacks l.rest) ≡ drop (length l.params) (kinds_of l.stacks l.fn.stack);
  high : l.index ≤ length (kinds_of l.stacks l.rest);
  there : IsStack l.stacks l.rest;
}
